-- How many bytes of a raw body stand ready. Assumes nothing.
use Rattle.std.specs.Prelude.{ℕ, Bool, false, cond, not, ◌&&◌, [], ◌∷◌, is_some, ◌==◌}
use Rattle.std.specs.List.{position_or_len}
use Rattle.byte_lines.specs.Bytes.{Bytes}
use Rattle.byte_lines.specs.Lines.{crlf}
use Rattle.input.specs.Inputs.{shown, known}
use Rattle.scan.specs.declared.places.Place.{Place}
use Rattle.scan.specs.declared.places.Place.TheVariants.{Start, Return, Feed, Within, Ended}
use Rattle.scan.specs.declared.scans.Scan.{Scan}
use Rattle.source.specs.declared.sources.Source.{Ghosts}

-- how many bytes stand before the first CR
abbrev pub until_cr : Bytes → ℕ
until_cr s = position_or_len (λ b. b == 13) s

-- v is shown, and begins with a CR that no LF follows; `all` says that nothing comes behind v
abbrev pub lone_cr : (v : Bytes) → (all : Bool) → Bool
lone_cr [] all = false
lone_cr (b ∷ []) all = b == 13 && all
lone_cr (b ∷ c ∷ v) all = b == 13 && not (c == 10)

-- how many bytes of the line at hand stand ready where v is shown: those before the first CR, or a CR that ends no line
abbrev pub ready_in : (v : Bytes) → (all : Bool) → ℕ
ready_in v all = cond (lone_cr v all) 1 (until_cr v)

-- how many bytes of the body stand ready at a place
abbrev pub ready_at : Place → (v : Bytes) → (all : Bool) → ℕ
ready_at (Start held) v all = 0
ready_at Return v all = 2
ready_at Feed v all = 1
ready_at Within v all = ready_in v all
ready_at (Ended f) v all = 0

-- how many bytes of the body stand ready
unfoldable pub ready : {S : Type 0} {G : Ghosts S} → Scan S G → ℕ
ready s = ready_at s.place (shown s.lines.input) (is_some (known s.lines.input))

-- a text that begins with the bytes that stand ready at a place where v is shown
abbrev pub waiting : Place → (v : Bytes) → Bytes
waiting (Start held) v = v
waiting Return v = crlf
waiting Feed v = 10 ∷ []
waiting Within v = v
waiting (Ended f) v = v

-- the place behind n of the bytes that stand ready before a line
abbrev pub place_past : Place → (n : ℕ) → Place
place_past (Start held) n = Start held
place_past Return n = cond (n == 1) Feed (cond (n == 2) Within Return)
place_past Feed n = cond (n == 1) Within Feed
place_past Within n = Within
place_past (Ended f) n = Ended f
