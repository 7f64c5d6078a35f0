-- What a reader keeps where its scan goes on between bodies.
use Rattle.std.proofs.Common.{◌≡◌, ℕ, ◌+◌, ◌≤◌, List, Option, ap, arith}
use Rattle.message.specs.Entries.{Entry}
use Rattle.calls.specs.ReaderMeaning.{Part, Meaning}
use Rattle.input.specs.declared.window.Input.{Input}
use Rattle.scan.specs.declared.scans.Scan.{Scan}
use Rattle.scan.specs.Streams.{owed, passed_over}
use Rattle.source.specs.declared.sources.Source.{Ghosts}

module _ {S : Type 0} {G : Ghosts S} (a b : Scan S G) where
  pub passed-same : b.lines.input ≡ a.lines.input → passed_over b ≡ passed_over a
  unfolding passed_over
  passed-same e = ap (λ (i : Input S G). i.at) e

  -- no CRLF is owed then
  pub still-within : (place : ℕ) → place + owed a.place ≤ passed_over a → owed b.place ≡ 0 → passed_over a ≤ passed_over b → place + owed b.place ≤ passed_over b
  still-within place h none le = omega arith

-- a meaning by its two parts that may have changed their form
pub meaning_by : (number delivered : ℕ) (a a' : List Entry) (p p' : Option Part) → a ≡ a' → p ≡ p'
    → ◌≡◌ {A = Meaning} (record { number = number; ahead = a; part = p; delivered = delivered }) (record { number = number; ahead = a'; part = p'; delivered = delivered })
meaning_by number delivered a a' p p' e f = cc
