-- What a reader means. Assumes nothing.
use Rattle.std.specs.Prelude.{ℕ, ◌+◌, false, List, [], ◌∷◌, Some, None, Option, Ok, Err, Result}
use Rattle.byte_lines.specs.Lines.{lines}
use Rattle.source.specs.declared.ends.End.{End}
use Rattle.source.specs.declared.ends.Fault.{Fault}
use Rattle.source.specs.Meanings.{Meaning as SourceMeaning}
use Rattle.coding.specs.Decoding.{Decoded}
use Rattle.coding.specs.Decoders.{meaning as decoder_meaning, outlook}
use Rattle.input.specs.Inputs.{Meaning as InputMeaning, meaning as input_meaning}
use Rattle.message.specs.declared.events.Event.{Event}
use Rattle.message.specs.Groups.{Group}
use Rattle.message.specs.Entries.{Entry, ended, failed}
use Rattle.message.specs.Rows.{passing, line_row, opening, row, entity_row}
use Rattle.levels.specs.Opened.{groups}
use Rattle.levels.specs.Fits.{fit_role}
use Rattle.scan.specs.declared.scans.Scan.{Scan}
use Rattle.scan.specs.Streams.{Stop, raw_left, stop, end_at}
use Rattle.calls.specs.ReaderMeaning.{Part, Meaning}
use Rattle.reader.specs.declared.reader.Stage.{Stage}
use Rattle.reader.specs.declared.reader.Stage.TheVariants.{Head, Body, Between, Line, Over}
use Rattle.reader.specs.declared.reader.Reader.{Reader}
use Rattle.source.specs.declared.sources.Source.{Ghosts}

-- the entry that a message ends with
abbrev pub last_of : Result Event Fault → Entry
last_of (Ok ev) = ended ev
last_of (Err f) = failed f

-- the entries that next has yet to tell, by the stage: inside the groups gs, with n entities so far, where the input means i, and the
-- body at hand, or what is dropped, stops there
abbrev pub ahead_by : Stage → List Group → (n : ℕ) → InputMeaning → Stop → List Entry
ahead_by Head gs n i s = entity_row i.ending gs n i.offset (lines i.left)
ahead_by Body gs n i s = row i.ending gs n passing s.from s.lines
ahead_by Between gs n i s = row i.ending gs n passing s.from s.lines
ahead_by (Line fit at) gs n i s =
    line_row (fit_role gs fit) gs n passing at false (λ gs'. opening i.ending gs' (n + 1) i.offset (lines i.left))
    (λ gs' n' m'. row i.ending gs' n' m' i.offset (lines i.left))
ahead_by (Over last) gs n i s = last_of last ∷ []

-- the open part, whose decoded body has this left
abbrev pub part_by : Stage → (n : ℕ) → Decoded → Option Part
part_by Head n d = None
part_by Body n d = Some (record { number = n; left = d.bytes; ending = d.ending })
part_by Between n d = None
part_by (Line fit at) n d = None
part_by (Over last) n d = None

module _ {S : Type 0} {G : Ghosts S} (source : S → SourceMeaning) where
  -- the end that the body at hand meets
  unfoldable pub body_ending : Scan S G → End
  body_ending s = end_at (groups s.lines.levels) (stop source s) (input_meaning source s.lines.input).ending

  -- what is left of the decoded body
  unfoldable pub decoded_left : Reader S G → Decoded
  decoded_left r = outlook (decoder_meaning r.decoder) (raw_left source r.scan) (body_ending r.scan)

  -- what a reader means
  unfoldable pub meaning : Reader S G → Meaning
  meaning r =
      record {
        number = r.number;
        ahead = ahead_by r.stage (groups r.scan.lines.levels) r.entities (input_meaning source r.scan.lines.input) (stop source r.scan);
        part = part_by r.stage r.entities (decoded_left r);
        delivered = r.delivered;
      }
