-- The entries of a row: events, with what belongs to them. Assumes nothing.
use Rattle.std.specs.Prelude.{ℕ, List, [], ◌∷◌}
use Rattle.byte_lines.specs.Bytes.{Bytes, Answer}
use Rattle.source.specs.declared.ends.Fault.{Fault}
use Rattle.source.specs.declared.ends.End.{End}
use Rattle.coding.specs.declared.decoder.Coding.{Coding}
use Rattle.coding.specs.declared.decoder.Coding.TheVariants.{Plain}
use Rattle.coding.specs.Decoding.{Decoded}
use Rattle.coding.specs.Codings.{decoded, coding_number}
use Rattle.head.specs.Fields.{Field}
use Rattle.message.specs.declared.events.Kind.{Kind}
use Rattle.message.specs.declared.events.Kind.TheVariants.{Leaf, Group, Close, End as Ending}
use Rattle.message.specs.declared.events.Event.{Event}

-- 1 a leaf, 2 a group opened, 3 a group closed, 4 the end
abbrev pub kind_number : Kind → ℕ
kind_number Leaf = 1
kind_number Group = 2
kind_number Close = 3
kind_number Ending = 4

-- an event by its kind's number and its values: number, parent, depth, at, coding, marks, fields
abbrev pub event_answer : Event → Answer
event_answer ev =
    (kind_number ev.kind, ev.number ∷ (ev.parent ∷ (ev.depth ∷ (ev.at ∷ (coding_number ev.coding ∷ (ev.marks ∷ (ev.fields ∷ [])))))))

abbrev pub event : Kind → (number parent depth at : ℕ) → Coding → (marks fields : ℕ) → Event
event k n p d a c m f = record { kind = k; number = n; parent = p; depth = d; at = a; coding = c; marks = m; fields = f }

-- a closing has the group's own number, parent and depth, and neither coding nor fields
abbrev pub close_event : (number parent depth at marks : ℕ) → Event
close_event n p d a m = event Close n p d a Plain m 0

-- the end has the count of entities and the input's length
abbrev pub end_event : (entities length : ℕ) → Event
end_event n a = event Ending n 0 0 a Plain 0 0

-- a leaf's raw body: where it begins, its bytes, and the end that it meets, clean where a line ends it
pub record Body : Type 0 where
  pub from : ℕ
  pub raw : Bytes
  pub ending : End

-- a row is a list of these, whose last, and no other, is `ended` or `failed`
pub data Entry : Type 0 where
  leaf : Event → List Field → Body → Entry
  opened : Event → List Field → Entry
  closed : Event → Entry
  ended : Event → Entry
  failed : Fault → Entry

-- a leaf's decoded body, and behind it the body's fault if it has one
abbrev pub decoded_body : Event → Body → Decoded
decoded_body ev b = decoded ev.coding b.from b.raw b.ending
