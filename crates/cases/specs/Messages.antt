-- Worked messages. In a text here '|' stands for CRLF. Assumes nothing.
use Rattle.std.specs.Prelude.{◌≡◌, ℕ, zero, suc, true, false, List, [], ◌∷◌, ◌++◌, codes, ◌==◌}
use Prim.Native.String.{String}
use Rattle.byte_lines.specs.Bytes.{Bytes}
use Rattle.source.specs.declared.ends.Fault.{Fault}
use Rattle.source.specs.declared.ends.End.{End}
use Rattle.source.specs.declared.ends.End.TheVariants.{Clean, Faulty}
use Rattle.source.specs.Meanings.{fault, means}
use Rattle.coding.specs.declared.decoder.Coding.TheVariants.{Plain, Base64}
use Rattle.coding.specs.Decoding.{Decoded, gives}
use Rattle.head.specs.Fields.{Field}
use Rattle.message.specs.declared.events.Kind.TheVariants.{Leaf, Group}
use Rattle.message.specs.Entries.{Entry, leaf, opened, closed, ended, failed, event, close_event, end_event, decoded_body}
use Rattle.message.specs.Rows.{row_of}

unfoldable pub spliced : Bytes → Bytes
spliced [] = []
spliced (b ∷ bs) = elim (b == 124) [ true ↦ 13 ∷ (10 ∷ spliced bs) | false ↦ b ∷ spliced bs ]

-- the bytes of a text
unfoldable pub wire : String → Bytes
wire s = spliced (codes s)

-- the row of a text with a clean end behind it, and with the fault 9 of the source, at place 7
abbrev pub row_of_text : String → List Entry
row_of_text s = row_of (means (wire s) Clean)

abbrev pub broken : Fault
broken = fault 9 1 7

abbrev pub row_of_broken : String → List Entry
row_of_broken s = row_of (means (wire s) (Faulty broken))

abbrev pub field : (name value : String) → Field
field n v = record { name = codes n; value = codes v }

abbrev pub typed : String → List Field
typed v = field "Content-Type" v ∷ []

-- a leaf of coding 0 without fields and marks, whose body begins there, holds that text and meets that end
abbrev pub plain_leaf : (number parent depth at from : ℕ) → String → End → Entry
plain_leaf n p d at from s e = leaf (event Leaf n p d at Plain 0 0) [] (record { from = from; raw = wire s; ending = e })

abbrev pub group : (number parent depth at : ℕ) → List Field → Entry
group n p d at fs = opened (event Group n p d at Plain 0 1) fs

-- a group closed by its own line, and one closed by a line of a group around it
abbrev pub close : (number parent depth at : ℕ) → Entry
close n p d at = closed (close_event n p d at 0)

abbrev pub unterminated : (number parent depth at : ℕ) → Entry
unterminated n p d at = closed (close_event n p d at 4)

abbrev pub finish : (entities length : ℕ) → List Entry
finish n at = ended (end_event n at) ∷ []

abbrev pub fails : Fault → List Entry
fails f = failed f ∷ []

-- the top group that most messages here have
abbrev pub top : Entry
top = group 1 0 0 0 (typed "multipart/a; boundary=edge")

-- an empty input is one leaf with an empty body; with a fault behind it, only the fault
abbrev pub EmptyInput : Type 0
EmptyInput = (row_of_text "" ≡ plain_leaf 1 0 0 0 0 "" Clean ∷ finish 1 0) × (row_of_broken "" ≡ fails broken)

abbrev pub Nested : Type 0
Nested =
    row_of_text "Content-Type: multipart/mixed; boundary=edge||--edge||ab|--edge|Content-Type: multipart/mixed; boundary=edge-picot||--edge-picot||c|--edge-picot--|--edge--|"
    ≡ group 1 0 0 0 (typed "multipart/mixed; boundary=edge")
    ∷ (plain_leaf 2 1 1 56 58 "ab" Clean
    ∷ (group 3 1 1 70 (typed "multipart/mixed; boundary=edge-picot")
    ∷ (plain_leaf 4 3 2 138 140 "c" Clean
    ∷ (close 3 1 1 143
    ∷ (close 1 0 0 159
    ∷ finish 4 169)))))

-- with `edge` outside and `edge--` inside, `--edge--` separates the inner group
abbrev pub InnermostSeparates : Type 0
InnermostSeparates =
    row_of_text "Content-Type: multipart/a; boundary=edge||--edge|Content-Type: multipart/b; boundary=edge--||--edge--||x|--edge----|--edge--|"
    ≡ top
    ∷ (group 2 1 1 52 (typed "multipart/b; boundary=edge--")
    ∷ (plain_leaf 3 2 2 108 110 "x" Clean
    ∷ (close 2 1 1 113
    ∷ (close 1 0 0 125
    ∷ finish 3 135))))

-- with `edge--` outside and `edge` inside, it closes the inner group
abbrev pub InnermostCloses : Type 0
InnermostCloses =
    row_of_text "Content-Type: multipart/a; boundary=edge--||--edge--|Content-Type: multipart/b; boundary=edge||--edge--|x|--edge----|"
    ≡ group 1 0 0 0 (typed "multipart/a; boundary=edge--")
    ∷ (group 2 1 1 56 (typed "multipart/b; boundary=edge")
    ∷ (close 2 1 1 100
    ∷ (close 1 0 0 113
    ∷ finish 2 125)))

-- a line that only begins like a boundary line, or has a byte more, is text
abbrev pub WholeLineExample : Type 0
WholeLineExample =
    row_of_text "Content-Type: multipart/a; boundary=edge||--edge||--edge-|--edgex|--edge--x|-- edge|--edge --|--edge--|"
    ≡ top ∷ (plain_leaf 2 1 1 52 54 "--edge-|--edgex|--edge--x|-- edge|--edge --" Clean ∷ (close 1 0 0 103 ∷ finish 2 113))

-- a head that a boundary line ends: an empty body, and its CRLF is the head's
abbrev pub HeadEndedByALine : Type 0
HeadEndedByALine =
    row_of_text "Content-Type: multipart/a; boundary=edge||--edge|X: 1|--edge|--edge--|"
    ≡ top
    ∷ (leaf (event Leaf 2 1 1 52 Plain 0 1) (field "X" "1" ∷ []) (record { from = 58; raw = []; ending = Clean })
    ∷ (plain_leaf 3 1 1 66 66 "" Clean
    ∷ (close 1 0 0 66
    ∷ finish 3 76)))

-- a group whose head is ended by a line of the group around it opens, and is closed by that line
abbrev pub OpenedAndClosed : Type 0
OpenedAndClosed =
    row_of_text "Content-Type: multipart/a; boundary=edge||--edge|Content-Type: multipart/b; boundary=edge|--edge||x|--edge--|"
    ≡ top
    ∷ (group 2 1 1 52 (typed "multipart/b; boundary=edge")
    ∷ (unterminated 2 1 1 94
    ∷ (plain_leaf 3 1 1 102 104 "x" Clean
    ∷ (close 1 0 0 107
    ∷ finish 3 117))))

-- lines of the outer group while inner ones are open: these are closed, deepest first
abbrev pub OuterLine : Type 0
OuterLine =
    row_of_text "Content-Type: multipart/a; boundary=edge||--edge|Content-Type: multipart/b; boundary=in||--in|Content-Type: multipart/c; boundary=deep||x|--edge--|y"
    ≡ top
    ∷ (group 2 1 1 52 (typed "multipart/b; boundary=in")
    ∷ (group 3 2 2 100 (typed "multipart/c; boundary=deep")
    ∷ (unterminated 3 2 2 147
    ∷ (unterminated 2 1 1 147
    ∷ (close 1 0 0 147
    ∷ finish 3 158)))))

-- a last line without CRLF is a whole line; a CR behind it is part of the line
abbrev pub PartialLastLine : Type 0
PartialLastLine =
    (row_of_text "Content-Type: multipart/a; boundary=edge||--edge||x|--edge--" ≡ top ∷ (plain_leaf 2 1 1 52 54 "x" Clean ∷ (close 1 0 0 57 ∷ finish 2 65)))
    × (row_of (means (wire "Content-Type: multipart/a; boundary=edge||--edge--" ++ 13 ∷ []) Clean) ≡ top ∷ fails (fault 32 3 53))

-- the input ends clean inside a group: fault 32, of the leaf's body and of the message
abbrev pub UnendedGroup : Type 0
UnendedGroup =
    (row_of_text "Content-Type: multipart/a; boundary=edge||--edge||x|" ≡ top ∷ (plain_leaf 2 1 1 52 54 "x|" (Faulty (fault 32 3 57)) ∷ fails (fault 32 3 57)))
    × (row_of_text "Content-Type: multipart/a; boundary=edge||--edge|" ≡ top ∷ fails (fault 32 3 52))
    × (row_of_text "Content-Type: multipart/a; boundary=edge" ≡ top ∷ fails (fault 32 3 40))

-- the source's fault in a head: a line that is no field comes first
abbrev pub FaultInHead : Type 0
FaultInHead =
    (row_of_broken "X: a|Conte" ≡ fails (fault 42 4 6)) × (row_of_broken "X: a|Y" ≡ fails (fault 42 4 6)) × (row_of_broken "X: a" ≡ fails broken)

-- in a body, and between parts
abbrev pub FaultInBody : Type 0
FaultInBody = row_of_broken "|ab|" ≡ plain_leaf 1 0 0 0 2 "ab|" (Faulty broken) ∷ fails broken

abbrev pub FaultBetweenParts : Type 0
FaultBetweenParts =
    (row_of_broken "Content-Type: multipart/a; boundary=edge||x|--ed" ≡ top ∷ fails broken)
    × (row_of_broken "Content-Type: multipart/a; boundary=edge||--edge--|x" ≡ top ∷ (close 1 0 0 44 ∷ fails broken))

-- a head's fault ends the row, also where the line that ends this head closes groups
abbrev pub HeadFault : Type 0
HeadFault = row_of_text "Content-Type: multipart/a; boundary=edge||--edge|bad|--edge--|" ≡ top ∷ fails (fault 42 4 52)

-- a fault of a body's coding is the body's own: the row goes on
abbrev pub coded : Entry
coded =
    leaf (event Leaf 2 1 1 52 Base64 0 1) (field "Content-Transfer-Encoding" "base64" ∷ []) (record { from = 89; raw = codes "cGljb"; ending = Clean })

abbrev pub decoded_of : Entry → Decoded
decoded_of (leaf ev fs b) = decoded_body ev b
decoded_of (opened ev fs) = gives [] Clean
decoded_of (closed ev) = gives [] Clean
decoded_of (ended ev) = gives [] Clean
decoded_of (failed f) = gives [] Clean

abbrev pub CodingFault : Type 0
CodingFault =
    (row_of_text "Content-Type: multipart/a; boundary=edge||--edge|Content-Transfer-Encoding: base64||cGljb|--edge--|" ≡ top ∷ (coded ∷ (close 1 0 0 96 ∷ finish 2 106)))
    × (decoded_of coded ≡ gives (codes "pic") (Faulty (fault 51 5 94)))

-- so many groups, one inside the other, all with one boundary, and a leaf in the last
unfoldable pub nest : ℕ → Bytes
nest zero = wire "|x"
nest (suc k) = wire "Content-Type: multipart/a; boundary=b||--b|" ++ nest k

abbrev pub last_of : List Entry → List Entry
last_of [] = []
last_of (x ∷ []) = x ∷ []
last_of (x ∷ y ∷ r) = last_of (y ∷ r)

-- an eighth group passes, a ninth is fault 47 at its head
abbrev pub EightGroups : Type 0
EightGroups =
    (last_of (row_of (means (nest 8) Clean)) ≡ fails (fault 32 3 371)) × (last_of (row_of (means (nest 9) Clean)) ≡ fails (fault 47 4 368))

pub record MessageExamples : Type 0 where
  pub empty_input : EmptyInput
  pub nested : Nested
  pub innermost_separates : InnermostSeparates
  pub innermost-closes : InnermostCloses
  pub whole-line : WholeLineExample
  pub head-ended_by_a_line : HeadEndedByALine
  pub opened_and_closed : OpenedAndClosed
  pub outer_line : OuterLine
  pub partial_last_line : PartialLastLine
  pub unended-group : UnendedGroup
  pub fault_in_head : FaultInHead
  pub fault_in_body : FaultInBody
  pub fault_between_parts : FaultBetweenParts
  pub head-fault : HeadFault
  pub coding_fault : CodingFault
  pub eight_groups : EightGroups
