use Rattle.std.proofs.Common.{◌≡◌, ℕ, ◌+◌, ◌≤◌, Bool, true, false, ◌⊎◌, [], ◌∷◌, ◌++◌, length, get_or, Some, sym, refl, ap, ◌∙◌, ⊎_elim, arith, rules}
use mir.Val.{bool_byte}
use Rattle.std.proofs.lemmas.Bool.{cases_eq}
use Rattle.std.proofs.lemmas.List.{length-append}
use Rattle.byte_lines.specs.Bytes.{Bytes}
use Rattle.byte_lines.specs.Classes.{hex}
use Rattle.coding.specs.declared.quoted.Kind.{Kind}
use Rattle.coding.specs.declared.quoted.Kind.TheVariants.{Blanks, Digit, Cr}
use Rattle.coding.specs.Buffers.{items}
use Rattle.coding.specs.Quoted.{byte_of}
use Rattle.coding.specs.QuotedShapes.{shaped}
use Rattle.coding.specs.QuotedHeld.{Mere}
use Rattle.coding.proofs.QuotedShapes.{Shape, shape_whole, shape_equals, shape_blank, shape_cr, shape_more, shape_return, shape_digit, blank-length, shape_of}
use Rattle.coding.proofs.QuotedSteps.{both_digits, IsHex, is_hex, is_blank, Loose, step_release, step_literal, step_break, step_fault, step_escape}
use Rattle.coding.proofs.quoted.steps.QuotedCoder.step.Goals as goal

-- the byte that is held, behind nothing else
alone : (kind : Kind) (b : ℕ) {held : Bytes} → held ≡ [] → Shape kind (b ∷ []) → shaped kind (held ++ (b ∷ [])) ≡ true
alone kind b e s = ap (λ (l : Bytes). shaped kind (l ++ (b ∷ []))) e ∙ shape_whole kind (b ∷ []) s

-- an '=' and two digits ---------------------------------------------------------------------------

pub bounds-held-1 : goal.bounds-held-1
bounds-held-1 c =
    let k = shape_of c.args.self.now Digit c.in-Digit-48-to-57.is-0 in
    let l = ap length c.as_slice-held.ensures ∙ ap length k.is in
    omega arith

pub unwrap-byte-requires : goal.unwrap-byte-requires
unwrap-byte-requires c =
    let h = items c.args.self.now.held in
    let x : IsHex c.args.b = search rules in
    rw (c.escaped.ensures, c.as_slice-held.ensures) (both_digits h c.args.b (shape_of c.args.self.now Digit c.in-Digit-48-to-57.is-0) x)

pub hold-requires : goal.hold-requires
hold-requires c =
    let h = items c.args.self.now.held in
    let b = c.args.b in
    let e : c.args.self.now.kind ≡ Blanks true = search rules in
    let x : IsHex b = search rules in
    let v = is_hex b x in
    shape_whole Digit (h ++ (b ∷ [])) (shape_digit h b v.0 (shape_of c.args.self.now (Blanks true) e) (sym c.len.ensures ∙ c.if-len-eq1.true) v.1)

pub returns-in-Digit-48-to-57-clause-whole : goal.returns-in-Digit-48-to-57-clause-whole
returns-in-Digit-48-to-57-clause-whole c =
    let h = items c.args.self.now.held in
    let byte : byte_of (hex (get_or h 1 0)) (hex c.args.b) ≡ Some c.unwrap-byte.result = rw (← c.as_slice-held.ensures) (sym c.escaped.ensures ∙ c.unwrap-byte.ensures) in
    rw (c.set.ensures, c.clear-in-Digit-48-to-57.ensures) (step_escape h c.args.at c.args.b c.requires (shape_of c.args.self.now Digit c.in-Digit-48-to-57.is-0) c.unwrap-byte.result byte)

-- line breaks -------------------------------------------------------------------------------------

pub returns-in-Cr-true-eq10-clause-whole : goal.returns-in-Cr-true-eq10-clause-whole
returns-in-Cr-true-eq10-clause-whole c =
    let e : c.args.self.now.kind ≡ Cr true = search rules in
    rw (c.clear-in-Cr-true-eq10.ensures, c.clear.ensures) (step_break (items c.args.self.now.held) c.args.at c.args.b c.requires true (shape_of c.args.self.now (Cr true) e) (search rules))

pub returns-in-Cr-false-eq10-clause-whole : goal.returns-in-Cr-false-eq10-clause-whole
returns-in-Cr-false-eq10-clause-whole c =
    let e : c.args.self.now.kind ≡ Cr false = search rules in
    rw (c.clear-in-Cr-false-eq10.ensures, c.set-in-Cr-false-eq10.ensures) (step_break (items c.args.self.now.held) c.args.at c.args.b c.requires false (shape_of c.args.self.now (Cr false) e) (search rules))

pub returns-in-Cr-false-eq10-clause-fewer : goal.returns-in-Cr-false-eq10-clause-fewer
returns-in-Cr-false-eq10-clause-fewer c =
    let e : c.args.self.now.kind ≡ Cr false = search rules in
    let r = shape_of c.args.self.now (Cr false) e in
    let l = ap length r.is ∙ length-append r.front (13 ∷ []) in
    let two = ap length c.set-in-Cr-false-eq10.ensures in
    let none = ap length c.clear-in-Cr-false-eq10.ensures in
    omega arith

-- blanks, and a CR behind them ----------------------------------------------------------------------

pub returns-in-Blanks-eq32-clause-whole : goal.returns-in-Blanks-eq32-clause-whole
returns-in-Blanks-eq32-clause-whole c =
    let h = items c.args.self.now.held in
    let b = c.args.b in
    let t : (b ≡ 32) ⊎ (b ≡ 9) = search rules in
    let soft = c.in-Blanks-eq32.soft in
    let is = c.in-Blanks-eq32.soft-is in
    let size : length h ≡ 76 + bool_byte soft = omega (arith, ap bool_byte is) in
    rw (c.set-in-Blanks-eq32.ensures, c.as_slice.ensures, c.at.ensures, c.from-in-Blanks-eq32.ensures, is)
    (step_fault h c.args.at b c.requires soft (shape_of c.args.self.now (Blanks soft) c.in-Blanks-eq32.is-0) size (is_blank b t))

pub hold-requires-in-Blanks-eq32-2 : goal.hold-requires-in-Blanks-eq32-2
hold-requires-in-Blanks-eq32-2 c =
    let h = items c.args.self.now.held in
    let b = c.args.b in
    let t : (b ≡ 32) ⊎ (b ≡ 9) = search rules in
    let soft = c.in-Blanks-eq32-2.soft in
    let is = c.in-Blanks-eq32-2.soft-is in
    let k = shape_of c.args.self.now (Blanks soft) c.in-Blanks-eq32-2.is-0 in
    let size = blank-length soft h k in
    let most = k.most in
    let same = ap bool_byte is in
    let few : length k.run ≤ 75 = ⊎_elim (λ z. absurd (c.if-len-from.false (omega arith))) (λ z. omega arith) (cases_eq (length k.run) 76) in
    ap (λ (x : Bool). shaped (Blanks x) (h ++ (b ∷ []))) is ∙ shape_whole (Blanks soft) (h ++ (b ∷ [])) (shape_more soft h b k (is_blank b t) few)

pub hold-requires-in-Blanks-eq13 : goal.hold-requires-in-Blanks-eq13
hold-requires-in-Blanks-eq13 c =
    let h = items c.args.self.now.held in
    let b = c.args.b in
    let t : b ≡ 13 = search rules in
    let soft = c.in-Blanks-eq13.soft in
    ap (λ (x : Bool). shaped (Cr x) (h ++ (b ∷ []))) c.in-Blanks-eq13.soft-is
    ∙ shape_whole (Cr soft) (h ++ (b ∷ [])) (shape_return soft h b (shape_of c.args.self.now (Blanks soft) c.in-Blanks-eq13.is-0) t)

-- bytes that settle what is held ----------------------------------------------------------------------

pub hold-requires-in_default-eq61 : goal.hold-requires-in_default-eq61
hold-requires-in_default-eq61 c =
    let t : c.args.b ≡ 61 = search rules in
    alone (Blanks true) c.args.b c.release-in_default-eq61.ensures.none (rw t shape_equals)

pub hold-requires-in_default-eq32 : goal.hold-requires-in_default-eq32
hold-requires-in_default-eq32 c =
    let t : (c.args.b ≡ 32) ⊎ (c.args.b ≡ 9) = search rules in
    alone (Blanks false) c.args.b c.release-in_default-eq32.ensures.none (shape_blank c.args.b (is_blank c.args.b t))

pub hold-requires-in_default-eq13 : goal.hold-requires-in_default-eq13
hold-requires-in_default-eq13 c =
    let t : c.args.b ≡ 13 = search rules in
    alone (Cr false) c.args.b c.release.ensures.none (rw t shape_cr)

pub returns-in_default-eq61-clause-whole : goal.returns-in_default-eq61-clause-whole
returns-in_default-eq61-clause-whole c =
    let s = c.args.self.now in
    let r = c.release-in_default-eq61.ensures in
    let loose : Loose s.kind (length (items s.held)) c.args.b = search rules in
    rw (r.given, c.hold-in_default-eq61.ensures, r.none) (step_release (items s.held) c.args.at c.args.b c.requires s.kind (shape_of s s.kind refl) loose)

pub returns-in_default-eq32-clause-whole : goal.returns-in_default-eq32-clause-whole
returns-in_default-eq32-clause-whole c =
    let s = c.args.self.now in
    let r = c.release-in_default-eq32.ensures in
    let loose : Loose s.kind (length (items s.held)) c.args.b = search rules in
    rw (r.given, c.hold-in_default-eq32.ensures, r.none) (step_release (items s.held) c.args.at c.args.b c.requires s.kind (shape_of s s.kind refl) loose)

pub returns-in_default-eq13-clause-whole : goal.returns-in_default-eq13-clause-whole
returns-in_default-eq13-clause-whole c =
    let s = c.args.self.now in
    let r = c.release.ensures in
    let loose : Loose s.kind (length (items s.held)) c.args.b = search rules in
    rw (r.given, c.hold-in_default-eq13.ensures, r.none) (step_release (items s.held) c.args.at c.args.b c.requires s.kind (shape_of s s.kind refl) loose)

pub returns-in_default-clause-whole : goal.returns-in_default-clause-whole
returns-in_default-clause-whole c =
    let s = c.args.self.now in
    let r = c.release-in_default.ensures in
    let loose : Loose s.kind (length (items s.held)) c.args.b = search rules in
    let mere : Mere c.args.b = search rules in
    rw (c.push.ensures, r.given, r.none) (step_literal (items s.held) c.args.at c.args.b c.requires s.kind (shape_of s s.kind refl) loose mere)
