use Rattle.std.proofs.Common.{◌≡◌, [], Some, None, Option, sym, ap, ◌∙◌}
use Rattle.byte_lines.specs.Bytes.{Bytes}
use Rattle.head.specs.declared.boundary.Boundary.{Boundary}
use Rattle.head.specs.BoundaryBytes.{boundary_of}
use Rattle.head.specs.Media.{Parameter, join_parameter, parameters}
use Rattle.head.specs.MediaReads.{later_pieces, found_of}
use Rattle.head.proofs.MediaParts.{parameters-none, verdict, verdict_end, verdict_other, verdict-boundary, left-ends, left-more}
use Rattle.head.proofs.media.parameters.boundary_in.Goals as goal
use Rattle.head.proofs.media.parameters.boundary_in.Goals.{In_ok-name, in-Some+then-ends_parameters, in_default}

pub returns-in_err-name : goal.returns-in_err-name
returns-in_err-name c =
    let e =
    left-more c.loop-rest.rest c.first_piece.result.1 c.in-Some.text c.first_piece.result.0.now c.trimmed-piece.result.now c.in-Some.is c.first_piece.ensures.splits
    c.trimmed-piece.ensures c.if-ends_parameters.ensures None c.in_err-name.ensures in
    ap found_of c.from_residual.ensures ∙ sym (ap (verdict (found_of c.loop-rest.found)) e) ∙ c.loop-rest.invariant

-- the parameter that was read
read : In_ok-name → Parameter
read c = record { name = c.in_ok-name.name.now; value = c.in_ok-name.content.now }

-- it stands before the others that are left
left : (c : In_ok-name) → parameters (later_pieces c.loop-rest.rest) ≡ join_parameter (Some (read c)) (parameters (later_pieces c.first_piece.result.1))
unfolding read
left c =
    left-more c.loop-rest.rest c.first_piece.result.1 c.in-Some.text c.first_piece.result.0.now c.trimmed-piece.result.now c.in-Some.is c.first_piece.ensures.splits
    c.trimmed-piece.ensures c.if-ends_parameters.ensures (Some (read c)) c.in_ok-name.ensures

pub loop-rest-preserved-then-is_named : goal.loop-rest-preserved-then-is_named
unfolding read
loop-rest-preserved-then-is_named c =
    let d = (goal.at.loop-rest-preserved-then-is_named c).In_ok-name in
    let o = found_of c.loop-rest.found in
    let ps = parameters (later_pieces c.first_piece.result.1) in
    ap (λ (b : Option Bytes). verdict (Some b) ps) c.note.ensures ∙ sym (verdict-boundary o (read d) ps (sym c.if-is_named.ensures)) ∙ sym (ap (verdict o) (left d)) ∙ c.loop-rest.invariant

pub loop-rest-preserved : goal.loop-rest-preserved
unfolding read
loop-rest-preserved c =
    let d = (goal.at.loop-rest-preserved c).In_ok-name in
    let o = found_of c.loop-rest.found in
    sym (verdict_other o (read d) (parameters (later_pieces c.first_piece.result.1)) (sym c.if-is_named.ensures)) ∙ sym (ap (verdict o) (left d)) ∙ c.loop-rest.invariant

pub returns : goal.returns
returns c =
    let f = c.loop-rest.found in
    let e : parameters (later_pieces c.loop-rest.rest) ≡ Some [] = elim c.match-rest.branch [
      | in-Some+then-ends_parameters w ↦ left-ends c.loop-rest.rest w.first_piece.result.1 w.in-Some.text w.first_piece.result.0.now w.trimmed-piece.result.now w.in-Some.is w.first_piece.ensures.splits
          w.trimmed-piece.ensures w.if-ends_parameters.ensures
      | in_default w ↦ parameters-none c.loop-rest.rest w.in_default.is
    ] in
    ap (λ (b : Option Boundary). Some (boundary_of b)) c.flatten.ensures ∙ sym (ap (verdict (found_of f)) e ∙ verdict_end f) ∙ c.loop-rest.invariant
