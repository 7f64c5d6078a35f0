use Rattle.std.proofs.Common.{get_or, refl, arith}
use Rattle.std.proofs.lemmas.List.{take_rest, length-take-le}
use Rattle.byte_lines.specs.Lines.{crlf}
use Rattle.coding.specs.declared.quoted.Token.TheVariants.{Itself, Byte, Soft, Hard}
use Rattle.coding.specs.Buffers.{items}
use Rattle.coding.proofs.Feeding.{none-waits}
use Rattle.coding.proofs.QuotedTokens.{token_first, quoted_ran}
use Rattle.coding.proofs.Runs.{ran_past, ran_push, ran_put}
use Rattle.coding.proofs.quoted.steps.QuotedCoder.run.Goals as goal

pub loop-rest-preserved-in-Itself : goal.loop-rest-preserved-in-Itself
loop-rest-preserved-in-Itself c =
    let rest = c.loop-rest.rest.now in
    let room = length-take-le c.min-most.result c.args.raw.now (omega arith) in
    ran_push (get_or rest 0 0) 1 c.loop-rest.invariant c.loop-rest.auto.out (take_rest rest 1) (omega arith) (omega arith) (omega arith)
    (token_first Itself rest c.in-len3-up.len_at_least (rw c.in-Itself.is at c.in-Some.ensures))

pub loop-rest-preserved-in-Byte : goal.loop-rest-preserved-in-Byte
loop-rest-preserved-in-Byte c =
    let rest = c.loop-rest.rest.now in
    let room = length-take-le c.min-most.result c.args.raw.now (omega arith) in
    ran_push c.in-Byte.b 3 c.loop-rest.invariant c.loop-rest.auto.out (take_rest rest 3) (omega arith) (omega arith) (omega arith)
    (token_first (Byte c.in-Byte.b) rest c.in-len3-up.len_at_least (rw c.in-Byte.is at c.in-Some.ensures))

pub loop-rest-preserved-in-Soft : goal.loop-rest-preserved-in-Soft
loop-rest-preserved-in-Soft c =
    let rest = c.loop-rest.rest.now in
    ran_past 3 c.loop-rest.invariant (take_rest rest 3) (omega arith) (token_first Soft rest c.in-len3-up.len_at_least (rw c.in-Soft.is at c.in-Some.ensures))

pub loop-rest-preserved : goal.loop-rest-preserved
loop-rest-preserved c =
    let rest = c.loop-rest.rest.now in
    let room = length-take-le c.min-most.result c.args.raw.now (omega arith) in
    ran_put crlf 2 2 _ c.loop-rest.invariant c.loop-rest.auto.out (take_rest rest 2) (omega arith) c.copy_from_slice.ensures.after refl (omega arith) (omega arith) (omega arith)
    (token_first Hard rest c.in-len3-up.len_at_least (rw c.in-Hard.is at c.in-Some.ensures))

pub returns-clause-whole : goal.returns-clause-whole
returns-clause-whole c =
    let h = items c.args.self.now.held in
    quoted_ran h c.args.raw.now c.loop-rest.rest.now c.min-most.result (none-waits c.is_empty.result h c.is_empty.ensures c.if-not-is_empty.false) (omega arith) c.loop-rest.invariant
