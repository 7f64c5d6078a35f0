use Rattle.std.proofs.Common.{◌≡◌, false, drop}
use Rattle.head.specs.MediaReads.{closes}
use Rattle.head.proofs.media.parts.is_closed.Given as goal

abbrev pub invariant-loop-i : goal.invariant-loop-i
invariant-loop-i l = closes (drop l.i l.text) l.protected ≡ closes l.text false
