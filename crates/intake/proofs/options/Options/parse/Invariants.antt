use Rattle.std.proofs.Common.{◌<◌, length}
use Rattle.intake.proofs.options.Options.parse.Given as goal

-- the parcel has a size, as the type asks
abbrev pub invariant-loop-word : goal.invariant-loop-word
invariant-loop-word l = 0 < l.options.1.0

-- the words that are left
abbrev pub decreases-loop-word : goal.decreases-loop-word
decreases-loop-word l = length l.words.rest.items
