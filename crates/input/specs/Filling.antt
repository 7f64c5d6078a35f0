-- What the steps of a fill count. Assumes nothing.
use Rattle.std.specs.Prelude.{ℕ, ◌+◌, ◌-◌, Some, None, Option}
use Rattle.source.specs.declared.ends.End.{End}
use Rattle.input.specs.declared.window.Input.{Input}
use Rattle.source.specs.declared.sources.Source.{Ghosts}

-- 1 while the end is not known
abbrev pub unended : Option End → ℕ
unended None = 1
unended (Some e) = 0

-- what is still to be found out: the window's free places, and the end
abbrev pub wanting : {S : Type 0} {G : Ghosts S} → Input S G → ℕ
wanting i = (16384 - i.to) + unended i.end
