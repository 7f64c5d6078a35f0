-- How many bytes a decoder may still give for the raw bytes that it has taken.
use Rattle.std.proofs.Common.{◌≡◌, ℕ, ◌+◌, ◌-◌, ◌≤◌, min, [], ◌++◌, length, drop, ap, ◌∙◌, arith}
use Rattle.std.proofs.lemmas.List.{length-append, length-drop}
use Rattle.byte_lines.specs.Bytes.{Bytes}
use Rattle.source.specs.declared.ends.End.{End}
use Rattle.coding.specs.declared.decoder.Mode.{Mode}
use Rattle.coding.specs.declared.decoder.Mode.TheVariants.{Plain, Base64, Quoted, Spent, Ended}
use Rattle.coding.specs.Decoding.{Decoded, gives}
use Rattle.coding.specs.Modes.{later_by, backlog_by}
use Rattle.coding.specs.Buffers.{items}
use Rattle.coding.specs.Sextets.{sextets_of}
use Rattle.coding.proofs.Base64Steps.{octets_fewer, from_end}
use Rattle.coding.proofs.QuotedLonger.{never_longer_lem}

-- where the raw body ends, no more comes of what is held back than that
pub end_fewer : (mode : Mode) (at : ℕ) (e : End) → length (later_by mode at [] e).bytes ≤ backlog_by mode
end_fewer Plain at e = omega arith
end_fewer (Base64 d) at e = let vs = sextets_of d.held in let f = octets_fewer vs in rw from_end f
end_fewer (Quoted d) at e =
    let h = items d.held in
    let n = never_longer_lem (at - length h) (h ++ []) e in
    let l = length-append h [] in
    omega arith
end_fewer Spent at e = omega arith
end_fewer (Ended x) at e = omega arith
