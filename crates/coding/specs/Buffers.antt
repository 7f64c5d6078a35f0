-- Bytes in a buffer. Assumes nothing.
use Rattle.std.specs.Prelude.{ℕ, take}
use Rattle.byte_lines.specs.Bytes.{Bytes}
use Rattle.coding.specs.declared.buffer.Buffer.{Buffer}

-- the bytes in it, in their order
abbrev pub items : {N : ℕ} → Buffer N → Bytes
items b = take b.len b.all
