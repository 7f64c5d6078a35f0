use Rattle.std.proofs.Common.{refl, sym}
use Rattle.coding.specs.Base64.{octets}
use Rattle.coding.proofs.Base64Steps.{octets-two, octets-three}
use Rattle.coding.proofs.base64.Base64.close.Goals as goal

pub returns-in-None : goal.returns-in-None
unfolding octets
returns-in-None c = rw (c.in-None.is, c.new.ensures) (refl, refl)

pub returns-in-One : goal.returns-in-One
unfolding octets
returns-in-One c = rw c.in-One.is (refl, refl)

pub returns-in-Two : goal.returns-in-Two
returns-in-Two c = rw (c.in-Two.is, c.of.ensures, c.bytes_of.ensures) (refl, sym (octets-two c.in-Two.a c.in-Two.b))

pub returns-in-Three : goal.returns-in-Three
returns-in-Three c = rw (c.in-Three.is, c.of-in-Three.ensures, c.bytes_of-in-Three.ensures) (refl, sym (octets-three c.in-Three.a c.in-Three.b c.in-Three.c))
