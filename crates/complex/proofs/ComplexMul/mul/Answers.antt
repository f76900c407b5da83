-- `Complex * Complex` meets its contract: the definition's own operations. Assumes nothing.
use Rattle.std.proofs.Common.{refl}
use Rattle.complex.specs.Arithmetic.{cmul}
use Rattle.complex.proofs.ComplexMul.mul.Goals as goal

pub returns : goal.returns
unfolding cmul
returns c = refl
