-- `Complex * f64` meets its contract: the definition's own operations. Assumes nothing.
use Rattle.std.proofs.Common.{refl}
use Rattle.complex.specs.Arithmetic.{cscale}
use Rattle.complex.proofs.ComplexMulF64.mul.Goals as goal

pub returns : goal.returns
unfolding cscale
returns c = refl
