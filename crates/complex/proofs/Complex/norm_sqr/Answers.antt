-- `Complex::norm_sqr` meets its contract: the definition's own operations. Assumes nothing.
use Rattle.std.proofs.Common.{refl}
use Rattle.complex.specs.Arithmetic.{norm_sqr}
use Rattle.complex.proofs.Complex.norm_sqr.Goals as goal

pub returns : goal.returns
unfolding norm_sqr
returns c = refl
