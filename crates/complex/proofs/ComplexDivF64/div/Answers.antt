-- `Complex / f64` meets its contract: the definition's own operations. Assumes nothing.
use Rattle.std.proofs.Common.{refl}
use Rattle.complex.specs.Arithmetic.{cunscale}
use Rattle.complex.proofs.ComplexDivF64.div.Goals as goal

pub returns : goal.returns
unfolding cunscale
returns c = refl
