-- `Complex::conj` meets its contract: the definition's own operations. Assumes nothing.
use Rattle.std.proofs.Common.{refl}
use Rattle.complex.specs.Arithmetic.{cconj}
use Rattle.complex.proofs.Complex.conj.Goals as goal

pub returns : goal.returns
unfolding cconj
returns c = refl
