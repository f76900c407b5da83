-- `Complex + Complex` meets its contract: the definition's own operations. Assumes nothing.
use Rattle.std.proofs.Common.{refl}
use Rattle.complex.specs.Arithmetic.{cadd}
use Rattle.complex.proofs.ComplexAdd.add.Goals as goal

pub returns : goal.returns
unfolding cadd
returns c = refl
