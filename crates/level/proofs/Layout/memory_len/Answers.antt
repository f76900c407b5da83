-- `Layout::memory_len` meets its contract: no memory is above 1,378,560 complex numbers. Assumes nothing.
use Rattle.std.proofs.Common.{arith, refl}
use Rattle.level.specs.Lengths.{memory_length}
use Rattle.level.specs.SizedLaws.{sized}
use Rattle.level.proofs.Layout.memory_len.Goals as goal

pub overflow_mul-result : goal.overflow_mul-result
overflow_mul-result c = omega (arith, sized _ c.requires)

pub overflow_add-result : goal.overflow_add-result
overflow_add-result c = omega (arith, sized _ c.requires)

pub part_len-requires : goal.part_len-requires
part_len-requires c = sized _ c.requires

pub overflow_mul-result-2 : goal.overflow_mul-result-2
unfolding memory_length
overflow_mul-result-2 c = rw c.part_len.ensures (omega (arith, (sized _ c.requires).memory_most))

pub returns : goal.returns
unfolding memory_length
returns c = rw c.part_len.ensures refl
