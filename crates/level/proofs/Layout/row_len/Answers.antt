-- `Layout::row_len` meets its contract: four frames are short. Assumes nothing.
use Rattle.std.proofs.Common.{arith}
use Rattle.level.specs.Lengths.{row_length}
use Rattle.level.specs.SizedLaws.{row_most}
use Rattle.level.proofs.Layout.row_len.Goals as goal

pub overflow_mul-result : goal.overflow_mul-result
unfolding row_length
overflow_mul-result c = omega (arith, row_most _ c.requires.0 _ c.requires.1)

pub overflow_add-result : goal.overflow_add-result
unfolding row_length
overflow_add-result c = omega (arith, row_most _ c.requires.0 _ c.requires.1)

pub returns : goal.returns
unfolding row_length
returns c = omega arith
