-- `Layout::cells` meets its contract: a frame has more symbols than markers. Assumes nothing.
use Rattle.std.proofs.Common.{arith}
use Rattle.level.specs.Lengths.{cells}
use Rattle.level.specs.SizedLaws.{sized}
use Rattle.level.proofs.Layout.cells.Goals as goal

pub overflow_sub-result : goal.overflow_sub-result
overflow_sub-result c = omega (arith, sized _ c.requires)

pub overflow_sub-result-2 : goal.overflow_sub-result-2
overflow_sub-result-2 c = omega (arith, sized _ c.requires)

pub returns : goal.returns
unfolding cells
returns c = omega arith
