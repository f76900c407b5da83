-- `order::put_cell` meets its contract: after b turns the first b soft bits are copied. Assumes nothing.
use Rattle.std.proofs.Common.{◌≡◌}
use Rattle.std.proofs.Math.Seq.{paste}
use Rattle.order.proofs.put_cell.Given as goal

abbrev pub invariant-loop-b : goal.invariant-loop-b
invariant-loop-b l = l.out ≡ paste l.initial.out l.to l.cell l.b
