-- `scatter::Row::put_points` meets its contract: the points passed stand in y. Assumes nothing.
use Rattle.std.proofs.Common.{◌+◌, ◌≡◌}
use Rattle.complex.specs.Pairs.{cfilled}
use Rattle.scatter.specs.Parts.{point_of}
use Rattle.scatter.proofs.Row.put_points.Given as goal

abbrev pub invariant-loop-k : goal.invariant-loop-k
invariant-loop-k l = l.y ≡ cfilled (λ k. point_of l.self.symbols.now l.self.offset l.self.pulse.now (l.first + k)) l.k
    l.initial.y
