-- `Row::set_values` meets its contract: the values before k have set their flags. Assumes nothing.
use Rattle.std.proofs.Common.{◌≤◌, ◌≡◌}
use Rattle.dat.specs.FlagLaws.{set_before}
use Rattle.dat.proofs.row.Row.set_values.Given as goal

abbrev pub invariant-loop-k : goal.invariant-loop-k
invariant-loop-k l = (l.k ≤ l.self.layout.markers) × (l.set ≡ set_before l.self.layout l.self.table.now l.self.carrier l.k)
