-- `Row::has_bad_value` meets its contract: none of the values passed is bad. Assumes nothing.
use Rattle.std.proofs.Common.{◌≤◌, ◌≡◌, false}
use Rattle.refusal.specs.Any.{any}
use Rattle.dat.specs.Tables.{bad_value}
use Rattle.dat.proofs.row.Row.has_bad_value.Given as goal

abbrev pub invariant-loop-k : goal.invariant-loop-k
invariant-loop-k l = (l.k ≤ l.self.layout.markers) × (any (bad_value l.self.layout l.self.table.now l.self.carrier) l.k ≡ false)
