-- `Row::bad_flags` meets its contract: whether one of the flags passed is bad. Assumes nothing.
use Rattle.std.proofs.Common.{◌≤◌, ◌≡◌}
use Rattle.refusal.specs.Any.{any}
use Rattle.dat.specs.Tables.{bad_flag}
use Rattle.dat.proofs.row.Row.bad_flags.Given as goal

abbrev pub invariant-loop-j : goal.invariant-loop-j
invariant-loop-j l = (l.j ≤ l.self.layout.nsym) × (l.bad ≡ any (bad_flag l.self.layout l.self.table.now l.self.carrier) l.j)
