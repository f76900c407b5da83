-- `marker_rows::MarkerValues::flag_row` meets its contract: in a row of none the values before k have set their flags.
-- Assumes nothing.
use Rattle.std.proofs.Common.{◌≡◌}
use Rattle.complex.specs.Lists.{tabulate}
use Rattle.marker_rows.proofs.FlagLaws.{flag_before}
use Rattle.marker_rows.proofs.MarkerValues.flag_row.Given as goal

abbrev pub invariant-loop-k : goal.invariant-loop-k
invariant-loop-k l = l.row ≡ tabulate (flag_before l.self.layout l.self.values.now l.c l.k) l.self.layout.nsym
