-- `marker_rows::MarkerValues::flag_rows` meets its contract: the rows of the carriers passed. Assumes nothing.
use Rattle.std.proofs.Common.{◌≡◌}
use Rattle.complex.specs.Lists.{rows_filled}
use Rattle.marker_rows.specs.Draw.{flag_of}
use Rattle.marker_rows.proofs.MarkerValues.flag_rows.Given as goal

abbrev pub invariant-loop-c : goal.invariant-loop-c
invariant-loop-c l =
    l.flags ≡ rows_filled (flag_of l.self.layout l.self.values.now) l.self.layout.nsym l.c l.initial.flags
