-- `read_fault::drift_fault` meets its contract: conditions 17, 22 and 23, one after the other. Assumes nothing.
use Rattle.std.proofs.Common.{sym, ◌∙◌}
use Rattle.level.specs.SizedLaws.{sized}
use Rattle.state.specs.Near.{near_state}
use Rattle.read_fault.proofs.drift_fault.Goals as goal

pub not_in_hand-requires : goal.not_in_hand-requires
not_in_hand-requires c = (sized _ c.requires, near_state _ _ _ (sym c.wrong_state.ensures ∙ c.if-wrong_state.false))

pub wrong_drift-requires : goal.wrong_drift-requires
wrong_drift-requires c = sized _ c.requires
