-- `dat::judge` meets its contract: tables in which no condition is met are accepted. Assumes nothing.
use Rattle.std.proofs.Common.{sym, ◌∙◌}
use Rattle.level.specs.SizedLaws.{sized}
use Rattle.dat.proofs.AcceptedLaws.{tables_of_lem}
use Rattle.dat.proofs.judge.Goals as goal

pub table_fault-requires : goal.table_fault-requires
table_fault-requires c = sized _ c.requires

pub invariant_of-result : goal.invariant_of-result
invariant_of-result c =
    let t = tables_of_lem _ _ _ (sized _ c.requires) (sym c.table_fault.ensures ∙ c.in_ok-table_fault.was) in
    record { is_layout = c.requires; markers_ok = t.0; phasors_ok = t.1 }
