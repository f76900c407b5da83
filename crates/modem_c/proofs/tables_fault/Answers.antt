-- `modem_c::tables_fault` meets its contract: the layout's refusal, or the first fault of the tables. Assumes nothing.
use Rattle.std.proofs.Common.{sym}
use Rattle.level.specs.RowLaws.{is_layout}
use Rattle.level.specs.SizedLaws.{sized}
use Rattle.modem_c.proofs.tables_fault.Goals as goal

pub table_fault-requires : goal.table_fault-requires
table_fault-requires c = sized _ (is_layout _ _ _ (sym (rw c.in_ok-l.was at c.choose.ensures)))
