-- `rx::judge` meets its contract: the chosen layout is one. Assumes nothing.
use Rattle.std.proofs.Common.{sym}
use Rattle.level.specs.RowLaws.{is_layout}
use Rattle.rx.proofs.judge.Goals as goal

pub judge-requires : goal.judge-requires
judge-requires c = is_layout _ _ _ (sym (rw c.in_ok-l.was at c.choose.ensures))
