-- `blocks::read_track` meets its contract: a turn copies one number. Assumes nothing.
use Rattle.std.proofs.Common.{refl, arith}
use Rattle.blocks.proofs.Laws.{filled_start, filled_more}
use Rattle.blocks.proofs.read_track.Goals as goal

pub loop-i-init : goal.loop-i-init
loop-i-init g c = filled_start _ _

pub loop-i-preserved : goal.loop-i-preserved
loop-i-preserved g c =
    filled_more _ _ _ _ _ _ c.loop-i.invariant (omega arith) (omega arith) c.get-z.ensures refl refl refl
