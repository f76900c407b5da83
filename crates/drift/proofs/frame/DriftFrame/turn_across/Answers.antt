-- `drift::DriftFrame::turn_across` meets its contract: a turn turns one sample more. Assumes nothing.
use Rattle.std.proofs.Common.{ap₂, ◌∙◌, arith}
use Rattle.complex.specs.Arithmetic.{cmul}
use Rattle.complex.specs.Filling.{filling_none, filling_more}
use Rattle.turned.specs.Turned.{turned_by}
use Rattle.drift.proofs.frame.DriftFrame.turn_across.Goals as goal

pub loop-i-init : goal.loop-i-init
loop-i-init c = filling_none _ _

pub loop-i-preserved : goal.loop-i-preserved
unfolding turned_by
loop-i-preserved c =
    let z = c.mul-turned.ensures ∙ ap₂ cmul c.get.ensures c.sample-z.ensures in
    filling_more _ _ _ _ _ _ c.loop-i.invariant (omega arith) z c.put.ensures
