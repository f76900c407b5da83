-- `drift::DriftFrame::turn_part` meets its contract: where all samples are in the track, they are numbers of the
-- memory. Assumes nothing.
use Rattle.std.proofs.Common.{◌+◌, ◌-◌, ◌/◌, arith, length}
use Rattle.drift.specs.DriftLaws.{samples_inside, turned_inside}
use Rattle.drift.proofs.frame.DriftFrame.turn_part.Goals as goal

pub turn_inside-requires : goal.turn_inside-requires
turn_inside-requires c =
    let a = c.args in
    let r = a.self.now in
    let n = length a.v.now / 2 in
    let inside = samples_inside r.phasors.layout _ r.samples (a.first - r.samples.base.0 + n) r.samples_fit
    (omega (arith, c.if-from-v.true)) in
    (inside, c.requires.entries)

pub returns-then-from-v : goal.returns-then-from-v
returns-then-from-v c =
    let a = c.args in
    let r = a.self.now in
    turned_inside r.phasors.layout r.memory.now r.rows.now r.samples a.at a.first (length a.v.now / 2) _ _
    c.if-base-first.true c.if-from-v.true c.turn_inside.ensures
