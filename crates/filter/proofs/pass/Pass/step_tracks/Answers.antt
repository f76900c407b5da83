-- `filter::Pass::step_tracks` meets its contract: the steps are those of the filtered track, the powers those of the
-- steps. Assumes nothing.
use Rattle.std.proofs.Common.{◌*◌, ◌≤◌, ◌∙◌, arith, length}
use Rattle.complex.specs.Cuts.{cut_most, cut_filled_half}
use Rattle.level.specs.SizedLaws.{sized}
use Rattle.filter.specs.Carrier.{CarrierFits}
use Rattle.filter.proofs.Tracks.{part_fits, filtered_begun, steps_made, step_room}
use Rattle.filter.proofs.pass.Pass.step_tracks.Goals as goal

pub overflow_mul-c : goal.overflow_mul-c
overflow_mul-c c = omega (arith, sized _ c.args.self.now.fits.layout, c.requires.0.carrier)

pub overflow_add-c : goal.overflow_add-c
overflow_add-c c = omega (arith, sized _ c.args.self.now.fits.layout, c.requires.0.carrier)

pub part_start-at-requires : goal.part_start-at-requires
part_start-at-requires c = (sized _ c.args.self.now.fits.layout, omega (arith, c.requires.0.carrier))

pub overflow_sub-place : goal.overflow_sub-place
overflow_sub-place c =
    let p = c.args.self.now in
    omega (arith, filtered_begun p c.args.filtered c.requires.1, p.next_is, p.fits.step_end)

pub steps-requires : goal.steps-requires
steps-requires c = step_room _ _ c.requires.1 _ _ c.requires.0 c.part_start-at.ensures

pub append-requires : goal.append-requires
append-requires c =
    let p = c.args.self.now in
    let few : 2 * p.n ≤ 8000 = omega (arith, p.fits.few) in
    rw (cut_filled_half _ p.n _ _ c.steps.ensures few)
    (part_fits p c.requires.0 _ p.spans.step (omega (arith, c.requires.0.carrier)) p.fits.step_short p.fits.step_end)

pub powers-requires : goal.powers-requires
powers-requires c =
    let p = c.args.self.now in
    let few : 2 * p.n ≤ 8000 = omega (arith, p.fits.few) in
    (sized _ p.fits.layout, rw (cut_filled_half _ p.n _ _ c.steps.ensures few) (cut_most p.n _))

pub append-requires-2 : goal.append-requires-2
append-requires-2 c =
    let p = c.args.self.now in
    let few : 2 * p.n ≤ 8000 = omega (arith, p.fits.few) in
    let k : CarrierFits p (length c.append.new.memory) c.args.c = record {
      room_is = c.append.ensures.others.kept.as_long ∙ c.requires.0.room_is;
      carrier = c.requires.0.carrier;
    } in
    rw (cut_filled_half _ p.n _ _ c.powers.ensures few)
    (part_fits p k _ p.spans.power (omega (arith, c.requires.0.carrier)) p.fits.power_short p.fits.power_end)

pub returns : goal.returns
returns c =
    let p = c.args.self.now in
    let few : 2 * p.n ≤ 8000 = omega (arith, p.fits.few) in
    steps_made p _ _ _ _ _ _ _ _ _ _ _ _ c.requires.0 c.requires.1 c.part_start-at.ensures c.steps.ensures few
    c.append.ensures c.powers.ensures few c.append-2.ensures
