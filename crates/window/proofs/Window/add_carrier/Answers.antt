-- `window::Window::add_carrier` meets its contract: the points that the window needs, and the samples made of them.
-- Assumes nothing.
use Rattle.std.proofs.Common.{refl, ap, ◌∙◌, length, length-take, arith}
use Rattle.complex.specs.ListLaws.{length_tabulate}
use Rattle.taps.specs.Interp.{interp_tap}
use Rattle.window.proofs.Sizes.{place_small, points_few, waves_cut, taps_some, covers, room_end, room_is, room_points}
use Rattle.window.proofs.Values.{values_are}
use Rattle.window.proofs.Carriers.{before_own, carrier_done}
use Rattle.window.proofs.Window.add_carrier.Goals as goal

pub first_reaching-first-requires : goal.first_reaching-first-requires
first_reaching-first-requires c = omega (arith, place_small _ _ _ _ _ _ c.args.self.now.ready)

pub overflow_add-count : goal.overflow_add-count
overflow_add-count c = omega (arith, place_small _ _ _ _ _ _ c.args.self.now.ready, c.places_before-n.ensures.few)

pub overflow_sub-count : goal.overflow_sub-count
overflow_sub-count c = (points_few _ _ _ _ _ _ c.args.self.now.ready _ _ c.first_reaching-first.ensures
    c.places_before-n.ensures.few).1

pub put_points-requires : goal.put_points-requires
put_points-requires c =
    let w = c.args.self.now in
    let few = points_few _ _ _ _ _ _ w.ready _ _ c.first_reaching-first.ensures c.places_before-n.ensures.few in (
      c.requires.0,
      room_end _ _ _ (omega (arith, few, place_small _ _ _ _ _ _ w.ready, c.places_before-n.ensures.few)),
    )

pub invariant_of-points : goal.invariant_of-points
invariant_of-points c =
    record { tapped = ap length c.args.self.now.taps.interpolation ∙ length_tabulate interp_tap 32 }

pub add_samples-requires-clause-covered : goal.add_samples-requires-clause-covered
add_samples-requires-clause-covered c =
    let w = c.args.self.now in
    let n = c.places_before-n.ensures in
    let first = c.first_reaching-first.ensures in
    let few = points_few _ _ _ _ _ _ w.ready _ _ first n.few in
    let room = c.put_points.auto.y ∙ room_is _ _ refl few.0 in
    λ i h. covers _ _ _ _ _ _ w.ready _ _ i _ first n.few room
    (omega (arith, length-take c.places_before-n.result c.args.out.now))

pub add_samples-requires-clause-sizes : goal.add_samples-requires-clause-sizes
add_samples-requires-clause-sizes c =
    let w = c.args.self.now in
    let n = c.places_before-n.ensures in (
      waves_cut _ _ _ _ _ _ w.ready _ _ c.args.out.now c.requires.0 n.few,
      omega (arith, place_small _ _ _ _ _ _ w.ready),
    )

pub returns : goal.returns
returns c =
    let w = c.args.self.now in
    let n = c.places_before-n.ensures in
    let first = c.first_reaching-first.ensures in
    let few = points_few _ _ _ _ _ _ w.ready _ _ first n.few in
    carrier_done w.layout w.frames w.symbols.now w.place.0 w.places w.waves.now c.args.c c.args.out.now _ _
    (λ i h. values_are _ _ _ _ w.place.0 _ _ i _ _ _ _ (taps_some _ _ _ _ _ _ w.ready) first h
    c.put_points.ensures (room_points _ _ refl few.0) w.taps.interpolation)
    (before_own _ _ _ _ _ _ _ c.carrier_audio_len-own.ensures n) c.requires.1 _ c.add_samples.ensures
