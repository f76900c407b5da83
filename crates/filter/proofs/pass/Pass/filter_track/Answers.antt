-- `filter::Pass::filter_track` meets its contract: the sums over the turned samples are the filtered values. Assumes
-- nothing.
use Rattle.std.proofs.Common.{◌+◌, ◌*◌, ◌≤◌, refl, arith}
use Rattle.complex.specs.Cuts.{cut_filled_half, part_half}
use Rattle.level.specs.SizedLaws.{sized}
use Rattle.filter.proofs.Values.{first_place, sample_count}
use Rattle.filter.proofs.Tracks.{sample_room, hz_most, part_fits, fir_room, track_filtered}
use Rattle.filter.proofs.pass.Pass.filter_track.Goals as goal

pub slice_bounds-samples-end : goal.slice_bounds-samples-end
slice_bounds-samples-end c = omega (arith, sample_room _ c.requires)

pub turn-requires : goal.turn-requires
turn-requires c =
    let p = c.args.self.now in
    let z = sized p.layout p.fits.layout in
    let half = part_half c.args.memory.now (first_place p) (first_place p + sample_count p) (omega arith)
    (sample_room p c.requires) in
    record {
      room = (omega (arith, half, z, p.fits.few), p.fits.book_is);
      hz_bound = (
        hz_most p c.requires _ c.carrier_hz-hz.ensures,
        omega (arith, p.next_is, p.fits.early),
        omega (arith, half, z, p.fits.few),
      );
    }

pub fir-requires : goal.fir-requires
fir-requires c = fir_room c.args.self.now _ (omega arith)

pub overflow_mul-c : goal.overflow_mul-c
overflow_mul-c c = omega (arith, sized _ c.args.self.now.fits.layout, c.requires.carrier)

pub overflow_add-c : goal.overflow_add-c
overflow_add-c c = omega (arith, sized _ c.args.self.now.fits.layout, c.requires.carrier)

pub append-requires : goal.append-requires
append-requires c =
    let p = c.args.self.now in
    let few : 2 * p.n ≤ 8000 = omega (arith, p.fits.few) in
    rw (cut_filled_half _ p.n _ _ c.fir.ensures few)
    (part_fits p c.requires _ p.spans.filtered (omega (arith, c.requires.carrier)) p.fits.filtered_short refl)

pub returns : goal.returns
returns c =
    let p = c.args.self.now in
    let few : 2 * p.n ≤ 8000 = omega (arith, p.fits.few) in
    track_filtered p _ _ _ _ _ _ _ _ c.requires _ c.carrier_hz-hz.ensures c.turn.ensures c.fir.ensures few
    c.append.ensures
