-- `drift::DriftFrame::turned_symbols` meets its contract: the samples from symbol s on, turned, and the symbols of them.
-- Assumes nothing.
use Rattle.std.proofs.Common.{ℕ, ◌+◌, ◌-◌, ◌*◌, ◌/◌, ◌≤◌, ◌<◌, ◌≡◌, ap, ◌∙◌, length, take, arith}
use Rattle.complex.specs.Pairs.{cfilled}
use Rattle.complex.specs.PairLaws.{cfilled_length}
use Rattle.complex.specs.Cuts.{cut_length, cut_half, cut_filled}
use Rattle.level.specs.Rows.{IsLayout}
use Rattle.level.specs.SizedLaws.{sized}
use Rattle.level.specs.declared.Layout.{Layout}
use Rattle.dat.specs.AcceptedLaws.{row_in, phasor_in}
use Rattle.positions.specs.Positions.{drift_length}
use Rattle.turned.specs.Turned.{turned_by}
use Rattle.drift.specs.Rows.{entry_of, RowPart}
use Rattle.drift.specs.Frames.{sample_of, symbol_from}
use Rattle.drift.specs.DriftLaws.{part_few, row_most, rows_small}
use Rattle.complex.specs.StoredLaws.{stored_ext}
use Rattle.drift.specs.DriftLaws.{drift_ith_lem}
use Rattle.drift.proofs.frame.DriftFrame.turned_symbols.Goals as goal

-- the turned samples take at most 1,121 numbers of the room for them
room : (l : Layout) → IsLayout l → {v out c s n : ℕ} → RowPart l v out c s n → 2 * (32 * (n - 1) + l.taps) ≤ v
room l i p =
    let z = sized l i in
    omega (arith, p.few, p.room, z.taps_are, z.delay_most)

few : (l : Layout) → IsLayout l → {v out c s n : ℕ} → RowPart l v out c s n
    → entry_of l c s + (32 * (n - 1) + l.taps) ≤ drift_length l
few l i {v} {out} {c} {s} {n} p = part_few l i c s n p.carrier p.some p.within

pub overflow_add-entry : goal.overflow_add-entry
overflow_add-entry c =
    let i = c.args.self.now.samples_fit.layout in
    omega (arith, few _ i c.requires, row_most _ i, c.stagger.ensures)

pub overflow_add-entry-2 : goal.overflow_add-entry-2
overflow_add-entry-2 c =
    let i = c.args.self.now.samples_fit.layout in
    omega (arith, few _ i c.requires, row_most _ i, c.stagger.ensures)

pub overflow_add-first : goal.overflow_add-first
overflow_add-first c =
    let r = c.args.self.now in
    let i = r.samples_fit.layout in
    omega (arith, few _ i c.requires, row_most _ i, c.stagger.ensures, r.rows_fit.small)

pub overflow_add-c : goal.overflow_add-c
overflow_add-c c =
    let r = c.args.self.now in
    let i = r.samples_fit.layout in
    let e : c.args.c * c.drift_length.result ≡ c.args.c * drift_length r.phasors.layout =
    ap (λ (d : ℕ). c.args.c * d) c.drift_length.ensures in
    omega (
      arith,
      e,
      rows_small _ c.args.c i c.requires.carrier,
      few _ i c.requires,
      row_most _ i,
      c.stagger.ensures,
    )

pub turn_part-requires : goal.turn_part-requires
turn_part-requires c =
    let a = c.args in
    let r = a.self.now in
    let l = r.phasors.layout in
    let i = r.samples_fit.layout in
    let p = c.requires in
    let g = c.stagger.ensures in
    let f = few l i p in
    let half = cut_half (32 * (a.n - 1) + l.taps) a.v.now (room l i p) in
    let e : a.c * c.drift_length.result ≡ a.c * drift_length l = ap (λ (d : ℕ). a.c * d) c.drift_length.ensures in
    let w = row_in l.nc (drift_length l) a.c (c.stagger.result + 32 * a.s + (32 * (a.n - 1) + l.taps)) p.carrier
    (omega (arith, f, g)) in
    record {
      entries = omega (arith, half, e, w, r.rows_fit.length_is);
      small = omega (arith, half, f, row_most l i, g, r.rows_fit.small);
    }

pub part_symbols-requires : goal.part_symbols-requires
part_symbols-requires c =
    let a = c.args in
    let r = a.self.now in
    let l = r.phasors.layout in
    let p = c.requires in
    let last : a.s + a.n - 1 < l.nsym = omega (arith, p.some, p.within) in
    let w = row_in l.nc l.nsym a.c (a.s + a.n - 1) p.carrier last in
    let q = phasor_in l r.phasors.values.now a.c (a.s + a.n - 1) r.phasors.accepted p.carrier last in
    let part = take (2 * (32 * (a.n - 1) + l.taps)) a.v.now in
    let long = ap length c.turn_part.ensures ∙ cfilled_length _ (length part / 2) part (omega arith) in
    let whole = cut_length (32 * (a.n - 1) + l.taps) a.v.now (room l r.samples_fit.layout p) in
    record {
      samples_long = omega (arith, long, whole, p.some, r.taps_are.length_is);
      out_long = omega (arith, w, p.out_is, p.some);
      phasors_long = omega (arith, q, p.some);
    }

pub returns : goal.returns
returns c =
    let a = c.args in
    let r = a.self.now in
    let l = r.phasors.layout in
    let p = c.requires in
    let part = take (2 * (32 * (a.n - 1) + l.taps)) a.v.now in
    let v =
    cut_filled _ (32 * (a.n - 1) + l.taps) _ _ c.turn_part.ensures (room l r.samples_fit.layout p)
    ∙ ap (λ (d : ℕ). cfilled (turned_by r.rows.now (a.c * d + (c.stagger.result + 32 * a.s + 1))
    (sample_of r) (r.t.0 - l.delay - 1 + (c.stagger.result + 32 * a.s + 1))) (32 * (a.n - 1) + l.taps) part)
    c.drift_length.ensures
    ∙ ap (λ (g : ℕ). cfilled (turned_by r.rows.now (a.c * drift_length l + (g + 32 * a.s + 1))
    (sample_of r) (r.t.0 - l.delay - 1 + (g + 32 * a.s + 1))) (32 * (a.n - 1) + l.taps) part)
    c.stagger.ensures in
    c.part_symbols.ensures
    ∙ stored_ext _ (symbol_from r (a.c * l.nsym + a.s)) _ _ _
    (drift_ith_lem l r.memory.now r.phasors.values.now r.t.0 r.samples r.rows.now r.taps.now _ _ a.c a.s a.n p.within
    r.taps_are v)
