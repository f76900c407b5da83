-- `carrier_rows::Sending::put_frame` meets its contract: the state is that after symbol k, and the symbols up to it are
-- written. Assumes nothing.
use Rattle.std.proofs.Common.{ℕ, zero, suc, ◌+◌, ◌-◌, ◌*◌, ◌<◌, ◌≤◌, ◌≡◌, refl, ap, ◌∙◌, List, add-zero, arith, length, Float}
use Rattle.complex.specs.Pairs.{cget, cset}
use Rattle.level.specs.SizedLaws.{sized}
use Rattle.dat.specs.AcceptedLaws.{phasor_in}
use Rattle.dat.specs.declared.accepted.MarkerTable.{MarkerTable}
use Rattle.carrier_rows.specs.declared.Running.{Running}
use Rattle.carrier_rows.specs.declared.Sending.{Sending}
use Rattle.carrier_rows.specs.Symbols.{symbol_of, frame_symbol}
use Rattle.carrier_rows.specs.Running.{running_at, advanced}
use Rattle.carrier_rows.specs.Sent.{frame_of}
use Rattle.carrier_rows.proofs.RunningLaws.{start_is, advanced_is}
use Rattle.complex.specs.Stored.{stored_from}
use Rattle.complex.specs.StoredLaws.{stored_none}
use Rattle.carrier_rows.proofs.StoredRows.{stored_step}
use Rattle.carrier_rows.specs.Accepted.{CellReady}
use Rattle.carrier_rows.proofs.Places.{cell_ready, ready}
use Rattle.carrier_rows.proofs.Sending.put_frame.Goals as goal

abbrev nsym : Sending → ℕ
nsym s = s.tables.layout.nsym

abbrev running : Sending → ℕ → ℕ → ℕ → Running
running s f c k = running_at s.tables.layout s.tables.markers.now s.payload.now s.draws.now f c k

nsym_least : (s : Sending) → 2 ≤ nsym s
nsym_least s = omega (arith, (sized _ s.tables.is_layout).nsym_least)

module _ (s : Sending) (c : ℕ) (C : c < s.tables.layout.nc) where
  phasor_at : (k : ℕ) → k < nsym s → 2 * (c * nsym s + k) + 1 < length s.tables.phasors.now
  phasor_at k K = phasor_in s.tables.layout s.tables.phasors.now c k s.tables.phasors_ok C K

  -- m is the table of what is sent
  module _ (m : MarkerTable) (u : m.layout ≡ s.tables.layout) (v : m.entries.now ≡ s.tables.markers.now) (f k : ℕ)
      (P : 1 ≤ k) (q : Running) (e : q ≡ running s f c (k - 1)) where
    next_ready : f < s.frames → k < nsym s → CellReady m.layout m.entries.now s.payload.now c k q.place
    unfolding running_at
    next_ready F K = rw (u, v, e) (ready_at k P K)
      where
        ready_at : (k : ℕ) → 1 ≤ k → k < nsym s
            → CellReady s.tables.layout s.tables.markers.now s.payload.now c k (running s f c (k - 1)).place
        ready_at zero P K = absurd (omega arith)
        ready_at (suc k) P K =
            let z : suc k - 1 ≡ k = omega arith in
            rw z (cell_ready _ _ _ (ready s _ refl) f c F C k K)

    next_running : (r : Running) → r ≡ advanced m.layout m.entries.now s.payload.now c k q → r ≡ running s f c k
    next_running r g = rw (u, v, e) at g ∙ advanced_is _ _ _ _ _ _ k P

-- symbol k is written after those before it
stored_next : (s : Sending) (c f at k : ℕ) (xs ys zs : List Float) (q : Running)
    → ys ≡ stored_from (frame_of s c f) at k xs → q ≡ running s f c k
    → zs ≡ cset ys (at + k) (symbol_of q.d (cget s.tables.phasors.now (c * nsym s + k)))
    → zs ≡ stored_from (frame_of s c f) at (k + 1) xs
unfolding frame_symbol running_at
stored_next s c f at k xs ys zs q e g h =
    h ∙ ap (λ (x : Running). cset ys (at + k) (symbol_of x.d (cget s.tables.phasors.now (c * nsym s + k)))) g
    ∙ stored_step (frame_of s c f) at k xs ys e

stored_first : (s : Sending) (c f at : ℕ) (xs ys : List Float) (q : Running) → q ≡ running s f c 0
    → ys ≡ cset xs at (symbol_of q.d (cget s.tables.phasors.now (c * nsym s)))
    → ys ≡ stored_from (frame_of s c f) at 1 xs
stored_first s c f at xs ys q e h =
    stored_next s c f at 0 xs xs ys q (stored_none _ _ _) e (rw (add-zero at, add-zero (c * nsym s)) h)

pub put_symbol-requires : goal.put_symbol-requires
put_symbol-requires c =
    let s = c.args.self.now in
    let a = phasor_at s _ c.requires.0 0 (omega (arith, nsym_least s)) in
    (omega (arith, nsym_least s, c.requires.2), omega arith)

pub loop-s-init : goal.loop-s-init
loop-s-init c =
    let e = c.start-r.ensures ∙ start_is _ _ _ _ _ _ in
    (e, stored_first c.args.self.now _ _ _ _ _ _ e c.put_symbol.ensures)

pub advance-r-requires : goal.advance-r-requires
advance-r-requires c =
    let m = c.marker_table-m in
    next_ready c.args.self.now _ c.requires.0 m.result m.ensures.0 m.ensures.1 _ _ c.loop-s.auto.s _
    c.loop-s.invariant.0 c.requires.1 c.loop-s-test.true

pub put_symbol-requires-in-loop-s : goal.put_symbol-requires-in-loop-s
put_symbol-requires-in-loop-s c = (
  omega (arith, c.loop-s.auto.rows, c.put_symbol.auto.rows, c.requires.2),
  phasor_at c.args.self.now _ c.requires.0 _ c.loop-s-test.true,
)

pub loop-s-preserved : goal.loop-s-preserved
loop-s-preserved c =
    let m = c.marker_table-m in
    let e = next_running c.args.self.now _ c.requires.0 m.result m.ensures.0 m.ensures.1 _ _ c.loop-s.auto.s _
    c.loop-s.invariant.0 _ c.advance-r.ensures in
    let z : c.loop-s.s + 1 - 1 ≡ c.loop-s.s = omega arith in
    (rw z e, stored_next c.args.self.now _ _ _ _ _ _ _ _ c.loop-s.invariant.1 e c.put_symbol-in-loop-s.ensures)

pub returns : goal.returns
returns c =
    let e : c.loop-s.s ≡ c.args.self.now.tables.layout.nsym = omega (arith, nsym_least c.args.self.now) in
    rw e at c.loop-s.invariant.1
