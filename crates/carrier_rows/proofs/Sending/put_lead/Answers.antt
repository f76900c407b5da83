-- `carrier_rows::Sending::put_lead` meets its contract: the leads before k are written. Assumes nothing.
use Rattle.std.proofs.Common.{ℕ, ◌+◌, ◌*◌, ◌<◌, ◌≤◌, ◌≡◌, ap, ◌∙◌, List, arith, length, get_or, Float}
use Rattle.complex.specs.declared.Complex.{Complex}
use Rattle.complex.specs.Pairs.{cget, cset}
use Rattle.constellation.specs.Alphabet.{point_of}
use Rattle.level.specs.Lengths.{row_length}
use Rattle.level.specs.SizedLaws.{sized}
use Rattle.dat.specs.AcceptedLaws.{phasor_in}
use Rattle.carrier_rows.specs.declared.Sending.{Sending}
use Rattle.carrier_rows.specs.Symbols.{lead_point, symbol_of, lead_symbol}
use Rattle.carrier_rows.specs.Sent.{room_of, row_from, lead_of}
use Rattle.complex.specs.Stored.{stored_from}
use Rattle.complex.specs.StoredLaws.{stored_none, stored_length}
use Rattle.carrier_rows.proofs.StoredRows.{stored_step}
use Rattle.carrier_rows.proofs.Places.{lead_inside, draws_small, row_room}
use Rattle.carrier_rows.proofs.Sending.put_lead.Goals as goal

module _ (s : Sending) (c : ℕ) (C : c < s.tables.layout.nc) where
  place_small : {k : ℕ} → k < 8 → s.frames * s.tables.layout.nc + (k * s.tables.layout.nc + c) ≤ 156
  place_small {k} K =
      let a = lead_inside s.tables.layout s.frames s.draws.now c k s.draws_ok C K in
      let b = draws_small s.tables.layout s.frames s.tables.is_layout s.frames_most in
      let d = s.draws_ok.count in
      omega arith

  lead_symbol_lem : {k : ℕ} → k < 8 → k < s.tables.layout.nsym
  lead_symbol_lem {k} K = omega (arith, (sized _ s.tables.is_layout).nsym_least)

  lead_room : (k n len : ℕ) → n ≡ row_length s.tables.layout s.frames → len ≡ room_of s → k < 8
      → 2 * (c * n + k) + 1 < len
  unfolding row_length
  lead_room k n len e g K =
      let a = row_room s.tables.layout s.tables.is_layout s.frames c C in
      let d : c * n ≡ row_from s c = ap (λ (x : ℕ). c * x) e in
      omega arith

turn : (s : Sending) (c at k : ℕ) (xs ys zs : List Float) (d : Complex) → ys ≡ stored_from (lead_of s c) at k xs
    → d ≡ point_of s.tables.layout.bps
    (get_or s.draws.now (s.frames * s.tables.layout.nc + (k * s.tables.layout.nc + c)) 0)
    → zs ≡ cset ys (at + k) (symbol_of d (cget s.tables.phasors.now (c * s.tables.layout.nsym + k)))
    → zs ≡ stored_from (lead_of s c) at (k + 1) xs
unfolding lead_symbol lead_point
turn s c at k xs ys zs d e f g =
    g
    ∙ ap (λ (z : Complex). cset ys (at + k) (symbol_of z (cget s.tables.phasors.now (c * s.tables.layout.nsym + k)))) f
    ∙ stored_step (lead_of s c) at k xs ys e

pub loop-k-init : goal.loop-k-init
loop-k-init c = stored_none _ _ _

pub drawn-d-requires : goal.drawn-d-requires
drawn-d-requires c = lead_inside _ _ _ _ _ c.args.self.now.draws_ok c.requires.0 c.loop-k-test.true

pub put_symbol-requires : goal.put_symbol-requires
put_symbol-requires c =
    let s = c.args.self.now in (
      lead_room s _ c.requires.0 _ _ _ c.row_len.ensures
          (ap length c.loop-k.invariant ∙ stored_length _ _ _ _ ∙ c.requires.1) c.loop-k-test.true,
      phasor_in _ _ _ _ s.tables.phasors_ok c.requires.0 (lead_symbol_lem s _ c.requires.0 c.loop-k-test.true),
    )

pub loop-k-preserved : goal.loop-k-preserved
loop-k-preserved c =
    turn c.args.self.now _ _ _ c.args.rows.now _ _ _ c.loop-k.invariant c.drawn-d.ensures c.put_symbol.ensures
