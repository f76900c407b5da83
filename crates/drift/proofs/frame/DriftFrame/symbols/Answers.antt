-- `drift::DriftFrame::symbols` meets its contract: a turn stores the symbols of one carrier more. Assumes nothing.
use Rattle.std.proofs.Common.{ℕ, ◌-◌, ◌*◌, ◌≡◌, refl, ap, arith}
use Rattle.level.specs.SizedLaws.{sized}
use Rattle.dat.specs.AcceptedLaws.{row_in}
use Rattle.complex.specs.Filling.{filling_all}
use Rattle.turned.specs.PartLaws.{filling_rows, filling_row}
use Rattle.drift.proofs.frame.DriftFrame.symbols.Goals as goal

pub loop-c-init : goal.loop-c-init
loop-c-init c = filling_rows _ _ _

pub loop-c-preserved : goal.loop-c-preserved
loop-c-preserved c =
    let r = c.args.self.now in
    let l = r.phasors.layout in
    let z = sized l r.samples_fit.layout in
    let room = row_in l.nc l.nsym _ (l.nsym - 1) c.loop-c-test.true (omega (arith, z.nsym_least)) in
    filling_row _ _ _ l.nsym _ _ _ c.loop-c.invariant (λ i I. refl) (omega (arith, room, c.requires, z.nsym_least))
    c.carrier_symbols.ensures

pub returns : goal.returns
returns c =
    let l = c.args.self.now.phasors.layout in
    let e : c.loop-c.c ≡ l.nc = omega (arith, c.loop-c-test.false) in
    filling_all _ _ _ _ _ c.loop-c.invariant (ap (λ (k : ℕ). k * l.nsym) e) c.requires
