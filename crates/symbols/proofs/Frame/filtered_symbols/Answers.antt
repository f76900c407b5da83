-- `symbols::Frame::filtered_symbols` meets its contract: a turn stores one carrier more. Assumes nothing.
use Rattle.std.proofs.Common.{ℕ, ◌-◌, ◌*◌, ◌≡◌, refl, ap, arith}
use Rattle.dat.specs.AcceptedLaws.{row_in}
use Rattle.complex.specs.Filling.{filling_all}
use Rattle.turned.specs.PartLaws.{filling_rows, filling_row}
use Rattle.symbols.proofs.Frame.filtered_symbols.Goals as goal

pub loop-c-init : goal.loop-c-init
loop-c-init c = filling_rows _ _ _

pub loop-c-preserved : goal.loop-c-preserved
loop-c-preserved c =
    let p = c.args.self.now.phasors in
    let l = p.layout in
    let z = p.accepted.sized in
    let C = c.loop-c-test.true in
    let room = row_in l.nc l.nsym _ (l.nsym - 1) C (omega (arith, z.nsym_least)) in
    filling_row _ _ _ l.nsym _ _ _ c.loop-c.invariant (λ i I. refl)
    (omega (arith, room, c.requires, z.nsym_least)) c.filtered_row.ensures

pub returns : goal.returns
returns c =
    let l = c.args.self.now.phasors.layout in
    let e : c.loop-c.c ≡ l.nc = omega (arith, c.loop-c-test.false) in
    filling_all _ _ _ _ _ c.loop-c.invariant (ap (λ (k : ℕ). k * l.nsym) e) c.requires
