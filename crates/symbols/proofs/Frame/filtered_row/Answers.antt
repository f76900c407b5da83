-- `symbols::Frame::filtered_row` meets its contract: a turn stores one symbol more. Assumes nothing.
use Rattle.std.proofs.Common.{◌+◌, ◌*◌, ◌≡◌, ap, ◌∙◌, arith, length}
use Rattle.complex.specs.declared.Complex.{Complex}
use Rattle.complex.specs.Arithmetic.{cmul}
use Rattle.complex.specs.Pairs.{cget}
use Rattle.dat.specs.AcceptedLaws.{row_in, phasor_in}
use Rattle.symbols.specs.Standing.{filtered_from}
use Rattle.symbols.specs.FilteredLaws.{place_on, place_inside, value_is}
use Rattle.complex.specs.StoredLaws.{stored_none, stored_more, stored_ext, stored_length}
use Rattle.symbols.specs.SymbolLaws.{filtered_ith_lem}
use Rattle.symbols.proofs.Frame.filtered_row.Goals as goal

pub loop-s-init : goal.loop-s-init
loop-s-init c = stored_none _ _ _

pub overflow_add-from : goal.overflow_add-from
overflow_add-from c =
    let f = c.args.self.now in
    let s = c.loop-s.s in
    let e = place_on f c.args.c s _ c.place-from.ensures in
    omega (
      arith,
      place_inside f c.args.c s c.requires.0 c.loop-s-test.true,
      e,
      f.samples_fit.room_is,
      c.ranges,
    )

pub get-z-requires : goal.get-z-requires
get-z-requires c =
    let f = c.args.self.now in
    let s = c.loop-s.s in
    let e = place_on f c.args.c s _ c.place-from.ensures in
    omega (arith, place_inside f c.args.c s c.requires.0 c.loop-s-test.true, e, f.samples_fit.room_is)

pub put_symbol-requires : goal.put_symbol-requires
put_symbol-requires c =
    let p = c.args.self.now.phasors in
    let s = c.loop-s.s in
    let S = c.loop-s-test.true in
    let long = ap length c.loop-s.invariant ∙ stored_length _ _ _ _ in (
      omega (arith, row_in p.layout.nc p.layout.nsym c.args.c s c.requires.0 S, long, c.requires.1),
      phasor_in p.layout p.values.now c.args.c s p.accepted c.requires.0 S,
    )

pub loop-s-preserved : goal.loop-s-preserved
loop-s-preserved c =
    let p = c.args.self.now.phasors in
    stored_more _ _ _ _ _ _ _ c.loop-s.invariant
    (ap (λ (z : Complex). cmul z (cget p.values.now (c.args.c * p.layout.nsym + c.loop-s.s))) c.get-z.ensures)
    c.put_symbol.ensures

pub returns : goal.returns
returns c =
    let f = c.args.self.now in
    let e : c.loop-s.s ≡ f.phasors.layout.nsym = omega arith in
    (rw e at c.loop-s.invariant)
    ∙ stored_ext _ (filtered_from f (c.args.c * f.phasors.layout.nsym)) _ _ _
    (λ k K. filtered_ith_lem f c.args.c k _ K
    (ap (cget f.memory.now) (place_on f c.args.c k _ c.place-from.ensures)
    ∙ value_is f c.args.c k c.requires.0 K))
