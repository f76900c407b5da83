-- `drift::DriftFrame::carrier_symbols` meets its contract: a turn stores the symbols of one part more. Assumes nothing.
use Rattle.std.proofs.Common.{ℕ, ◌+◌, ◌*◌, ◌≡◌, List, ap, ◌∙◌, add_assoc, arith, min, Float}
use Rattle.complex.specs.declared.Complex.{Complex}
use Rattle.complex.specs.Stored.{stored_from}
use Rattle.complex.specs.StoredLaws.{stored_none, stored_join}
use Rattle.drift.specs.Frames.{symbol_ith}
use Rattle.drift.proofs.frame.DriftFrame.carrier_symbols.Goals as goal

-- n symbols more behind the first s, of which there are none past the row's end
more : (f : ℕ → Complex) (at s n row whole : ℕ) (m p r : List Float) → min s row ≡ s → s + n ≡ whole
    → p ≡ stored_from (λ i. f (at + i)) at (min s row) m → r ≡ stored_from (λ i. f (at + s + i)) (at + s) n p
    → r ≡ stored_from (λ i. f (at + i)) at whole m
more f at s n row whole m p r here next e g =
    let joined = stored_join (λ i. f (at + i)) (λ i. f (at + s + i)) at s n m p (rw here at e)
    (λ i I. ap f (add_assoc at s i)) in
    rw next at (g ∙ joined)

pub loop-s-init : goal.loop-s-init
loop-s-init c =
    let none : min 0 c.args.self.now.phasors.layout.nsym ≡ 0 = omega arith in
    rw none (stored_none _ _ _)

pub loop-s-preserved : goal.loop-s-preserved
loop-s-preserved c =
    let r = c.args.self.now in
    let nsym = r.phasors.layout.nsym in
    let l = c.loop-s in
    more (symbol_ith r) (c.args.c * nsym) l.s c.min-n.result nsym _ _ _ _ (omega (arith, c.loop-s-test.true))
    (omega (arith, c.loop-s-test.true)) l.invariant c.turned_symbols.ensures

pub returns-2 : goal.returns-2
returns-2 c =
    let r = c.args.self.now in
    let nsym = r.phasors.layout.nsym in
    let l = c.loop-s in
    more (symbol_ith r) (c.args.c * nsym) l.s c.min-n.result nsym _ _ _ _ (omega (arith, c.loop-s-test.true))
    (omega (arith, c.loop-s-test.true)) l.invariant c.turned_symbols.ensures
