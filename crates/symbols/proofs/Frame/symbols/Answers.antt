-- `symbols::Frame::symbols` meets its contract: with drift rows or without; the taps in hand are the receiver's.
-- Assumes nothing.
use Rattle.std.proofs.Common.{◌<◌, ◌≤◌, ap, sym, ◌∙◌, arith, length}
use Rattle.std.proofs.lemmas.Bool.{eqb-true, eqb-false}
use Rattle.complex.specs.Pairs.{parts}
use Rattle.fir.proofs.Taps.{is_taps}
use Rattle.symbols.specs.SymbolLaws.{by_filtered, by_drift}
use Rattle.symbols.proofs.Frame.symbols.Goals as goal

pub returns-then-is_empty : goal.returns-then-is_empty
returns-then-is_empty c =
    c.filtered_symbols.ensures
    ∙ ap parts (by_filtered c.args.self.now c.args.drift.now
    (eqb-true _ _ (sym c.is_empty.ensures ∙ c.if-is_empty.true)))

pub invariant_of-frame : goal.invariant_of-frame
invariant_of-frame c =
    let f = c.args.self.now in
    let some : 0 < length c.args.drift.now =
    omega (arith, eqb-false (length c.args.drift.now) 0 (sym c.is_empty.ensures ∙ c.if-is_empty.false)) in
    let few : f.phasors.layout.taps ≤ 129 = omega (arith, f.phasors.accepted.sized) in
    record {
      samples_fit = f.samples_fit;
      rows_fit = c.requires.0 some;
      taps_are = is_taps _ _ _ c.receiver_taps.ensures few;
    }

pub returns : goal.returns
returns c =
    c.symbols.ensures
    ∙ ap parts (by_drift c.args.self.now c.args.drift.now
    (eqb-false _ _ (sym c.is_empty.ensures ∙ c.if-is_empty.false)))
