-- `drift::DriftFrame::carrier_symbols` meets its contract: a turn stores the symbols of one part more. Assumes nothing.
use Rattle.std.proofs.Common.{◌*◌, ◌≡◌, min}
use Rattle.complex.specs.Stored.{stored_from}
use Rattle.drift.specs.Frames.{symbol_from}
use Rattle.drift.proofs.frame.DriftFrame.carrier_symbols.Given as goal

abbrev pub invariant-loop-s : goal.invariant-loop-s
invariant-loop-s l = l.out ≡ stored_from
    (symbol_from l.self (l.c * l.nsym)) (l.c * l.nsym) (min l.s l.nsym) l.initial.out
