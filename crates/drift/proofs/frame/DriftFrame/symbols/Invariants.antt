-- `drift::DriftFrame::symbols` meets its contract: a turn stores the symbols of one carrier more. Assumes nothing.
use Rattle.std.proofs.Common.{◌*◌}
use Rattle.complex.specs.Filling.{Filling}
use Rattle.drift.specs.Frames.{symbol_ith}
use Rattle.drift.proofs.frame.DriftFrame.symbols.Given as goal

abbrev pub invariant-loop-c : goal.invariant-loop-c
invariant-loop-c l = Filling (symbol_ith l.self) (l.c * l.self.phasors.layout.nsym) l.initial.out l.out
