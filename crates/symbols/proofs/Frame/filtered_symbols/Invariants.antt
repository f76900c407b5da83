-- `symbols::Frame::filtered_symbols` meets its contract: a turn stores one carrier more. Assumes nothing.
use Rattle.std.proofs.Common.{◌*◌}
use Rattle.complex.specs.Filling.{Filling}
use Rattle.symbols.specs.Standing.{filtered_ith}
use Rattle.symbols.proofs.Frame.filtered_symbols.Given as goal

abbrev pub invariant-loop-c : goal.invariant-loop-c
invariant-loop-c l = Filling (filtered_ith l.self) (l.c * l.self.phasors.layout.nsym) l.initial.out l.out
