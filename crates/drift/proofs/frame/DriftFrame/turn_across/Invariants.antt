-- `drift::DriftFrame::turn_across` meets its contract: a turn turns one sample more. Assumes nothing.
use Rattle.complex.specs.Filling.{Filling}
use Rattle.turned.specs.Turned.{turned_by}
use Rattle.drift.specs.Frames.{sample_of}
use Rattle.drift.proofs.frame.DriftFrame.turn_across.Given as goal

abbrev pub invariant-loop-i : goal.invariant-loop-i
invariant-loop-i l = Filling (turned_by l.self.rows.now l.at (sample_of l.self) l.first) l.i l.initial.v l.v
