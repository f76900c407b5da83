-- `blocks::read_track` meets its contract: a turn copies one number. Assumes nothing.
use Rattle.std.proofs.Common.{◌+◌, ◌*◌}
use Rattle.complex.specs.Pairs.{cget}
use Rattle.blocks.specs.Planes.{Filled}
use Rattle.blocks.proofs.read_track.Given as goal

abbrev pub invariant-loop-i : goal.invariant-loop-i
invariant-loop-i g l = Filled (λ i. cget l.memory (l.from + 2 * i)) l.i l.initial.track l.track
