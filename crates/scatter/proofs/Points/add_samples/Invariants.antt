-- `scatter::Points::add_samples` meets its contract: the samples of the places passed are added. Assumes nothing.
use Rattle.std.proofs.Common.{◌+◌, ◌≡◌, get_or}
use Rattle.std.specs.Float.{nan, binary64}
use Rattle.std.specs.Float.Ieee.{add}
use Rattle.complex.specs.Lists.{filled}
use Rattle.complex.specs.Pairs.{cget}
use Rattle.scatter.specs.Scatter.{sample}
use Rattle.scatter.specs.Parts.{interpolated_of}
use Rattle.scatter.proofs.Points.add_samples.Given as goal

abbrev pub invariant-loop-i : goal.invariant-loop-i
invariant-loop-i l = l.out ≡ filled (λ i. add binary64 (get_or l.initial.out i nan)
    (sample (interpolated_of l.self.values.now l.self.first.0 l.self.interp.now (l.at + i)) (cget l.waves i)))
    l.i l.initial.out
