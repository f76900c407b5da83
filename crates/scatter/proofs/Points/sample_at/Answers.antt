-- `scatter::Points::sample_at` meets its contract: the points that reach the place are those gone over. Assumes
-- nothing.
use Rattle.std.proofs.Common.{refl, sym, ap, ◌∙◌}
use Rattle.complex.specs.declared.Complex.{Complex}
use Rattle.scatter.specs.Scatter.{sample}
use Rattle.scatter.proofs.Reach.{interpolated_is}
use Rattle.scatter.proofs.Points.sample_at.Goals as goal

pub returns : goal.returns
unfolding sample
returns c = ap (λ (v : Complex). sample v c.args.wave) (c.pulses-v.ensures ∙ sym
    (interpolated_is _ _ _ _ _ _ c.args.self.now.tapped c.requires c.first_reaching-begin.ensures refl))
