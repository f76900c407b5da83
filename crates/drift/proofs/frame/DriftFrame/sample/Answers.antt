-- `drift::DriftFrame::sample` meets its contract: a number before the track, in it, or past its end. Assumes nothing.
use Rattle.std.proofs.Common.{◌-◌, ◌∙◌, arith}
use Rattle.drift.specs.DriftLaws.{sample_within, sample_before, sample_past, sample_inside}
use Rattle.drift.proofs.frame.DriftFrame.sample.Goals as goal

pub returns-then-n-base : goal.returns-then-n-base
returns-then-n-base c =
    let r = c.args.self.now in
    c.zero.ensures ∙ sample_before r.phasors.layout r.memory.now r.samples c.args.n c.if-n-base.true

pub get-requires : goal.get-requires
get-requires c =
    let r = c.args.self.now in
    sample_inside r.phasors.layout _ r.samples (c.args.n - r.samples.base.0) r.samples_fit c.if-i-self.true

pub returns-then-i-self : goal.returns-then-i-self
returns-then-i-self c =
    let r = c.args.self.now in
    c.get.ensures ∙ sample_within r.phasors.layout r.memory.now r.samples c.args.n (omega arith) c.if-i-self.true

pub returns : goal.returns
returns c =
    let r = c.args.self.now in
    c.zero-2.ensures ∙ sample_past r.phasors.layout r.memory.now r.samples c.args.n (omega arith) (omega arith)
