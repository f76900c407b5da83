-- `scatter::Points::add_samples` meets its contract: the samples of the places passed are added. Assumes nothing.
use Rattle.std.proofs.Common.{ℕ, ◌+◌, ◌≡◌, ap, ◌∙◌, List, arith, length, get_or, set, Float}
use Rattle.std.specs.Float.{nan, binary64}
use Rattle.std.specs.Float.Ieee.{add}
use Rattle.complex.specs.ListLaws.{filled_none, filled_step, filled_all}
use Rattle.complex.specs.Lists.{filled}
use Rattle.complex.specs.Pairs.{cget}
use Rattle.complex.specs.ListLaws.{filled_rest}
use Rattle.scatter.specs.Scatter.{sample}
use Rattle.scatter.specs.Parts.{interpolated_of}
use Rattle.scatter.proofs.Points.add_samples.Goals as goal

pub loop-i-init : goal.loop-i-init
loop-i-init c = filled_none _ _

pub loop-i-preserved : goal.loop-i-preserved
loop-i-preserved c =
    let s = c.args in
    let p = s.self.now in
    let t = c.loop-i in
    let f : ℕ → Float = λ i. add binary64 (get_or s.out.now i nan)
    (sample (interpolated_of p.values.now p.first.0 p.interp.now (s.place.0 + i)) (cget s.waves.now i)) in
    let still : get_or t.out t.i nan ≡ get_or s.out.now t.i nan = ap (λ (l : List Float). get_or l t.i nan)
    t.invariant ∙ filled_rest f t.i t.i s.out.now nan (omega arith) in
    let more = c.sample_at.ensures
    ∙ ap (sample (interpolated_of p.values.now p.first.0 p.interp.now (s.place.0 + t.i))) c.get.ensures in
    let value : add binary64 (get_or t.out t.i nan) c.sample_at.result ≡ f t.i = ap
    (λ (x : Float). add binary64 x c.sample_at.result) still ∙ ap (add binary64 (get_or s.out.now t.i nan)) more in
    ap (set t.out t.i) value ∙ filled_step f t.i s.out.now t.out nan t.invariant (omega arith)

pub returns : goal.returns
returns c =
    let s = c.args in
    let p = s.self.now in
    let f : ℕ → Float = λ i. add binary64 (get_or s.out.now i nan)
    (sample (interpolated_of p.values.now p.first.0 p.interp.now (s.place.0 + i)) (cget s.waves.now i)) in
    let e : c.loop-i.i ≡ length s.out.now = omega arith in
    c.loop-i.invariant ∙ ap (λ (n : ℕ). filled f n s.out.now) e ∙ filled_all f s.out.now
