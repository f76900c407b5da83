-- `scatter::Row::put_points` meets its contract: the points passed stand in y. Assumes nothing.
use Rattle.std.proofs.Common.{ℕ, ◌+◌, ◌/◌, ◌≡◌, ap, ◌∙◌, arith, length}
use Rattle.complex.specs.declared.Complex.{Complex}
use Rattle.complex.specs.Pairs.{cset, cfilled}
use Rattle.complex.specs.PairLaws.{cfilled_none, cfilled_step}
use Rattle.scatter.specs.Parts.{point_of}
use Rattle.scatter.proofs.Row.put_points.Goals as goal

pub loop-k-init : goal.loop-k-init
loop-k-init c = cfilled_none _ _

pub loop-k-preserved : goal.loop-k-preserved
loop-k-preserved c =
    let row = c.args.self.now in
    let t = c.loop-k in
    let f : ℕ → Complex = λ k. point_of row.symbols.now row.offset row.pulse.now (c.args.first + k) in
    c.put.ensures ∙ ap (cset t.y t.k) c.point.ensures
    ∙ cfilled_step f t.k c.args.y.now t.y t.invariant (omega arith)

pub returns : goal.returns
returns c =
    let row = c.args.self.now in
    let y = c.args.y.now in
    let f : ℕ → Complex = λ k. point_of row.symbols.now row.offset row.pulse.now (c.args.first + k) in
    let e : c.loop-k.k ≡ length y / 2 = omega arith in
    c.loop-k.invariant ∙ ap (λ (n : ℕ). cfilled f n y) e
