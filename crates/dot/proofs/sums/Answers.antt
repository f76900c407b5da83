-- `dot::sums` meets its contract: a cell adds a term to each sum. Assumes nothing.
use Rattle.std.proofs.Common.{◌+◌, ◌≡◌, refl, ap, ap₂, ◌∙◌, arith, length}
use Rattle.complex.specs.Arithmetic.{cmul}
use Rattle.complex.specs.Pairs.{cget}
use Rattle.complex.specs.ListLaws.{filled_none}
use Rattle.complex.specs.SumLaws.{sums_none, sums_more, sums_all}
use Rattle.dot.specs.Dot.{dot_at, dot_term}
use Rattle.dot.proofs.sums.Goals as goal

pub loop-k-init : goal.loop-k-init
loop-k-init g c = sums_none _ _ _ c.zero-sums.ensures

pub loop-i-init : goal.loop-i-init
loop-i-init g c = c.loop-k.invariant ∙ filled_none _ _

pub loop-i-preserved : goal.loop-i-preserved
loop-i-preserved g c =
    let a = c.args in
    let t = a.table.now in
    sums_more (λ j. dot_term a.memory.now t.places.now t.references.now (a.at + j)) _ c.loop-k.k c.loop-i.i _ _ _ _
    c.loop-i-test.true c.loop-i.invariant c.accumulate.ensures
    (ap₂ cmul (ap (cget a.memory.now) (omega arith)) c.get-q.ensures)

pub loop-k-preserved : goal.loop-k-preserved
loop-k-preserved g c =
    let e : c.loop-i.i ≡ g.row.N = omega arith in
    sums_all _ _ c.loop-k.k c.loop-i.i c.loop-i.sums e c.loop-i.invariant

pub returns : goal.returns
unfolding dot_at
returns g c =
    let e : c.loop-k.k ≡ length c.args.table.now.places.now = omega arith in
    c.loop-k.invariant ∙ rw e refl
