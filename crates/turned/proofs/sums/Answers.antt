-- `turned::sums` meets its contract: a tap adds a term to each sum. Assumes nothing.
use Rattle.std.proofs.Common.{◌+◌, ◌*◌, ◌≡◌, refl, ◌∙◌, arith, length}
use Rattle.complex.specs.ListLaws.{filled_none}
use Rattle.complex.specs.SumLaws.{sums_none, sums_more, sums_all}
use Rattle.fir.specs.Fir.{fir_at, tap_term}
use Rattle.turned.proofs.sums.Goals as goal

pub loop-j-init : goal.loop-j-init
loop-j-init g c = sums_none _ _ _ c.zero-sums.ensures

pub loop-k-init : goal.loop-k-init
loop-k-init g c = c.loop-j.invariant ∙ filled_none _ _

pub loop-k-preserved : goal.loop-k-preserved
loop-k-preserved g c =
    let a = c.args in
    sums_more (λ k. tap_term a.v.now a.taps.now (a.i + 32 * k)) _ c.loop-j.j c.loop-k.k _ _ _ _ c.loop-k-test.true
    c.loop-k.invariant c.weigh.ensures refl

pub loop-j-preserved : goal.loop-j-preserved
loop-j-preserved g c =
    let e : c.loop-k.k ≡ g.row.N = omega arith in
    sums_all _ _ c.loop-j.j c.loop-k.k c.loop-k.sums e c.loop-k.invariant

pub returns : goal.returns
unfolding fir_at
returns g c =
    let e : c.loop-j.j ≡ length c.args.taps.now = omega arith in
    c.loop-j.invariant ∙ rw e refl
