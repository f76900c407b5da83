-- `locate::chi_values` meets its contract: a turn makes one value. Assumes nothing.
use Rattle.std.proofs.Common.{ℕ, ◌+◌, ◌-◌, ◌≤◌, ◌<◌, ◌≡◌, ◌∙◌, arith, List, length, get_or}
use Rattle.std.specs.Float.{nan}
use Rattle.std.proofs.Math.ListN.{replicate}
use Rattle.std.proofs.lemmas.List.{length-replicate}
use Rattle.complex.specs.declared.Complex.{Complex}
use Rattle.complex.specs.Arithmetic.{cx}
use Rattle.complex.specs.Lists.{tabulate, filled}
use Rattle.complex.specs.ListLaws.{get_or_tabulate, filled_none, filled_step, filled_all}
use Rattle.offers.specs.declared.Counts.{Counts}
use Rattle.offers.specs.declared.Chi.{Chi}
use Rattle.offers.specs.Counts.{counts_of}
use Rattle.search.specs.declared.tables.FlatTables.{FlatTables}
use Rattle.search.specs.Flat.{table_dot, flat_chi}
use Rattle.locate.specs.Fits.{chi_of}
use Rattle.locate.proofs.chi_values.Goals as goal

-- the i-th of n values is chi there
value_is : (t : FlatTables) (p i n : ℕ) (k : Counts) (a b : List Complex) → t.base.0 ≤ p → i < n
    → k ≡ counts_of (length t.marks.places.now) (length t.cells.places.now)
    → a ≡ tabulate (λ j. table_dot t t.marks (p - t.base.0 + j)) n
    → b ≡ tabulate (λ j. table_dot t t.cells (p - t.base.0 + j)) n
    → chi_of k (get_or a i (cx nan nan)) (get_or b i (cx nan nan)) ≡ flat_chi t (p + i)
unfolding flat_chi
value_is t p i n k a b h l e f g =
    let at : p - t.base.0 + i ≡ p + i - t.base.0 = omega arith in
    let x : get_or a i (cx nan nan) ≡ table_dot t t.marks (p + i - t.base.0) =
    rw (f, ← at) (get_or_tabulate (λ j. table_dot t t.marks (p - t.base.0 + j)) n i _ l) in
    let y : get_or b i (cx nan nan) ≡ table_dot t t.cells (p + i - t.base.0) =
    rw (g, ← at) (get_or_tabulate (λ j. table_dot t t.cells (p - t.base.0 + j)) n i _ l) in
    rw (e, x, y)

-- all n of them
values_are : (f : ℕ → Chi) (n i : ℕ) (x : Chi) (values : List Chi) → i ≡ n → values ≡ filled f i (replicate n x)
    → values ≡ tabulate f n
values_are f n i x values h e =
    let m : length (replicate n x) ≡ n = length-replicate n x in
    e ∙ rw h (rw m at (filled_all f (replicate n x)))

pub loop-i-init : goal.loop-i-init
loop-i-init g c = filled_none _ _

pub loop-i-preserved : goal.loop-i-preserved
loop-i-preserved g c =
    let a = c.args in
    let l = c.loop-i in
    let f : ℕ → Chi = λ i. flat_chi a.t.now (a.p.0 + i) in
    let e = c.chi_of.ensures
    ∙ value_is a.t.now a.p.0 l.i g.row.N _ _ _ c.requires.0 c.loop-i-test.true c.counts_of-n.ensures
    c.sums-pilot_sums.ensures c.sums-data_sums.ensures in
    rw e (filled_step f l.i _ l.values c.chi_of.result l.invariant
    (omega (arith, length-replicate g.row.N c.chi_of-values.result)))

pub returns : goal.returns
returns g c = values_are _ g.row.N c.loop-i.i _ _ (omega arith) c.loop-i.invariant
