-- `dot::sums` meets its contract: a cell adds a term to each sum. Assumes nothing.
use Rattle.std.proofs.Common.{ℕ, ◌≡◌, ◌+◌}
use Rattle.complex.specs.Lists.{tabulate, filled}
use Rattle.complex.specs.Sums.{sum_to}
use Rattle.dot.specs.Dot.{dot_term}
use Rattle.dot.proofs.sums.Given as goal

abbrev pub invariant-loop-k : goal.invariant-loop-k
invariant-loop-k g l =
    let t = l.table in
    l.sums ≡ tabulate (λ (i : ℕ). sum_to (dot_term l.memory t.places.now t.references.now (l.at + i)) l.k) g.row.N

-- the first i sums have the cell's term
abbrev pub invariant-loop-i : goal.invariant-loop-i
invariant-loop-i g l =
    let t = l.table in
    l.sums ≡ filled (λ (i : ℕ). sum_to (dot_term l.memory t.places.now t.references.now (l.at + i)) (l.k + 1)) l.i
    (tabulate (λ (i : ℕ). sum_to (dot_term l.memory t.places.now t.references.now (l.at + i)) l.k) g.row.N)
