-- `turned::sums` meets its contract: a tap adds a term to each sum. Assumes nothing.
use Rattle.std.proofs.Common.{ℕ, ◌≡◌, ◌+◌, ◌*◌}
use Rattle.complex.specs.Lists.{tabulate, filled}
use Rattle.complex.specs.Sums.{sum_to}
use Rattle.fir.specs.Fir.{tap_term}
use Rattle.turned.proofs.sums.Given as goal

abbrev pub invariant-loop-j : goal.invariant-loop-j
invariant-loop-j g l = l.sums ≡ tabulate (λ (k : ℕ). sum_to (tap_term l.v l.taps (l.i + 32 * k)) l.j) g.row.N

-- the first k sums have the tap's term
abbrev pub invariant-loop-k : goal.invariant-loop-k
invariant-loop-k g l =
    l.sums ≡ filled (λ (k : ℕ). sum_to (tap_term l.v l.taps (l.i + 32 * k)) (l.j + 1)) l.k
    (tabulate (λ (k : ℕ). sum_to (tap_term l.v l.taps (l.i + 32 * k)) l.j) g.row.N)
