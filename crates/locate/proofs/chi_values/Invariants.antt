-- `locate::chi_values` meets its contract: a turn makes one value. Assumes nothing.
use Rattle.std.proofs.Common.{◌+◌, ◌≡◌}
use Rattle.complex.specs.Lists.{filled}
use Rattle.search.specs.Flat.{flat_chi}
use Rattle.locate.proofs.chi_values.Given as goal

abbrev pub invariant-loop-i : goal.invariant-loop-i
invariant-loop-i g l = l.values ≡ filled (λ i. flat_chi l.t (l.fn.p.0 + i)) l.i l.initial.values
