-- `locate::better_all` meets its contract: a turn takes one position more. Assumes nothing.
use Rattle.std.proofs.Common.{◌≡◌}
use Rattle.locate.specs.Locate.{better_all}
use Rattle.locate.specs.Fits.{chi_or_nan}
use Rattle.locate.proofs.better_all.Given as goal

abbrev pub invariant-loop-i : goal.invariant-loop-i
invariant-loop-i l = l.best ≡ better_all l.fn.best l.p.0 (chi_or_nan l.values) l.i
