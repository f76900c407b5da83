-- `filter::Pass::filter_each` meets its contract: the carriers passed have their values, and nothing else is another.
-- Assumes nothing.
use Rattle.std.proofs.Common.{◌≤◌}
use Rattle.filter.specs.Carrier.{CarriersMade}
use Rattle.filter.proofs.pass.Pass.filter_each.Given as goal

abbrev pub invariant-loop-c : goal.invariant-loop-c
invariant-loop-c l = (l.c ≤ l.self.layout.nc) × CarriersMade l.self l.initial.memory l.memory l.c
