-- `filter::Pass::filter_each` meets its contract: the carriers passed have their values, and nothing else is another.
-- Assumes nothing.
use Rattle.std.proofs.Common.{◌≡◌, arith}
use Rattle.filter.proofs.Carriers.{carriers_more}
use Rattle.filter.proofs.pass.Pass.filter_each.Goals as goal

pub loop-c-preserved : goal.loop-c-preserved
loop-c-preserved c = (omega arith, carriers_more _ _ c.loop-c.invariant.1 c.filter_carrier.ensures)

pub returns : goal.returns
returns c = let e : c.loop-c.c ≡ c.args.self.now.layout.nc = omega arith in rw e at c.loop-c.invariant.1
