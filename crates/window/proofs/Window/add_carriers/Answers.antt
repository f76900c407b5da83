-- `window::Window::add_carriers` meets its contract: the sums of the carriers passed. Assumes nothing.
use Rattle.std.proofs.Common.{ap, ◌∙◌, arith, length}
use Rattle.complex.specs.ListLaws.{length_tabulate}
use Rattle.window.proofs.Carriers.{carriers_none, carriers_turn, carriers_done}
use Rattle.window.proofs.Window.add_carriers.Goals as goal

pub loop-c-init : goal.loop-c-init
loop-c-init c = c.requires ∙ carriers_none _ _ _ _ _ _

pub add_carrier-requires : goal.add_carrier-requires
add_carrier-requires c = (c.loop-c-test.true, ap length c.loop-c.invariant ∙ length_tabulate _ _)

pub loop-c-preserved : goal.loop-c-preserved
loop-c-preserved c = c.add_carrier.ensures ∙ carriers_turn _ _ _ _ _ _ _ c.loop-c.out c.loop-c.invariant

pub returns : goal.returns
returns c = c.loop-c.invariant ∙ carriers_done _ _ _ _ _ _ _ (omega arith)
