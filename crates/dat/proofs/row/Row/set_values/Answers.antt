-- `Row::set_values` meets its contract: the values before k have set their flags. Assumes nothing.
use Rattle.std.proofs.Common.{◌<◌, ap, ◌∙◌, arith, length}
use Rattle.dat.specs.Tables.{value}
use Rattle.dat.specs.AcceptedLaws.{value_in}
use Rattle.dat.specs.FlagLaws.{before_none, before_length, before_more, before_all, value_room}
use Rattle.dat.proofs.row.Row.set_values.Goals as goal

pub loop-k-init : goal.loop-k-init
loop-k-init c = (omega arith, c.requires.1 ∙ before_none _ _ _)

pub bounds-self-from : goal.bounds-self-from
bounds-self-from c = value_in _ _ _ c.args.self.now.in_table _ c.loop-k-test.true

pub bounds-set-v : goal.bounds-set-v
bounds-set-v c =
    let the_room : value c.args.self.now.layout c.args.self.now.table.now c.args.self.now.carrier c.loop-k.k < 452 =
    value_room _ _ _ _ c.args.self.now.in_table.sized c.requires.0 c.args.self.now.in_table.carrier c.loop-k-test.true in
    omega (arith, the_room, ap length c.loop-k.invariant.1 ∙ before_length _ _ _ _)

pub loop-k-preserved : goal.loop-k-preserved
loop-k-preserved c =
    let the_room : value c.args.self.now.layout c.args.self.now.table.now c.args.self.now.carrier c.loop-k.k < 452 =
    value_room _ _ _ _ c.args.self.now.in_table.sized c.requires.0 c.args.self.now.in_table.carrier c.loop-k-test.true in
    (omega (arith, c.loop-k-test.true), before_more _ _ _ _ _ c.loop-k.invariant.1 the_room)

pub returns : goal.returns
returns c = before_all _ _ _ _ _ c.loop-k.invariant.1 (omega (arith, c.loop-k.invariant.0, c.loop-k-test.false))
