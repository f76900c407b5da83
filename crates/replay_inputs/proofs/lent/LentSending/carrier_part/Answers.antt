-- `replay_inputs::lent::LentSending::carrier_part` is safe: a stagger and a carrier's Hz are small. Assumes nothing.
use Rattle.std.proofs.Common.{◌%◌, ◌≤◌, mul-le-mul, arith}
use Rattle.level.specs.SizedLaws.{sized, carrier_most, stagger_within}
use Rattle.replay_inputs.proofs.lent.LentSending.carrier_part.Goals as goal

pub overflow_add-from : goal.overflow_add-from
overflow_add-from c =
    let i = c.args.self.now.tables.is_layout in
    omega (arith, c.stagger.ensures, stagger_within _ i _ c.requires, (sized _ i).stagger_most)

pub overflow_mul-turn : goal.overflow_mul-turn
overflow_mul-turn c =
    let hz : c.carrier_hz.result ≤ 2760 =
    omega (arith, c.carrier_hz.ensures, carrier_most _ c.args.self.now.tables.is_layout _ c.requires) in
    let turns : c.args.n % 3000 ≤ 3000 = omega arith in
    omega (arith, mul-le-mul hz turns)
