-- `replay_inputs::tables::row_numbers` is safe: a layout has few carriers, and a row few symbols. Assumes nothing.
use Rattle.std.proofs.Common.{◌≤◌, arith, mul-le-mul}
use Rattle.level.specs.SizedLaws.{sized, row_most}
use Rattle.replay_inputs.proofs.tables.row_numbers.Goals as goal

pub overflow_mul-result : goal.overflow_mul-result
overflow_mul-result c =
    let i = c.requires.0 in
    let few : c.row_len.result ≤ 1809 = omega (arith, row_most _ i _ c.requires.1, c.row_len.ensures) in
    omega (arith, mul-le-mul {n₂ = 13} (sized _ i).nc_most few)

pub overflow_mul-result-2 : goal.overflow_mul-result-2
overflow_mul-result-2 c =
    let i = c.requires.0 in
    let few : c.row_len.result ≤ 1809 = omega (arith, row_most _ i _ c.requires.1, c.row_len.ensures) in
    omega (arith, mul-le-mul {n₂ = 13} (sized _ i).nc_most few)
