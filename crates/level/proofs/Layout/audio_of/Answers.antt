-- `Layout::audio_of` meets its contract: four frames are short. Assumes nothing.
use Rattle.std.proofs.Common.{arith}
use Rattle.level.specs.SizedLaws.{sized, row_most}
use Rattle.level.proofs.Layout.audio_of.Goals as goal

pub overflow_mul-result : goal.overflow_mul-result
overflow_mul-result c = omega (arith, row_most _ c.requires.0 _ c.requires.1, sized _ c.requires.0)

pub overflow_add-result : goal.overflow_add-result
overflow_add-result c = omega (arith, row_most _ c.requires.0 _ c.requires.1, sized _ c.requires.0)

pub overflow_add-result-2 : goal.overflow_add-result-2
overflow_add-result-2 c = omega (arith, row_most _ c.requires.0 _ c.requires.1, sized _ c.requires.0)

pub overflow_sub-result : goal.overflow_sub-result
overflow_sub-result c = omega (arith, (sized _ c.requires.0).taps_are)

pub overflow_mul-result-2 : goal.overflow_mul-result-2
overflow_mul-result-2 c = omega (arith, row_most _ c.requires.0 _ c.requires.1, sized _ c.requires.0)

pub overflow_add-result-3 : goal.overflow_add-result-3
overflow_add-result-3 c = omega (arith, row_most _ c.requires.0 _ c.requires.1, sized _ c.requires.0)
