-- `replay_inputs::tables::Tables::drawn` is safe: a layout's sizes are small. Assumes nothing.
use Rattle.std.proofs.Common.{arith}
use Rattle.level.specs.SizedLaws.{sized}
use Rattle.replay_inputs.proofs.tables.Tables.drawn.Goals as goal

pub entries-requires : goal.entries-requires
entries-requires c = sized _ c.requires

pub draw-requires : goal.draw-requires
draw-requires c = (
  sized _ c.requires,
  omega (arith, c.deref_mut.ensures.len, c.in_ok-book.ensures.len),
  omega (arith, c.deref_mut-2.ensures.len, c.in_ok-markers.ensures.len, c.entries.ensures),
)
