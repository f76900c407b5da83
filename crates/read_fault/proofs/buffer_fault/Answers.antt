-- `read_fault::buffer_fault` meets its contract: condition 11. Assumes nothing.
use Rattle.level.specs.SizedLaws.{sized}
use Rattle.read_fault.proofs.buffer_fault.Goals as goal

pub wrong_buffers-requires : goal.wrong_buffers-requires
wrong_buffers-requires c = sized _ c.requires
