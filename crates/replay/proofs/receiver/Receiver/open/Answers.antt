-- `replay::receiver::Receiver::open` is safe: a memory has few numbers. Assumes nothing.
use Rattle.std.proofs.Common.{arith}
use Rattle.level.specs.SizedLaws.{sized}
use Rattle.replay.proofs.receiver.Receiver.open.Goals as goal

pub overflow_mul-memory_len : goal.overflow_mul-memory_len
overflow_mul-memory_len c = omega (arith, c.memory_len.ensures, (sized _ c.args.tables.now.is_layout).memory_most)
