-- `session_read::show` is safe: a memory has few numbers. Assumes nothing.
use Rattle.std.proofs.Common.{arith}
use Rattle.level.specs.SizedLaws.{sized}
use Rattle.session_read.proofs.show.Goals as goal

pub overflow_mul-memory_len : goal.overflow_mul-memory_len
overflow_mul-memory_len g c =
    omega (arith, c.memory_len.ensures, (sized _ c.in_ok-sent.sent.tables.is_layout).memory_most)
