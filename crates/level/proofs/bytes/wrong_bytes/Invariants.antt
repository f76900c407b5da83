-- `level::bytes::wrong_bytes` meets its contract: all of the bytes passed are below the limit. Assumes nothing.
use Rattle.std.proofs.Common.{◌≡◌, false, leb, get_or}
use Rattle.refusal.specs.Any.{any}
use Rattle.level.proofs.bytes.wrong_bytes.Given as goal

abbrev pub invariant-loop-byte : goal.invariant-loop-byte
invariant-loop-byte l = any (λ i. leb l.limit (get_or l.bytes i 0)) l.byte-index ≡ false
