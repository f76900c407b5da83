-- `session::feed_all` meets its contract: the calls of the feeds passed, and their answers. Assumes nothing.
use Rattle.std.proofs.Common.{◌≤◌, ◌≡◌, map, length, take}
use Rattle.modem.specs.Calls.{Calls}
use Rattle.session.specs.Run.{given_of}
use Rattle.session.proofs.feed_all.Given as goal

abbrev pub invariant-loop-k : goal.invariant-loop-k
invariant-loop-k l = (l.k ≤ length l.feeds) × (length l.answers ≡ length l.feeds)
    × Calls l.fn.s l.initial.memory (map given_of (take l.k l.feeds)) l.state l.memory (take l.k l.answers)
