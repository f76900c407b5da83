-- `feed_cases::feeds::cut` is safe: what has been fed stays within the signal. Assumes nothing.
use Rattle.std.proofs.Common.{◌*◌, ◌≤◌, length}
use Rattle.feed_cases.proofs.feeds.cut.Given as goal

abbrev pub invariant-loop-turn : goal.invariant-loop-turn
invariant-loop-turn l = 2 * l.fed ≤ length l.signal
