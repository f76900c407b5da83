-- `replay::receiver::Receiver::feed_all` meets its contract: the parts that came off are fed. Assumes nothing.
use Rattle.std.proofs.Common.{◌≡◌}
use Rattle.replay.proofs.Feeds.{Underway}
use Rattle.replay.proofs.receiver.Receiver.feed_all.Given as goal

abbrev pub invariant-loop-part : goal.invariant-loop-part
invariant-loop-part l =
    (l.part-iterator.size ≡ 8000)
    × Underway l.tables l.first l.samples l.initial.self.state l.initial.self.memory.items l.found.items l.number
    l.part-iterator.rest.now l.self.state l.self.memory.items
