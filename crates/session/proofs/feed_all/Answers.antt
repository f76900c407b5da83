-- `session::feed_all` meets its contract: the calls of the feeds passed, and their answers. Assumes nothing.
use Rattle.std.proofs.Common.{arith, length-set}
use Rattle.modem.specs.Calls.{none}
use Rattle.session.proofs.CallLaws.{calls_more, calls_all}
use Rattle.session.proofs.feed_all.Goals as goal

pub loop-k-init : goal.loop-k-init
loop-k-init c = (omega arith, c.requires, none)

pub loop-k-preserved : goal.loop-k-preserved
loop-k-preserved c =
    let l = c.loop-k in (
      omega arith,
      simp length-set l.invariant.1,
      calls_more _ _ _ _ _ _ _ _ _ _ _ l.invariant.2 c.call_feed-fed.ensures (omega arith)
          (omega (arith, l.invariant.1)),
    )

pub returns : goal.returns
returns c =
    let l = c.loop-k in
    calls_all _ _ _ l.k _ _ _ l.invariant.2 (omega arith) (omega (arith, l.invariant.1))
