-- `Hold::offer` meets its contract: by what is held, and whether it is due. Assumes nothing.
use Rattle.std.proofs.Common.{sym, ◌∙◌}
use Rattle.hold.specs.Offer.{keeping, releasing, offered_at, offered}
use Rattle.hold.proofs.Hold.offer.Goals.{in_default-via-in-Some+else-is_due, in_default-via-in_default}
use Rattle.hold.proofs.Hold.offer.Goals as goal

pub returns-in-Some : goal.returns-in-Some
unfolding offered offered_at releasing
returns-in-Some c = rw (c.in-Some.is, sym c.is_due.ensures ∙ c.if-is_due.true)

pub returns-in_default : goal.returns-in_default
unfolding offered offered_at keeping
returns-in_default c = elim c.in_default.branch [
  | in_default-via-in-Some+else-is_due w ↦ rw (c.take.ensures, w.in-Some.is, sym w.is_due.ensures ∙ w.if-is_due.false)
  | in_default-via-in_default w ↦ rw (c.take.ensures, w.in_default.is)
]
