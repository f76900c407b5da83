-- `replay::receiver::Receiver::feed_all` meets its contract: the parts that came off are fed. Assumes nothing.
use Rattle.std.proofs.Common.{[], ◌++◌, ◌≡◌, ◌∙◌, map, refl, rules}
use Rattle.hold.specs.Releases.{released}
use Rattle.replay.proofs.Feeds.{begun, more, stopped, short, done, error_is, found_more, found_same}
use Rattle.replay.proofs.receiver.Receiver.feed_all.Goals.{in-Released+in_ok-push, in_default}
use Rattle.replay.proofs.receiver.Receiver.feed_all.Goals as goal

pub loop-part-init : goal.loop-part-init
loop-part-init c = (search rules, begun _ _ c.ranges.first.fits (search rules) (search rules))

pub loop-part-preserved : goal.loop-part-preserved
loop-part-preserved c =
    let w = c.loop-part.invariant in
    let s = c.in-Some.ensures.steps in
    let g : map (λ d. d.position) c.match-branch-2.found.items
    ≡ map (λ d. d.position) c.loop-part.found.items ++ map (λ d. d.position.0) (released c.in_ok-p.field-0 []) =
    elim c.match-branch-2.branch [
      | in-Released+in_ok-push v ↦
          rw (v.found-is, v.in-Released.is, v.in_ok-push.ensures.items) (found_more _ _ _ _ refl)
      | in_default v ↦ rw (v.found-is, v.in_default.is) (found_same _)
    ] in
    let l = rw w.0 at s.1.1 in
    (s.0 ∙ w.0, more w.1 s.1.0 l s.1.2 c.in_ok-p.ensures g c.saturating_add-number.ensures)

pub returns-in_err-p : goal.returns-in_err-p
returns-in_err-p c =
    let w = c.loop-part.invariant in
    let s = c.in-Some.ensures.steps in
    let l = rw w.0 at s.1.1 in
    error_is _ c.from_residual.ensures.1 (λ e p. rw p (stopped w.1 _ _ s.1.0 l s.1.2 c.in_err-p.ensures))

pub returns-in_err-push : goal.returns-in_err-push
returns-in_err-push c =
    let w = c.loop-part.invariant in
    let s = c.in-Some.ensures.steps in
    let l = rw w.0 at s.1.1 in
    error_is _ c.from_residual-in_err-push.ensures.1
    (λ e p. short w.1 _ _ e p s.1.0 l s.1.2 c.in-Released.is c.in_ok-p.ensures)

pub returns : goal.returns
returns c = done c.loop-part.invariant.1 c.loop-part.found refl (search rules)
