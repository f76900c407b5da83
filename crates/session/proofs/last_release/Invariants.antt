-- `session::last_release` meets its contract: the answers that are left settle it. Assumes nothing.
use Rattle.std.proofs.Common.{◌≡◌, drop}
use Rattle.session.specs.Run.{release_after, last_release}
use Rattle.session.proofs.last_release.Given as goal

abbrev pub invariant-loop-a : goal.invariant-loop-a
invariant-loop-a l = release_after l.last (drop l.a-index l.answers) ≡ last_release l.answers
