-- `session::last_release` meets its contract: the answers that are left settle it. Assumes nothing.
use Rattle.std.proofs.Common.{refl}
use Rattle.session.specs.Run.{last_release}
use Rattle.session.proofs.last_release.Goals as goal

pub loop-a-init : goal.loop-a-init
unfolding last_release
loop-a-init c = refl
