-- `laws::parts::any_outside` meets its contract: none of the parts passed is outside. Assumes nothing.
use Rattle.std.proofs.Common.{◌≡◌, false, not, get_or}
use Rattle.std.specs.Float.{nan}
use Rattle.refusal.specs.Any.{any}
use Rattle.laws.specs.Tests.{in_range}
use Rattle.laws.proofs.parts.any_outside.Given as goal

abbrev pub invariant-loop-part : goal.invariant-loop-part
invariant-loop-part l = any (λ k. not (in_range l.low l.high (get_or l.parts k nan))) l.part-index ≡ false
