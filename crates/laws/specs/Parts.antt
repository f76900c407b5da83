-- The condition that some part of a row meets (01, "Where each fault is met"). Definitions only.
use Rattle.std.specs.Prelude.{Bool, not, List, length, get_or, Float}
use Rattle.std.specs.Float.{nan}
use Rattle.refusal.specs.Any.{any}
use Rattle.laws.specs.Tests.{in_range}

-- as in "part outside −1 to 1": some part is not in the range from low to high
abbrev pub any_outside : Float → Float → List Float → Bool
any_outside low high parts = any (λ k. not (in_range low high (get_or parts k nan))) (length parts)
