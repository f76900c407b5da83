-- The laws of the loops that store complex numbers, by the names under which the search takes them. Assumes nothing.
use Rattle.std.proofs.Common.{◌≡◌, ℕ, ◌+◌, List, refl, Float}
use Rattle.complex.specs.declared.Complex.{Complex}
use Rattle.complex.specs.Arithmetic.{cmul, cconj}
use Rattle.complex.specs.Pairs.{cget}
use Rattle.complex.specs.StoredLaws.{stored_none, stored_more, stored_behind}
use Rattle.complex.specs.Filling.{filling_none, filling_more, filling_rest}
use Rattle.eq.specs.Steps.{step_of, steps_from}

pub step_is : (z : List Float) (r : Complex) (from k : ℕ)
    → steps_from z r from k ≡ cmul (cmul (cget z (from + k + 1)) (cconj (cget z (from + k)))) r
unfolding steps_from step_of
step_is z r from k = refl

pub ruleset stores = (stored_none, stored_more, stored_behind, step_is)

pub ruleset fills = (filling_none, filling_more, filling_rest)
