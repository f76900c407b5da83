-- What conditions 9 and 10 ask of lent bytes. Definitions only.
use Rattle.std.specs.Prelude.{ℕ, Bool, not, ◌||◌, List, leb, eqb, length, get_or}
use Rattle.refusal.specs.Any.{any}

-- bytes whose count is wrong, or one of which is not below the limit
unfoldable pub wrong_bytes : ℕ → ℕ → List ℕ → Bool
wrong_bytes count limit bytes = not (eqb (length bytes) count) || any (λ i. leb limit (get_or bytes i 0)) (length bytes)
