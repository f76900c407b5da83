-- What the test of lent bytes finds, and what it leaves. Assumes nothing.
use Rattle.std.proofs.Common.{ℕ, ◌<◌, ◌≤◌, ◌≡◌, refl, true, false, not, List, arith, leb, eqb, length, get_or, leb-false, le-leb, eqb-true, eq-eqb, ne_eqb}
use Rattle.std.proofs.Math.Bool.{or-true}
use borrow.Author.Tests.{not-false}
use Rattle.refusal.specs.Any.{any}
use Rattle.refusal.specs.AnyLaws.{any_none, any_more, any_done, any_at, any_below}
use Rattle.refusal.specs.Clear.{neither}
use Rattle.level.specs.Bytes.{wrong_bytes}

module _ (count limit : ℕ) (bytes : List ℕ) where
  pub bytes_uncounted : (length bytes ≡ count → ⊥) → wrong_bytes count limit bytes ≡ true
  unfolding wrong_bytes
  bytes_uncounted h = rw (ne_eqb (length bytes) count h) refl

  pub bytes_bad : (i : ℕ) → length bytes ≡ count → i < count → limit ≤ get_or bytes i 0
      → wrong_bytes count limit bytes ≡ true
  unfolding wrong_bytes
  bytes_bad i e h g =
      rw (any_at (λ i. leb limit (get_or bytes i 0)) (length bytes) i (omega arith)
      (le-leb limit (get_or bytes i 0) g)) (or-true (not (eqb (length bytes) count)))

  pub bytes_right : length bytes ≡ count → any (λ i. leb limit (get_or bytes i 0)) count ≡ false
      → wrong_bytes count limit bytes ≡ false
  unfolding wrong_bytes
  bytes_right e h = rw (e, eq-eqb count count refl) h

  pub bytes_of : wrong_bytes count limit bytes ≡ false → (length bytes ≡ count)
      × ((i : ℕ) → i < length bytes → get_or bytes i 0 < limit)
  unfolding wrong_bytes
  bytes_of h =
      let s = neither (not (eqb (length bytes) count)) (any (λ i. leb limit (get_or bytes i 0)) (length bytes)) h in (
        eqb-true _ _ (not-false _ s.0),
        λ i g. leb-false limit _
            (any_below (λ i. leb limit (get_or bytes i 0)) (length bytes) i s.1 g),
      )

-- what the test cites
pub ruleset bytes_tested = (any_none, any_more, any_done, bytes_uncounted, bytes_bad, bytes_right)
