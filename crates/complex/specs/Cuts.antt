-- Complex numbers of a slice that is cut to them. Assumes nothing.
use Rattle.std.specs.Prelude.{ℕ, ◌+◌, ◌-◌, ◌*◌, ◌/◌, ◌≤◌, ◌<◌, ◌≡◌, List, length, get_or, take, drop, Float}
use Rattle.std.proofs.Common.{ap, ap₂, ◌∙◌, arith, length-drop, get_or-drop}
use Rattle.std.proofs.lemmas.List.{length-take, length-take-le, get_or-take}
use Rattle.std.specs.Float.{nan}
use Rattle.complex.specs.declared.Complex.{Complex}
use Rattle.complex.specs.Arithmetic.{cx}
use Rattle.complex.specs.Pairs.{cget, cfilled}
use Rattle.complex.specs.PairLaws.{cfilled_length}

-- ---- the first n numbers, and a slice of them that a call fills
pub cut_length : (n : ℕ) (v : List Float) → 2 * n ≤ length v → length (take (2 * n) v) ≡ 2 * n
cut_length n v h = length-take-le (2 * n) v h

pub cut_most : (n : ℕ) (v : List Float) → length (take (2 * n) v) / 2 ≤ n
cut_most n v = omega (arith, length-take (2 * n) v)

pub cut_half : (n : ℕ) (v : List Float) → 2 * n ≤ length v → length (take (2 * n) v) / 2 ≡ n
cut_half n v h = omega (arith, cut_length n v h)

module _ (f : ℕ → Complex) (n : ℕ) (v w : List Float)
    (e : w ≡ cfilled f (length (take (2 * n) v) / 2) (take (2 * n) v)) (h : 2 * n ≤ length v) where
  pub cut_filled : w ≡ cfilled f n (take (2 * n) v)
  cut_filled = e ∙ ap (λ (k : ℕ). cfilled f k (take (2 * n) v)) (cut_half n v h)

  pub cut_filled_half : length w / 2 ≡ n
  cut_filled_half =
      let long = ap length cut_filled ∙ cfilled_length f n (take (2 * n) v) (omega (arith, cut_length n v h)) in
      omega (arith, long, cut_length n v h)

-- ---- the numbers from place a up to, not including, place b
module _ (m : List Float) (a b : ℕ) (h : a ≤ b) where
  pub part_half : 2 * b ≤ length m → length (take (2 * b - 2 * a) (drop (2 * a) m)) / 2 ≡ b - a
  part_half g =
      omega (
        arith,
        length-take-le (2 * b - 2 * a) (drop (2 * a) m) (omega (arith, length-drop (2 * a) m)),
      )

  pub part_at : (k : ℕ) → a + k < b → cget (take (2 * b - 2 * a) (drop (2 * a) m)) k ≡ cget m (a + k)
  part_at k l =
      let here : 2 * a + 2 * k ≡ 2 * (a + k) = omega arith in
      let next : 2 * a + (2 * k + 1) ≡ 2 * (a + k) + 1 = omega arith in
      ap₂ cx
      (get_or-take (2 * b - 2 * a) (drop (2 * a) m) (2 * k) nan (omega arith)
      ∙ get_or-drop (2 * a) m (2 * k) nan ∙ ap (λ (i : ℕ). get_or m i nan) here)
      (get_or-take (2 * b - 2 * a) (drop (2 * a) m) (2 * k + 1) nan (omega arith)
      ∙ get_or-drop (2 * a) m (2 * k + 1) nan ∙ ap (λ (i : ℕ). get_or m i nan) next)
