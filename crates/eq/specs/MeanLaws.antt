-- The mean norm of a list's first complex numbers, where only these are passed. Assumes nothing.
use Rattle.std.specs.Prelude.{ℕ, ◌+◌, ◌*◌, ◌/◌, ◌≤◌, ◌<◌, ◌≡◌, List, length, take, pos, Float}
use Rattle.std.proofs.Common.{ap, ap₂, arith}
use Rattle.std.proofs.lemmas.List.{length-take-le, get_or-take}
use Rattle.std.specs.Float.{nan, binary64}
use Rattle.std.specs.Float.Ieee.{div, of_int}
use Rattle.complex.specs.Arithmetic.{cx}
use Rattle.complex.specs.Pairs.{cget}
use Rattle.complex.specs.SumLaws.{fsum_ext}
use Rattle.root.specs.Root.{norm_of}
use Rattle.demap.specs.Gain.{sum_of_norms, mean_norm}

pub cget_take : (l : List Float) (n k : ℕ) → k < n → cget (take (2 * n) l) k ≡ cget l k
cget_take l n k h =
    ap₂ cx (get_or-take (2 * n) l (2 * k) nan (omega arith)) (get_or-take (2 * n) l (2 * k + 1) nan (omega arith))

pub mean_cut : (l : List Float) (n : ℕ) → 2 * n ≤ length l
    → mean_norm (λ k. cget (take (2 * n) l) k) (length (take (2 * n) l) / 2) ≡ mean_norm (λ k. cget l k) n
unfolding mean_norm sum_of_norms
mean_cut l n h =
    let e : length (take (2 * n) l) / 2 ≡ n = rw (length-take-le (2 * n) l h) (omega arith) in
    rw e (ap (λ (s : Float). div binary64 s (of_int binary64 (pos n)))
    (fsum_ext _ _ n (λ k i. ap norm_of (cget_take l n k i))))
