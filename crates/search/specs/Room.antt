-- Room for the tables of both sums. Definitions only.
use Rattle.std.specs.Prelude.{ℕ, ◌<◌, ◌≡◌, get_or}
use Rattle.std.specs.Float.{nan}
use Rattle.complex.specs.Arithmetic.{fzero}
use Rattle.search.specs.declared.Room.{Room}

-- room in which nothing is built yet: zeros, a reference's +0
pub record Zeros (r : Room) : Type 0 where
  pub marks : (k : ℕ) → k < 40 → get_or r.marks k 1 ≡ 0
  pub mark_references : (k : ℕ) → k < 80 → get_or r.mark_references k nan ≡ fzero
  pub cells : (k : ℕ) → k < 1500 → get_or r.cells k 1 ≡ 0
  pub cell_references : (k : ℕ) → k < 3000 → get_or r.cell_references k nan ≡ fzero
