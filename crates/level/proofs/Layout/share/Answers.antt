-- `Layout::share` meets its contract: the literals are the whole numbers 1500 and 1. Assumes nothing.
use Rattle.std.proofs.Common.{◌≡◌, ℕ, ◌*◌, ◌≤◌, true, false, sym, arith, Float}
use Rattle.std.specs.Float.{binary64}
use Rattle.std.specs.Float.Ieee.{of_bits, of_int, div, lt}
use Rattle.level.specs.declared.Layout.{Layout}
use Rattle.level.specs.Lengths.{cells, all_cells}
use Rattle.level.specs.Rows.{IsLayout}
use Rattle.level.specs.SizedLaws.{sized}
use Rattle.level.specs.Kept.{whole, ratio, share}
use Rattle.level.proofs.Layout.share.Goals as goal

few : (l : Layout) {k : ℕ} → k ≡ cells l → IsLayout l → l.nc * k ≤ 4472
few l e i = rw e (sized l i).cells_most

module _ (l : Layout) {k : ℕ} (e : k ≡ cells l) {x : Float} (f : x ≡ whole (l.nc * k)) where
  is_ratio : div binary64 (whole 1500) x ≡ ratio l
  unfolding all_cells
  is_ratio = rw (f, e)

  small : lt (div binary64 (whole 1500) x) (whole 1) ≡ true → div binary64 (whole 1500) x ≡ share l
  unfolding share
  small h = rw (sym is_ratio, h)

  large : lt (div binary64 (whole 1500) x) (whole 1) ≡ false → whole 1 ≡ share l
  unfolding share
  large h = rw (sym is_ratio, h)

pub overflow_mul-all : goal.overflow_mul-all
overflow_mul-all c = omega (arith, few c.args.self c.cells.ensures c.requires)

pub returns-then-ratio : goal.returns-then-ratio
unfolding of_bits of_int
returns-then-ratio c = small c.args.self c.cells.ensures c.nearest_u64_to_f64-ratio.ensures c.if-ratio.true

pub returns-else-ratio : goal.returns-else-ratio
unfolding of_bits of_int
returns-else-ratio c = large c.args.self c.cells.ensures c.nearest_u64_to_f64-ratio.ensures c.if-ratio.false
