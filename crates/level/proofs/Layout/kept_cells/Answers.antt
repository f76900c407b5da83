-- `Layout::kept_cells` meets its contract: the product is in the range that truncating asks for. Assumes nothing.
use Rattle.std.proofs.Common.{◌≡◌, ℕ, max, true, false, T, pos, sym, arith, Float}
use Rattle.std.specs.Float.{fin, binary64}
use Rattle.std.specs.Float.Ieee.{mul, lt, to_unsigned}
use Rattle.level.specs.declared.Layout.{Layout}
use Rattle.level.specs.Lengths.{cells}
use Rattle.level.specs.Rows.{IsLayout}
use Rattle.level.specs.Kept.{whole, share, part, kept_cells}
use Rattle.level.specs.KeptLaws.{part_fits}
use Rattle.level.proofs.Layout.kept_cells.Goals as goal

module _ (l : Layout) {k : ℕ} (e : k ≡ cells l) {x s : Float} (f : x ≡ whole k) (g : s ≡ share l) where
  is_part : mul binary64 x s ≡ part l
  is_part = rw (f, e, g)

  in_range_lem : IsLayout l → T (lt (fin true 1 (pos 0)) (mul binary64 x s)) × T
      (lt (mul binary64 x s) (fin false 1 (pos 64)))
  in_range_lem i = rw is_part (part_fits l i)

  most : {n r : ℕ} → n ≡ to_unsigned 64 (mul binary64 x s) → r ≡ max n 1 → r ≡ kept_cells l
  unfolding kept_cells
  most d h = rw (sym is_part, sym d) (omega (arith, h))

pub truncating_f64_to_u64-kept-requires : goal.truncating_f64_to_u64-kept-requires
truncating_f64_to_u64-kept-requires c =
    let r = in_range_lem c.args.self c.cells.ensures c.nearest_u64_to_f64.ensures c.share.ensures c.requires in
    record { lower_bound = r.0; upper_bound = r.1 }

pub returns : goal.returns
returns c =
    most c.args.self c.cells.ensures c.nearest_u64_to_f64.ensures
    c.share.ensures c.truncating_f64_to_u64-kept.ensures c.max.ensures
