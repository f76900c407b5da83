-- `Layout::carrier_hz` meets its contract: the carriers that a row lists are evenly spaced, and none is above 2,760
-- Hz. Assumes nothing.
use Rattle.std.proofs.Common.{ℕ, ◌+◌, ◌*◌, ◌<◌, ◌≤◌, sym, arith}
use Rattle.level.specs.declared.Layout.{Layout}
use Rattle.level.specs.Rows.{IsLayout}
use Rattle.level.specs.SizedLaws.{carriers_even, carrier_most}
use Rattle.level.proofs.Layout.carrier_hz.Goals as goal

most : (l : Layout) → IsLayout l → (c : ℕ) → c < l.nc → l.first_hz + c * l.spacing_hz ≤ 2760
most l i c h = rw (carriers_even l i c h) at (carrier_most l i c h)

pub overflow_mul-result : goal.overflow_mul-result
overflow_mul-result c = omega (arith, most _ c.requires.0 _ c.requires.1)

pub overflow_add-result : goal.overflow_add-result
overflow_add-result c = omega (arith, most _ c.requires.0 _ c.requires.1)

pub returns : goal.returns
returns c = sym (carriers_even _ c.requires.0 _ c.requires.1)
