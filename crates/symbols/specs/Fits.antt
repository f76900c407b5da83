-- What the filtered symbols of a frame ask for. Definitions only.
use Rattle.std.specs.Prelude.{ℕ, ◌*◌, ◌≤◌}
use Rattle.level.specs.declared.Layout.{Layout}
use Rattle.level.specs.Rows.{IsLayout}
use Rattle.track.specs.declared.Span.{Span}
use Rattle.positions.specs.Positions.{Within}

-- filtered tracks that hold a frame at t
pub record FilteredFit (l : Layout) (filtered : Span) (t : ℕ) : Type 0 where
  pub layout : IsLayout l
  pub filtered_short : filtered.len ≤ 2 * l.keep
  pub within : Within l filtered t
