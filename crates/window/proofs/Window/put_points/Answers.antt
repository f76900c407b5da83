-- `window::Window::put_points` meets its contract: the points of the carrier's symbols, from its stagger on. Assumes
-- nothing.
use Rattle.std.proofs.Common.{◌∙◌}
use Rattle.window.proofs.Sizes.{row_within_symbols, taps_sizes}
use Rattle.window.proofs.Values.{points_are}
use Rattle.window.proofs.Window.put_points.Goals as goal

pub invariant_of-row : goal.invariant_of-row
invariant_of-row c = record { no_gap = taps_sizes _ c.args.self.now.ready.is_layout _ c.args.self.now.taps.sender }

pub returns : goal.returns
returns c =
    let w = c.args.self.now in
    c.put_points.ensures ∙ points_are _ _ _ _ _ _ _ _ _ _ c.row_len-len.ensures c.stagger.ensures w.taps.sender
    (row_within_symbols _ _ _ _ _ _ w.ready _ _ c.requires.0 c.row_len-len.ensures)
