-- `replay_inputs::lent::Room::send` is safe: the layout is one of the fifteen, whose sizes are small. Assumes nothing.
use Rattle.std.proofs.Common.{◌+◌, ◌≤◌, sym, ap, ◌∙◌, arith, mul-le-mul}
use Rattle.refusal.specs.Outcome.{outcome}
use Rattle.level.specs.RowLaws.{is_layout}
use Rattle.level.specs.SizedLaws.{sized}
use Rattle.replay_inputs.proofs.lent.Room.send.Goals as goal

pub entries-requires : goal.entries-requires
entries-requires c = sized _ (is_layout _ _ _ (sym c.choose.ensures ∙ ap outcome c.in_ok-l.was))

pub overflow_mul-frames : goal.overflow_mul-frames
overflow_mul-frames c =
    let i = is_layout _ _ _ (sym c.choose.ensures ∙ ap outcome c.in_ok-l.was) in
    omega (arith, mul-le-mul {n₂ = 4} c.requires (sized _ i).n_most)

pub overflow_mul-l-3 : goal.overflow_mul-l-3
overflow_mul-l-3 c =
    let i = is_layout _ _ _ (sym c.choose.ensures ∙ ap outcome c.in_ok-l.was) in
    let few : 8 + c.args.frames ≤ 12 = omega (arith, c.requires) in
    omega (arith, mul-le-mul {n₂ = 13} (sized _ i).nc_most few)

pub row_numbers-requires : goal.row_numbers-requires
row_numbers-requires c = (is_layout _ _ _ (sym c.choose.ensures ∙ ap outcome c.in_ok-l.was), c.requires)

pub draw-requires : goal.draw-requires
draw-requires c = (
  sized _ (is_layout _ _ _ (sym c.choose.ensures ∙ ap outcome c.in_ok-l.was)),
  c.in_ok-book.ensures,
  omega (arith, c.in_ok-markers.ensures, c.entries.ensures),
)

pub invariant_of-tables : goal.invariant_of-tables
invariant_of-tables c = record { is_layout = is_layout _ _ _ (sym c.choose.ensures ∙ ap outcome c.in_ok-l.was) }
