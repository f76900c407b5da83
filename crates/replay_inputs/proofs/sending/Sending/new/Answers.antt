-- `replay_inputs::sending::Sending::new` is safe: the layout is one of the fifteen, whose sizes are small. Assumes
-- nothing.
use Rattle.std.proofs.Common.{◌+◌, ◌≤◌, sym, ap, ◌∙◌, arith, mul-le-mul}
use Rattle.refusal.specs.Outcome.{outcome}
use Rattle.level.specs.RowLaws.{is_layout}
use Rattle.level.specs.SizedLaws.{sized}
use Rattle.replay_inputs.proofs.sending.Sending.new.Goals as goal

pub drawn-requires : goal.drawn-requires
drawn-requires c = is_layout _ _ _ (sym c.choose.ensures ∙ ap outcome c.in_ok-l.was)

pub overflow_mul-frames : goal.overflow_mul-frames
overflow_mul-frames c =
    let i = is_layout _ _ _ (sym c.choose.ensures ∙ ap outcome c.in_ok-l.was) in
    omega (arith, mul-le-mul {n₂ = 4} c.requires (sized _ i).n_most)

pub overflow_mul-l : goal.overflow_mul-l
overflow_mul-l c =
    let i = is_layout _ _ _ (sym c.choose.ensures ∙ ap outcome c.in_ok-l.was) in
    let few : 8 + c.args.frames ≤ 12 = omega (arith, c.requires) in
    omega (arith, mul-le-mul {n₂ = 13} (sized _ i).nc_most few)
