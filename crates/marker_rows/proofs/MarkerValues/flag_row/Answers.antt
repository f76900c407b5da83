-- `marker_rows::MarkerValues::flag_row` meets its contract: in a row of none the values before k have set their flags.
-- Assumes nothing.
use Rattle.std.proofs.Common.{ℕ, ap, ◌∙◌, replicate, arith}
use Rattle.marker_rows.proofs.FlagLaws.{before_none, before_more, before_all}
use Rattle.marker_rows.proofs.MarkerValues.flag_row.Goals as goal

pub loop-k-init : goal.loop-k-init
loop-k-init c = c.fill.ensures.after (λ y h. h) ∙ ap (λ (n : ℕ). replicate n 0) c.requires.1 ∙ before_none _ _ _ _

pub loop-k-preserved : goal.loop-k-preserved
loop-k-preserved c =
    let t = c.loop-k in
    before_more c.args.self.now.layout c.args.self.now.values.now c.args.c t.k _ t.row _ t.invariant c.set_flag.ensures

pub returns : goal.returns
returns c = before_all _ _ _ _ _ _ c.loop-k.invariant (omega arith)
