-- `marker_rows::MarkerValues::flag_rows` meets its contract: the rows of the carriers passed. Assumes nothing.
use Rattle.std.proofs.Common.{ℕ, ◌+◌, ◌-◌, ◌*◌, ◌≡◌, sym, ap, ◌∙◌, arith}
use Rattle.complex.specs.Lists.{rows}
use Rattle.complex.specs.Rows.{rows_none, rows_turn, rows_all}
use Rattle.marker_rows.specs.Draw.{flag_of, flag_rows}
use Rattle.marker_rows.proofs.MarkerValues.flag_rows.Goals as goal

pub loop-c-init : goal.loop-c-init
loop-c-init c = rows_none _ _ _

pub loop-c-preserved : goal.loop-c-preserved
loop-c-preserved c =
    let t = c.loop-c in
    let m = c.args.self.now in
    let w = m.layout.nsym in
    rows_turn (flag_of m.layout m.values.now) w t.c (t.c * w + w - t.c * w) c.args.flags.now t.flags _
    t.invariant c.flag_row.ensures (omega arith)

pub returns : goal.returns
unfolding flag_rows
returns c =
    let t = c.loop-c in
    let e : t.c ≡ c.args.self.now.layout.nc = omega arith in
    t.invariant ∙ rows_all _ _ _ c.args.flags.now (c.requires ∙ ap (λ (n : ℕ). n * c.args.self.now.layout.nsym) (sym e))
    ∙ ap (rows _ _) e
