-- `refusal_cases::cases` is safe: the marker table is as long as its layout asks. Assumes nothing.
use Rattle.std.proofs.Common.{sym, ap, ◌∙◌, arith}
use Rattle.refusal.specs.Outcome.{outcome}
use Rattle.level.specs.RowLaws.{is_layout}
use Rattle.level.specs.SizedLaws.{sized}
use Rattle.refusal_cases.proofs.cases.Goals as goal

pub entries-requires : goal.entries-requires
entries-requires g c = sized _ (is_layout _ _ _ (sym c.choose.ensures ∙ ap outcome c.in_ok-l.was))

pub draw_markers-requires : goal.draw_markers-requires
draw_markers-requires g c = (
  sized _ (is_layout _ _ _ (sym c.choose.ensures ∙ ap outcome c.in_ok-l.was)),
  omega (arith, c.in_ok-markers.ensures, c.entries.ensures),
)
