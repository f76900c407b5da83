-- `laws::parts::any_outside` meets its contract: none of the parts passed is outside. Assumes nothing.
use Rattle.std.proofs.Common.{sym, ap, ◌∙◌, not, arith}
use Rattle.refusal.specs.AnyLaws.{any_none, any_more, any_at, any_done}
use Rattle.laws.proofs.parts.any_outside.Goals as goal

pub loop-part-init : goal.loop-part-init
loop-part-init c = any_none _

pub returns-then-not-in_range : goal.returns-then-not-in_range
returns-then-not-in_range c = sym (any_at _ _ c.loop-part.part-index (omega arith)
    (ap not (sym c.in_range.ensures ∙ c.if-not-in_range.true)))

pub loop-part-preserved : goal.loop-part-preserved
loop-part-preserved c =
    any_more _ _ c.loop-part.invariant (ap not (sym c.in_range.ensures ∙ c.if-not-in_range.false))

pub returns : goal.returns
returns c = sym (any_done _ _ _ c.loop-part.invariant (omega arith) (omega arith))
