-- `scatter::Row::point` meets its contract: the symbols that reach the point are those gone over. Assumes nothing.
use Rattle.std.proofs.Common.{sym, ◌∙◌, arith}
use Rattle.scatter.proofs.Reach.{scatter_before, point_none, point_is}
use Rattle.scatter.proofs.Row.point.Goals as goal

pub returns-then-m-self : goal.returns-then-m-self
returns-then-m-self c = c.zero.ensures ∙ sym (scatter_before _ _ _ _ _ _ _ c.if-m-self.true)

pub returns-then-n-eq0 : goal.returns-then-n-eq0
returns-then-n-eq0 c = c.zero-then-n-eq0.ensures ∙ sym (point_none _ _ _ _ _ _ c.args.self.now.no_gap (omega arith)
    c.first_reaching-first.ensures c.begun_by-n.ensures c.if-n-eq0.true)

pub returns : goal.returns
returns c = c.pulses.ensures ∙ sym (point_is _ _ _ _ _ _ c.args.self.now.no_gap (omega arith)
    c.first_reaching-first.ensures c.begun_by-n.ensures c.if-n-eq0.false)
