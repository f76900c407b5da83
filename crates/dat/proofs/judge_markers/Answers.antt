-- `dat::judge_markers` meets its contract: a table in which no condition is met is accepted. Assumes nothing.
use Rattle.std.proofs.Common.{sym, ◌∙◌}
use Rattle.dat.proofs.AcceptedLaws.{markers_of}
use Rattle.dat.proofs.judge_markers.Goals as goal

pub invariant_of-result : goal.invariant_of-result
invariant_of-result c =
    record { accepted = markers_of _ _ c.requires (sym c.marker_fault.ensures ∙ c.in_ok-marker_fault.was) }
