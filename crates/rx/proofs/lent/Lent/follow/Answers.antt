-- `rx::lent::Lent::follow` meets its contract: the append and the filter find what they ask for, and their results are
-- its own. Assumes nothing.
use Rattle.std.proofs.Common.{ℕ, ◌-◌, ◌≡◌}
use Rattle.level.specs.declared.Layout.{Layout}
use Rattle.track.specs.declared.Span.{Span}
use Rattle.filter.specs.Filtered.{FilterFits}
use Rattle.state.specs.declared.State.{State}
use Rattle.state.specs.Conditions.{span_end}
use Rattle.rx.specs.Numbers.{end_with}
use Rattle.rx.specs.Accept.{spans_of}
use Rattle.rx.specs.Ready.{append_fits, filter_fits}
use Rattle.rx.proofs.lent.Lent.follow.Goals as goal

-- the count as the definitions have it
at_end : (l : Layout) (s : State) (count : ℕ) {room book end e : ℕ} {samples : Span} → end ≡ end_with l s count
    → e ≡ span_end s.filtered
    → FilterFits l room book samples (spans_of s) (end_with l s count - span_end s.filtered)
    → FilterFits l room book samples (spans_of s) (end - e)
at_end l s count p q f = rw (p, q) f

pub append-samples-requires : goal.append-samples-requires
append-samples-requires c =
    append_fits _ c.args.self.now.tables.is_layout _ _ c.requires.0 _ c.args.self.now.few

pub filter_carriers-requires : goal.filter_carriers-requires
filter_carriers-requires c =
    let a = c.append-samples.ensures in
    at_end _ c.args.s _ c.requires.1 c.span_end.ensures
    (filter_fits _ c.args.self.now.tables.is_layout _ _ c.requires.0 _ c.args.self.now.few _ _ _
    a.others.kept.as_long c.args.self.now.book_is a.span)
