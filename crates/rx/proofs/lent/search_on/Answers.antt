-- `rx::lent::search_on` meets its contract: the search finds what it asks for, and the state is made of its answer.
-- Assumes nothing.
use Rattle.std.proofs.Common.{ℕ, ◌≡◌, refl, sym, ap, ◌∙◌, subst, length}
use Rattle.level.specs.declared.Layout.{Layout}
use Rattle.level.specs.Rows.{IsLayout}
use Rattle.positions.specs.Positions.{search_count}
use Rattle.search.specs.declared.tables.Tracks.{Tracks}
use Rattle.search.specs.Fits.{SearchFits}
use Rattle.state.specs.declared.State.{State}
use Rattle.rx.specs.declared.lent.Followed.{Followed}
use Rattle.rx.specs.Numbers.{place_in}
use Rattle.rx.specs.Ready.{search_fits}
use Rattle.rx.specs.Fed.{SearchOnFits}
use Rattle.rx.proofs.lent.search_on.Goals as goal

module _ (l : Layout) (s : State) (r : Followed) (end lo n : ℕ) (p : lo ≡ place_in s)
    (q : n ≡ search_count l lo end) where
  count_is : n ≡ search_count l (place_in s) end
  count_is = q ∙ ap (λ (x : ℕ). search_count l x end) p

  fits_at : {t : Tracks} {room : ℕ} → IsLayout l → SearchOnFits l s room r end → length t.memory.now ≡ room
      → t.step ≡ r.spans.step → t.power ≡ r.spans.power → SearchFits l t lo n s.hold
  fits_at {t} {room} i f e a b =
      subst (λ (x : ℕ). SearchFits l t x n s.hold) (sym p)
      (subst (λ (x : ℕ). SearchFits l t (place_in s) x s.hold)
      (sym (count_is ∙ ap (search_count l (place_in s)) f.end_is))
      (search_fits l i s room f.ready f.count f.few t e (a ∙ f.step_is) (b ∙ f.power_is)))

pub search-o-requires : goal.search-o-requires
search-o-requires c =
    fits_at c.args.t.now.layout c.args.s c.args.after c.args.end.0 _ _ c.search_from-lo.ensures
    c.search_count-n.ensures c.args.t.now.is_layout c.requires refl refl refl
