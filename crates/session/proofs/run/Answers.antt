-- `session::run` meets its contract: the first feed opens, the last one reads. Assumes nothing.
use Rattle.std.proofs.Common.{ℕ, suc, ◌-◌, ◌≡◌, refl, sym, ap, ◌∙◌, List, [], ◌∷◌, arith, length, get_or}
use Rattle.refusal.specs.Outcome.{outcome}
use Rattle.session.specs.declared.Feed.{Feed}
use Rattle.session.specs.Run.{last_of}
use Rattle.session.proofs.run.Goals as goal

last_at : (f : Feed) (fs : List Feed) (n : ℕ) (d : Feed) → n ≡ length fs → get_or (f ∷ fs) n d ≡ last_of f fs
last_at f [] n d e = rw e refl
last_at f (g ∷ fs) n d e = rw e (last_at g fs (length fs) d refl)

last_is : (f : Feed) (fs : List Feed) (d : Feed) → get_or (f ∷ fs) (suc (length fs) - 1) d ≡ last_of f fs
last_is f fs d = last_at f fs _ d (omega arith)

pub returns : goal.returns
returns c f fs e =
    let o = rw e at c.open.ensures in
    let k = rw e at c.feed_all-state.ensures in
    let r = rw (e, last_is f fs _, c.last_release.ensures) at c.read_last-last.ensures in
    (record { opened = c.in_ok-s.s; opens = sym o ∙ ap outcome c.in_ok-s.was; calls = k }, r)
