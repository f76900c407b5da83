-- `reading_shown::station::Station::feed` meets its contract: what the calls come to, and their last release. Assumes
-- nothing.
use Rattle.std.proofs.Common.{ℕ, ◌-◌, ◌≡◌, sym, List, length, Float, Option, Some, None, Result, Ok, Err, Bor, rules}
use Rattle.std.specs.Prelude.{MatchOption}
use Rattle.std.specs.Option.{option_copied}
use Rattle.std.specs.List.{slice_get}
use Rattle.std.specs.Result.{IsErrAnd}
use Rattle.state.specs.declared.State.{State}
use Rattle.rx.specs.Feed.{Given}
use Rattle.replay_inputs.specs.declared.failure.Failure.{Failure}
use Rattle.replay.specs.declared.Detection.{Detection}
use Rattle.replay.specs.Feeds.{FedInParts}
use Rattle.reading_shown.specs.LastFed.{FedLast, last, failed, LastPosition}
use Rattle.reading_shown.proofs.station.Station.feed.Goals as goal

-- an answer that is the error of the calls
error_is : {g : ℕ → Given} {n : ℕ} {s s' : State} {m m' : List Float} {e : Failure} (r : Result ℕ Failure)
    → IsErrAnd r (λ f. f ≡ e) → FedInParts g n s m (Err e) s' m' → FedLast g n s m r s' m'
error_is (Err f) p w = rw p (failed w)
error_is (Ok q) p w = absurd p

-- the last detection, lent or not
position_is : (p : ℕ) (o : Option (Bor Detection)) (ds : List Detection)
    → option_copied o ≡ slice_get ds (length ds - 1) → MatchOption o (p ≡ 0) (λ d. p ≡ d.now.position)
    → LastPosition ds p
position_is p None ds e h = rw (sym e) h
position_is p (Some d) ds e h = rw (sym e) h

pub returns-in_err-found-clause-calls : goal.returns-in_err-found-clause-calls
returns-in_err-found-clause-calls c = error_is _ c.from_residual.ensures.1 c.in_err-found.ensures

pub returns-clause-calls : goal.returns-clause-calls
returns-clause-calls c =
    let h : MatchOption c.last.result (c.map_or.result ≡ 0) (λ d. c.map_or.result ≡ d.now.position) = search rules in
    let v = rw c.deref.ensures.value at c.last.ensures.value in
    last c.in_ok-found.ensures (position_is c.map_or.result c.last.result c.in_ok-found.found.items v h)
