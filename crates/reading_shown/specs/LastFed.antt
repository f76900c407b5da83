-- A signal fed in parts, and its last release. Definitions only.
use Rattle.std.specs.Prelude.{ℕ, ◌-◌, ◌≡◌, List, length, Float, Result, Ok, Err, MatchOption}
use Rattle.std.specs.List.{slice_get}
use Rattle.std.specs.Global.{Vec}
use Rattle.state.specs.declared.State.{State}
use Rattle.rx.specs.Feed.{Given}
use Rattle.replay_inputs.specs.declared.failure.Failure.{Failure}
use Rattle.replay_inputs.specs.declared.sending.Sending.{Sending}
use Rattle.replay.specs.declared.Detection.{Detection}
use Rattle.replay.specs.Feeds.{FedInParts}

-- p is the position of the last detection, or 0
abbrev pub LastPosition : List Detection → ℕ → Type 0
LastPosition ds p = MatchOption (slice_get ds (length ds - 1)) (p ≡ 0) (λ d. p ≡ d.position)

-- what n calls of `feed` come to, by the position of their last release
pub data FedLast (g : ℕ → Given) (n : ℕ) (s : State) (m : List Float)
    : Result ℕ Failure → State → List Float → Type 0 where
  last : {found : Vec Detection} {p : ℕ} {s' : State} {m' : List Float}
      → FedInParts g n s m (Ok found) s' m'
      → LastPosition found.items p
      → FedLast g n s m (Ok p) s' m'
  failed : {e : Failure} {s' : State} {m' : List Float}
      → FedInParts g n s m (Err e) s' m'
      → FedLast g n s m (Err e) s' m'

-- what was sent is as it was
abbrev pub SameSent : Sending → Sending → Type 0
SameSent a b =
    (b.tables ≡ a.tables) × (b.frames ≡ a.frames) × (b.payload ≡ a.payload) × (b.rows ≡ a.rows)
    × (b.generator ≡ a.generator)
