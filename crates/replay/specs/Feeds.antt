-- A signal fed in parts of 4,000 samples, one after the other. Definitions only.
use Rattle.std.specs.Prelude.{ℕ, ◌+◌, ◌-◌, ◌*◌, ◌/◌, ◌^◌, ◌<◌, ◌≡◌, List, [], ◌++◌, map, length, take, drop, min, Float, Result, Ok, Err}
use Rattle.std.specs.Global.{Vec}
use Rattle.refusal.specs.declared.Refusal.{Refusal}
use Rattle.refusal.specs.declared.Position.{Position}
use Rattle.hold.specs.declared.Release.{Release}
use Rattle.hold.specs.declared.Release.TheVariants.{Released}
use Rattle.hold.specs.History as history
use Rattle.hold.specs.Releases.{released}
use Rattle.state.specs.declared.State.{State}
use Rattle.rx.specs.Feed.{Given, given, FedBy}
use Rattle.replay_inputs.specs.declared.tables.Tables.{Tables}
use Rattle.replay_inputs.specs.declared.failure.Failure.{Failure}
use Rattle.replay_inputs.specs.declared.failure.Failure.TheVariants.{Refused}
use Rattle.replay_inputs.specs.Failure.{OfMemory}
use Rattle.replay.specs.declared.Detection.{Detection}

-- what a layout's tables give to `feed` with samples, the first of which has the number n
abbrev pub given_by : Tables → ℕ → List Float → Given
given_by t n samples =
    given t.layout.bandwidth t.layout.rec t.markers.items t.phasors.items t.book.items n samples

-- part j of a signal: its first sample has the number first + 4,000 × j, or the greatest that a u64 holds
abbrev pub part_of : Tables → ℕ → List Float → ℕ → Given
part_of t first signal j =
    given_by t (min (first + 4000 * j) (2 ^ 64 - 1)) (take 8000 (drop (8000 * j) signal))

-- how many parts a signal has
abbrev pub parts : List Float → ℕ
parts signal = (length signal + 7999) / 8000

-- the first k calls of `feed`, given g 0, g 1, .., are accepted: from state s and memory m they lead to s' and m',
-- and release ds
pub data PartsFed (g : ℕ → Given) (s : State) (m : List Float)
    : ℕ → List history.Detection → State → List Float → Type 0 where
  none : PartsFed g s m 0 [] s m
  next : {k : ℕ} {ds : List history.Detection} {s₁ s' : State} {m₁ m' : List Float} {r : Release}
      → PartsFed g s m k ds s₁ m₁
      → FedBy (g k) s₁ m₁ (Ok r) s' m'
      → PartsFed g s m (k + 1) (ds ++ released r []) s' m'

-- what n such calls come to: all are accepted, and the positions of their releases are those found; or a call is
-- refused, or there is no memory for what it releases, and none follows it
pub data FedInParts (g : ℕ → Given) (n : ℕ) (s : State) (m : List Float)
    : Result (Vec Detection) Failure → State → List Float → Type 0 where
  all : {ds : List history.Detection} {found : Vec Detection} {s' : State} {m' : List Float}
      → PartsFed g s m n ds s' m'
      → map (λ d. d.position) found.items ≡ map (λ d. d.position.0) ds
      → FedInParts g n s m (Ok found) s' m'
  refused : {k : ℕ} {ds : List history.Detection} {f : Refusal} {s₁ s' : State} {m₁ m' : List Float}
      → k < n
      → PartsFed g s m k ds s₁ m₁
      → FedBy (g k) s₁ m₁ (Err f) s' m'
      → FedInParts g n s m (Err (Refused f)) s' m'
  no_memory : {k : ℕ} {ds : List history.Detection} {e : Failure} {p : Position} {v : Float}
      {s₁ s' : State} {m₁ m' : List Float}
      → OfMemory e
      → k < n
      → PartsFed g s m k ds s₁ m₁
      → FedBy (g k) s₁ m₁ (Ok (Released p v)) s' m'
      → FedInParts g n s m (Err e) s' m'
