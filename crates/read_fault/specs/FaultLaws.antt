-- The rows of a reading past the tables' are row 11 and then the others. Assumes nothing.
use Rattle.std.specs.Prelude.{ℕ, ◌≡◌, refl, Bool, true, false, List, Float, Ok}
use Rattle.refusal.specs.declared.Refusal.TheVariants as no
use Rattle.refusal.specs.Outcome.{first_of, or_else, Answer}
use Rattle.level.specs.declared.Layout.{Layout}
use Rattle.state.specs.declared.State.{State}
use Rattle.read_conditions.specs.Conditions.{wrong_buffers}
use Rattle.read_fault.specs.Faults.{buffer_fault, drift_fault, frame_fault}

pub frame_fault_is : (l : Layout) (s : State) (room t0 : ℕ) (drift : List Float) (scratch out : ℕ)
    → or_else (buffer_fault l scratch out) (drift_fault l s room t0 drift)
    ≡ frame_fault l s room t0 drift scratch out
unfolding buffer_fault drift_fault frame_fault
frame_fault_is l s room t0 drift scratch out = go (wrong_buffers l scratch out) _
  where
    go : (b : Bool) (rest : Answer) → or_else (first_of no.Buffer b (Ok tt)) rest ≡ first_of no.Buffer b rest
    go true rest = refl
    go false rest = refl
