-- What a call of the sender comes to, by the first fault that it meets. Assumes nothing.
use Rattle.std.proofs.Common.{ℕ, ◌≡◌, refl, List, Float, Result, Ok, Err}
use Rattle.refusal.specs.declared.Refusal.{Refusal}
use Rattle.refusal.specs.Refusal.{number_of}
use Rattle.refusal.specs.Outcome.{Outcome, refused, answered, outcome}
use Rattle.level.specs.declared.Layout.{Layout}
use Rattle.level.specs.Layout.{chosen}
use Rattle.dat.specs.Tables.{table_fault}
use Rattle.carrier_rows.specs.Symbols.{Sending, rows_of}
use Rattle.psk.specs.Send.{sender_fault, send_fault, sent_in, modulated, Meets}

-- ---- what a call leaves
pub met : (o : Outcome (List Float)) (xs : List Float) (r : Refusal) → o ≡ refused (number_of r) → Meets o xs xs (Err r)
met o xs r e = rw e (record { answer = refl; rows = refl })

pub filled : (o : Outcome (List Float)) (xs ys : List Float) → o ≡ answered ys → Meets o xs ys (Ok tt)
filled o xs ys e = rw e (record { answer = refl; rows = refl })

-- ---- what it comes to
module _ (hz rec : ℕ) (m : Sending) (room : ℕ) (k : Result Layout Refusal) (e : outcome k ≡ chosen hz rec) where
  pub layout_refused : (r : Refusal) → k ≡ Err r → modulated hz rec m room ≡ refused (number_of r)
  unfolding modulated
  layout_refused r h = rw (← e, h) refl

  module _ (l : Layout) (h : k ≡ Ok l) where
    pub tables_refused : (r : Refusal) → table_fault l m.markers m.phasors ≡ Err r
        → modulated hz rec m room ≡ refused (number_of r)
    unfolding modulated sent_in send_fault
    tables_refused r t = rw (← e, h, t) refl

    pub sender_refused : (r : Refusal) → table_fault l m.markers m.phasors ≡ Ok tt
        → sender_fault l m.frames m.payload m.draws room ≡ Err r → modulated hz rec m room ≡ refused (number_of r)
    unfolding modulated sent_in send_fault
    sender_refused r t s = rw (← e, h, t, s) refl

    pub sent : table_fault l m.markers m.phasors ≡ Ok tt → sender_fault l m.frames m.payload m.draws room ≡ Ok tt
        → modulated hz rec m room ≡ answered (rows_of l m)
    unfolding modulated sent_in send_fault
    sent t s = rw (← e, h, t, s) refl
