-- One call more after a list of calls. Assumes nothing.
use Rattle.std.proofs.Common.{ℕ, suc, ◌+◌, ◌<◌, ◌≤◌, ◌≡◌, ap, ◌∙◌, List, [], ◌∷◌, ◌++◌, map, length, get_or, take, set, add-one, take_all, take-suc-set, Float, Result}
use Rattle.std.proofs.Math.Seq.{take-suc}
use Rattle.std.proofs.lemmas.List.{map-append}
use Rattle.refusal.specs.declared.Refusal.{Refusal}
use Rattle.hold.specs.declared.Release.{Release}
use Rattle.state.specs.declared.State.{State}
use Rattle.rx.specs.Feed.{Given, FedBy}
use Rattle.modem.specs.Calls.{Calls, none, next}
use Rattle.session.specs.declared.Feed.{Feed}
use Rattle.session.specs.Run.{given_of}

calls_then : {s s₁ s₂ : State} {m m₁ m₂ : List Float} {gs : List Given} {rs : List (Result Release Refusal)}
    {g : Given} {a : Result Release Refusal} → Calls s m gs s₁ m₁ rs → FedBy g s₁ m₁ a s₂ m₂
    → Calls s m (gs ++ (g ∷ [])) s₂ m₂ (rs ++ (a ∷ []))
calls_then none f = next f none
calls_then (next h t) f = next h (calls_then t f)

-- the calls of the first k feeds, and the next one, whose answer is stored
pub calls_more : (s : State) (m : List Float) (fs : List Feed) (k : ℕ) (d : Feed) (s₁ s₂ : State)
    (m₁ m₂ : List Float) (rs : List (Result Release Refusal)) (a : Result Release Refusal)
    → Calls s m (map given_of (take k fs)) s₁ m₁ (take k rs) → FedBy (given_of (get_or fs k d)) s₁ m₁ a s₂ m₂
    → k < length fs → k < length rs
    → Calls s m (map given_of (take (k + 1) fs)) s₂ m₂ (take (k + 1) (set rs k a))
calls_more s m fs k d s₁ s₂ m₁ m₂ rs a c f K R =
    let gs : map given_of (take (suc k) fs) ≡ map given_of (take k fs) ++ (given_of (get_or fs k d) ∷ []) =
    ap (map given_of) (take-suc fs k d K) ∙ map-append given_of (take k fs) (get_or fs k d ∷ []) in
    let ans : take (suc k) (set rs k a) ≡ take k rs ++ (a ∷ []) = take-suc-set rs k a R in
    rw (add-one k, gs, ans) (calls_then c f)

-- and when all are passed
pub calls_all : (s : State) (m : List Float) (fs : List Feed) (k : ℕ) (s₁ : State) (m₁ : List Float)
    (rs : List (Result Release Refusal)) → Calls s m (map given_of (take k fs)) s₁ m₁ (take k rs) → length fs ≤ k
    → length rs ≤ k → Calls s m (map given_of fs) s₁ m₁ rs
calls_all s m fs k s₁ m₁ rs c F R = rw (take_all k fs F, take_all k rs R) at c
