-- A signal fed in parts: before the first, after one more, after the last. Assumes nothing.
use Rattle.std.proofs.Common.{ℕ, ◌+◌, ◌-◌, ◌*◌, ◌^◌, ◌<◌, ◌≡◌, refl, sym, ap, ◌∙◌, List, [], ◌∷◌, ◌++◌, map, min, arith, length, take, drop, Float, Result, Ok, Err, ⊎_elim, take_all, length-append, length-drop}
use Rattle.std.proofs.Math.Nat.{min-eq_left}
use Rattle.std.proofs.lemmas.Bool.{cases_lt}
use Rattle.std.proofs.Math.Seq.{take-append_seam, drop-append_seam}
use Rattle.std.proofs.lemmas.List.{drop-drop, drop_all, map-append, append-nil, nil_from_length}
use Rattle.std.specs.Global.{Vec}
use Rattle.std.specs.Result.{IsErrAnd}
use Rattle.refusal.specs.declared.Refusal.{Refusal}
use Rattle.refusal.specs.declared.Position.{Position}
use Rattle.hold.specs.declared.Release.{Release}
use Rattle.hold.specs.declared.Release.TheVariants.{NoRelease, Released}
use Rattle.hold.specs.History as history
use Rattle.hold.specs.Releases.{released}
use Rattle.state.specs.declared.State.{State}
use Rattle.rx.specs.Feed.{Given, FedBy}
use Rattle.replay_inputs.specs.declared.tables.Tables.{Tables}
use Rattle.replay_inputs.specs.declared.failure.Failure.{Failure}
use Rattle.replay_inputs.specs.declared.failure.Failure.TheVariants.{Refused}
use Rattle.replay_inputs.specs.Failure.{OfMemory}
use Rattle.replay.specs.declared.Detection.{Detection}
use Rattle.replay.specs.Feeds.{given_by, part_of, parts, PartsFed, none, next, FedInParts, all, refused, no_memory}

-- a part that comes off a list is its first n entries, and the rest those behind
module _ {A : Type 0} (n : ℕ) (xs ys zs : List A) (e : xs ≡ ys ++ zs) (m : length ys ≡ min n (length xs)) where
  whole : length xs ≡ length ys + length zs
  whole = ap length e ∙ length-append ys zs

  cut : (ys ≡ take n xs) × (zs ≡ drop n xs)
  cut =
      ⊎_elim
      (λ s.
      let z : zs ≡ [] = nil_from_length zs (omega (arith, whole, m)) in
      let x : xs ≡ ys = e ∙ ap (λ (l : List A). ys ++ l) z ∙ append-nil ys in
      (sym x ∙ sym (take_all n xs (omega (arith, s))), z ∙ sym (drop_all n xs (omega (arith, s)))))
      (λ l.
      let k : length ys ≡ n = m ∙ min-eq_left l in
      let a : take n xs ≡ ys = rw (e, sym k) (take-append_seam ys zs) in
      let b : drop n xs ≡ zs = rw (e, sym k) (drop-append_seam ys zs) in
      (sym a, sym b))
      (cases_lt (length xs) n)

-- feeds under way: so many parts are fed and accepted, and what they released is found
pub record Underway (t : Tables) (first : ℕ) (signal : List Float) (s : State) (m : List Float)
    (found : List Detection) (number : ℕ) (rest : List Float) (s' : State) (m' : List Float)
    : Type 0 where
  pub k : ℕ
  pub ds : List history.Detection
  pub fed : PartsFed (part_of t first signal) s m k ds s' m'
  pub found_are : map (λ d. d.position) found ≡ map (λ d. d.position.0) ds
  pub number_is : number ≡ min (first + 4000 * k) (2 ^ 64 - 1)
  pub rest_is : rest ≡ drop (8000 * k) signal
  pub within : 8000 * k < length signal + 8000

module _ {t : Tables} {first : ℕ} {signal : List Float} {s : State} {m : List Float} where
  pub begun : (found : List Detection) (rest : List Float) → first < 2 ^ 64 → found ≡ [] → rest ≡ signal
      → Underway t first signal s m found first rest s m
  begun found rest f n r =
      record {
        k = 0;
        ds = [];
        fed = none;
        found_are = ap (map (λ d. d.position)) n;
        number_is = omega (arith, f);
        rest_is = r;
        within = omega arith;
      }

  module _ {found : List Detection} {number : ℕ} {rest : List Float} {s₁ : State} {m₁ : List Float}
      (u : Underway t first signal s m found number rest s₁ m₁) where
    -- part k is the one that comes off
    part_is : (part rest' : List Float) → rest ≡ part ++ rest' → length part ≡ min 8000 (length rest)
        → given_by t number part ≡ part_of t first signal u.k
    part_is part rest' e l =
        let c = cut 8000 rest part rest' e l in
        let p = c.0 ∙ ap (take 8000) u.rest_is in
        rw (u.number_is, p) refl

    behind : 0 < length rest → 8000 * u.k < length signal
    behind h = omega (arith, ap length u.rest_is, length-drop (8000 * u.k) signal)

    pub more : {part rest' : List Float} {r : Release} {found' : List Detection} {number' : ℕ} {s' : State}
        {m' : List Float}
        → rest ≡ part ++ rest' → length part ≡ min 8000 (length rest) → 0 < length rest
        → FedBy (given_by t number part) s₁ m₁ (Ok r) s' m'
        → map (λ d. d.position) found' ≡ map (λ d. d.position) found ++ map (λ d. d.position.0) (released r [])
        → number' ≡ min (number + 4000) (2 ^ 64 - 1)
        → Underway t first signal s m found' number' rest' s' m'
    more {part} {rest'} {r} {found'} {number'} {s'} {m'} e l h f g n =
        let c = cut 8000 rest part rest' e l in
        let f' : FedBy (part_of t first signal u.k) s₁ m₁ (Ok r) s' m' = rw (sym (part_is part rest' e l)) f in
        record {
          k = u.k + 1;
          ds = u.ds ++ released r [];
          fed = next u.fed f';
          found_are =
              g ∙ ap (λ (w : List ℕ). w ++ map (λ d. d.position.0) (released r [])) u.found_are
              ∙ sym (map-append (λ d. d.position.0) u.ds (released r []));
          number_is = omega (arith, n, u.number_is);
          rest_is = c.1 ∙ ap (drop 8000) u.rest_is ∙ drop-drop 8000 (8000 * u.k) signal
              ∙ ap (λ (j : ℕ). drop j signal) (omega arith);
          within = let b = behind h in omega arith;
        }

    -- a refused part
    pub stopped : (part rest' : List Float) {f : Refusal} {s' : State} {m' : List Float}
        → rest ≡ part ++ rest' → length part ≡ min 8000 (length rest) → 0 < length rest
        → FedBy (given_by t number part) s₁ m₁ (Err f) s' m'
        → FedInParts (part_of t first signal) (parts signal) s m (Err (Refused f)) s' m'
    stopped part rest' {f} {s'} {m'} e l h w =
        let b = behind h in
        let w' : FedBy (part_of t first signal u.k) s₁ m₁ (Err f) s' m' = rw (sym (part_is part rest' e l)) w in
        refused (omega arith) u.fed w'

    -- after the last part
    pub done : (v : Vec Detection) → v.items ≡ found → length rest ≡ 0
        → FedInParts (part_of t first signal) (parts signal) s m (Ok v) s₁ m₁
    done v e l =
        let k : u.k ≡ parts signal = let b = u.within in
        omega (arith, ap length u.rest_is, length-drop (8000 * u.k) signal) in
        all (rw (sym k) u.fed) (ap (map (λ d. d.position)) e ∙ u.found_are)

    -- no memory for what a part releases
    pub short : (part rest' : List Float) {p : Position} {v : Float} {r : Release} {s' : State} {m' : List Float}
        (e : Failure) → OfMemory e → rest ≡ part ++ rest' → length part ≡ min 8000 (length rest) → 0 < length rest
        → r ≡ Released p v → FedBy (given_by t number part) s₁ m₁ (Ok r) s' m'
        → FedInParts (part_of t first signal) (parts signal) s m (Err e) s' m'
    short part rest' {p} {v} {r} {s'} {m'} e o x l h i f =
        let b = behind h in
        let f' : FedBy (part_of t first signal u.k) s₁ m₁ (Ok (Released p v)) s' m' =
        rw (sym (part_is part rest' x l), sym i) f in
        no_memory o (omega arith) u.fed f'

-- what is found after a part: one position more, or none
pub found_more : (found : List Detection) (p : Position) (v : Float) (d : Detection) → d.position ≡ p.0
    → map (λ d. d.position) (found ++ (d ∷ []))
    ≡ map (λ d. d.position) found ++ map (λ d. d.position.0) (released (Released p v) [])
unfolding released
found_more found p v d e =
    map-append (λ d. d.position) found (d ∷ [])
    ∙ ap (λ (n : ℕ). map (λ (x : Detection). x.position) found ++ (n ∷ [])) e

pub found_same : (found : List Detection)
    → map (λ d. d.position) found ≡ map (λ d. d.position) found ++ map (λ d. d.position.0) (released NoRelease [])
unfolding released
found_same found = sym (append-nil (map (λ d. d.position) found))

-- an answer that is an error of which P holds
pub error_is : {g : ℕ → Given} {n : ℕ} {s s' : State} {m m' : List Float} {P : Failure → Type 0}
    (r : Result (Vec Detection) Failure) → IsErrAnd r P → ((e : Failure) → P e → FedInParts g n s m (Err e) s' m')
    → FedInParts g n s m r s' m'
error_is (Err e) p f = f e p
error_is (Ok v) p f = absurd p
