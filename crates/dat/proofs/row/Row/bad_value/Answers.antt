-- `Row::bad_value` meets its contract: the three tests in the order of the definition. Assumes nothing.
use Rattle.std.proofs.Common.{ℕ, ◌+◌, ◌-◌, ◌*◌, ◌<◌, ◌≤◌, ◌≡◌, refl, sym, ap, ◌∙◌, Bool, true, false, List, arith, eqb, ltb, length, drop, take, lt-ltb, le-ltb, ltb-false}
use Rattle.std.specs.List.{list_any}
use Rattle.std.proofs.lemmas.List.{length-drop, get_or-drop}
use Rattle.refusal.specs.Any.{any}
use Rattle.refusal.specs.AnyLaws.{any_first, any_ext}
use Rattle.level.specs.declared.Layout.{Layout}
use Rattle.dat.specs.Tables.{value, bad_value}
use Rattle.dat.specs.Accepted.{InTable}
use Rattle.dat.specs.AcceptedLaws.{value_in, values_in}
use Rattle.dat.proofs.row.Row.bad_value.Goals.{then-v-lt5, else-v-lt5}
use Rattle.dat.proofs.row.Row.bad_value.Goals as goal

below : (l : Layout) (table : List ℕ) (c k : ℕ) → value l table c k < 5 → true ≡ bad_value l table c k
unfolding bad_value
below l table c k h = rw (lt-ltb _ _ h) refl

-- the values before the k-th of carrier c
abbrev passed : Layout → List ℕ → ℕ → ℕ → List ℕ
passed l table c k = take (c * l.markers + k - c * l.markers) (drop (c * l.markers) table)

module _ (l : Layout) (table : List ℕ) (c k : ℕ) (x : Bool) (g : 5 ≤ value l table c k)
    (e : x ≡ ltb (l.spf - 4) (value l table c k)) where
  above : x ≡ true → x ≡ bad_value l table c k
  unfolding bad_value
  above t = t ∙ sym (rw (le-ltb _ _ g, sym e ∙ t) refl)

  once : k < l.markers → InTable l table c
      → list_any (λ y. eqb y (value l table c k)) (passed l table c k)
      ≡ any (λ j. eqb (value l table c j) (value l table c k)) k
  once K t =
      let from = c * l.markers in
      let same : from + k - from ≡ k = omega arith in
      let long : k ≤ length (drop from table) =
      simp length-drop (omega (arith, values_in l table c t k (omega arith))) in
      rw same (any_first (λ y. eqb y (value l table c k)) (drop from table) k long)
      ∙ any_ext _ _ k (λ j J. ap (λ (y : ℕ). eqb y (value l table c k)) (get_or-drop from table j 0))

  twice : (r : Bool) → x ≡ false → k < l.markers → InTable l table c
      → r ≡ list_any (λ y. eqb y (value l table c k)) (passed l table c k)
      → r ≡ bad_value l table c k
  unfolding bad_value
  twice r f K t h = rw (le-ltb _ _ g, sym e ∙ f) (h ∙ once K t)

pub bounds-self-from : goal.bounds-self-from
bounds-self-from c = value_in _ _ _ c.args.self.now.in_table _ c.requires

pub returns-then-self-v : goal.returns-then-self-v
returns-then-self-v c =
    elim c.if-v-lt5.branch [
      | then-v-lt5 w ↦ c.if-self-v.true ∙ below _ _ _ _ w.if-v-lt5.true
      | else-v-lt5 w ↦ above _ _ _ _ _ w.if-v-lt5.false w.value-is c.if-self-v.true
    ]

pub returns-else-self-v : goal.returns-else-self-v
returns-else-self-v c =
    elim c.if-v-lt5.branch [
      | then-v-lt5 w ↦ absurd (omega (arith, ltb-false _ _ (sym w.value-is ∙ c.if-self-v.false), w.if-v-lt5.true))
      | else-v-lt5 w ↦ twice c.args.self.now.layout c.args.self.now.table.now c.args.self.now.carrier c.args.k _
          w.if-v-lt5.false w.value-is _ c.if-self-v.false c.requires c.args.self.now.in_table c.contains.ensures.value
    ]
