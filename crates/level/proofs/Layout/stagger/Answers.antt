-- `Layout::stagger` meets its contract, case by case. Assumes nothing.
use Rattle.std.proofs.Common.{◌≡◌, ℕ, zero, suc, ◌%◌, refl, arith, eq-eqb, ne_eqb}
use Rattle.level.specs.Layout.{stagger}
use Rattle.level.proofs.Layout.stagger.Goals as goal

-- the third carrier on, and the first
rest : (c : ℕ) → (c ≡ 1 → ⊥) → (c ≡ 2 → ⊥) → 0 ≡ stagger 3 c
unfolding stagger
rest zero a b = refl
rest (suc zero) a b = absurd (a refl)
rest (suc (suc zero)) a b = absurd (b refl)
rest (suc (suc (suc c))) a b = refl

odd : (nc c : ℕ) → (nc ≡ 3 → ⊥) → c % 2 ≡ 1 → 16 ≡ stagger nc c
unfolding stagger
odd nc c a b = simp (ne_eqb nc 3 a, eq-eqb (c % 2) 1 b)

even : (nc c : ℕ) → (nc ≡ 3 → ⊥) → (c % 2 ≡ 1 → ⊥) → 0 ≡ stagger nc c
unfolding stagger
even nc c a b = simp (ne_eqb nc 3 a, ne_eqb (c % 2) 1 b)

pub returns-in-1 : goal.returns-in-1
unfolding stagger
returns-in-1 c = rw (c.if-self-eq3.true, c.in-1.is)

pub returns-in-2 : goal.returns-in-2
unfolding stagger
returns-in-2 c = rw (c.if-self-eq3.true, c.in-2.is)

pub returns-in_default : goal.returns-in_default
returns-in_default c = rw c.if-self-eq3.true (rest c.args.c (omega arith) (omega arith))

pub returns-then-c-eq1 : goal.returns-then-c-eq1
returns-then-c-eq1 c = odd _ _ c.if-self-eq3.false c.if-c-eq1.true

pub returns-else-c-eq1 : goal.returns-else-c-eq1
returns-else-c-eq1 c = even _ _ c.if-self-eq3.false c.if-c-eq1.false
