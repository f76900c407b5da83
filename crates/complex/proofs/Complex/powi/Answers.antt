-- `Complex::powi` meets its contract: the square, squared again where the order isn't 2. Assumes nothing.
use Rattle.std.proofs.Common.{◌≡◌, ap, ◌∙◌, ℕ, eq-eqb, ne_eqb}
use Rattle.complex.specs.declared.Complex.{Complex}
use Rattle.complex.specs.Arithmetic.{cpow, cmul}
use Rattle.complex.proofs.Complex.powi.Goals as goal

second : (order : ℕ) (z s : Complex) → order ≡ 2 → s ≡ cmul z z → s ≡ cpow order z
unfolding cpow
second order z s e h = rw (eq-eqb order 2 e) h

fourth : (order : ℕ) (z s r : Complex) → (order ≡ 2 → ⊥) → s ≡ cmul z z → r ≡ cmul s s → r ≡ cpow order z
unfolding cpow
fourth order z s r n h k = rw (ne_eqb order 2 n) (k ∙ ap (λ (x : Complex). cmul x x) h)

pub returns-then-order-eq2 : goal.returns-then-order-eq2
returns-then-order-eq2 c = second _ _ _ c.if-order-eq2.true c.mul-square.ensures

pub returns-else-order-eq2 : goal.returns-else-order-eq2
returns-else-order-eq2 c = fourth _ _ _ _ c.if-order-eq2.false c.mul-square.ensures c.mul.ensures
