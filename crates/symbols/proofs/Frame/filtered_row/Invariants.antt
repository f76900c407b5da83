-- `symbols::Frame::filtered_row` meets its contract: a turn stores one symbol more. Assumes nothing.
use Rattle.std.proofs.Common.{ℕ, ◌+◌, ◌*◌, ◌≡◌, List, Float}
use Rattle.complex.specs.declared.Complex.{Complex}
use Rattle.complex.specs.Arithmetic.{cmul}
use Rattle.complex.specs.Pairs.{cget}
use Rattle.complex.specs.Stored.{stored_from}
use Rattle.symbols.proofs.Frame.filtered_row.Given as goal

-- symbol k of those whose first stands at place `from`, its phasor at `at`
abbrev pub symbol_from : List Float → ℕ → List Float → ℕ → ℕ → Complex
symbol_from memory from phasors at k = cmul (cget memory (from + 32 * k)) (cget phasors (at + k))

abbrev pub invariant-loop-s : goal.invariant-loop-s
invariant-loop-s l =
    l.out ≡ stored_from (symbol_from l.memory l.from l.self.phasors.values.now l.at) l.at l.s l.initial.out
