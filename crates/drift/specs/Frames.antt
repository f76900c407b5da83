-- The samples and the symbols of a frame by drift rows. Definitions only.
use Rattle.std.specs.Prelude.{ℕ, ◌+◌}
use Rattle.complex.specs.declared.Complex.{Complex}
use Rattle.drift.specs.declared.frame.DriftFrame.{DriftFrame}
use Rattle.drift.specs.Rows.{samples_in, drift_ith}

-- sample number n
abbrev pub sample_of : DriftFrame → ℕ → Complex
sample_of r = samples_in r.phasors.layout r.memory.now r.samples

-- symbol k of all of the frame with its phasor, and those from symbol `from` on
abbrev pub symbol_ith : DriftFrame → ℕ → Complex
symbol_ith r = drift_ith r.phasors.layout r.memory.now r.phasors.values.now r.samples r.rows.now r.t.0

abbrev pub symbol_from : DriftFrame → ℕ → ℕ → Complex
symbol_from r from k = symbol_ith r (from + k)
