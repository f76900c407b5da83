-- `window::Window::add_carriers` meets its contract: the sums of the carriers passed. Assumes nothing.
use Rattle.std.proofs.Common.{◌+◌, ◌≡◌}
use Rattle.complex.specs.Lists.{tabulate}
use Rattle.window.specs.Audio.{lent_wave}
use Rattle.window.proofs.Carriers.{sum_before}
use Rattle.window.proofs.Window.add_carriers.Given as goal

abbrev pub invariant-loop-c : goal.invariant-loop-c
invariant-loop-c l = l.out ≡ tabulate (λ i. sum_before l.self.layout l.self.frames l.self.symbols.now
    (lent_wave l.self.waves.now l.self.place.0 l.self.places) l.c (l.self.place.0 + i)) l.self.places
