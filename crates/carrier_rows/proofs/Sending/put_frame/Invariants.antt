-- `carrier_rows::Sending::put_frame` meets its contract: before symbol s the state is that of the symbol before, and
-- those before s are written. Assumes nothing.
use Rattle.std.proofs.Common.{◌-◌, ◌≡◌}
use Rattle.carrier_rows.specs.Running.{running_at}
use Rattle.carrier_rows.specs.Sent.{frame_of}
use Rattle.complex.specs.Stored.{stored_from}
use Rattle.carrier_rows.proofs.Sending.put_frame.Given as goal

abbrev pub invariant-loop-s : goal.invariant-loop-s
invariant-loop-s l =
    (l.r ≡ running_at l.self.tables.layout l.self.tables.markers.now l.self.payload.now l.self.draws.now l.f l.c
    (l.s - 1)) × (l.rows ≡ stored_from (frame_of l.self l.c l.f) l.at l.s l.fn.rows)
