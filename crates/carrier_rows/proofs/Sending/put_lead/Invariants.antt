-- `carrier_rows::Sending::put_lead` meets its contract: the leads before k are written. Assumes nothing.
use Rattle.std.proofs.Common.{◌≡◌}
use Rattle.carrier_rows.specs.Sent.{lead_of}
use Rattle.complex.specs.Stored.{stored_from}
use Rattle.carrier_rows.proofs.Sending.put_lead.Given as goal

abbrev pub invariant-loop-k : goal.invariant-loop-k
invariant-loop-k l = l.rows ≡ stored_from (lead_of l.self l.c) l.at l.k l.initial.rows
