-- `reading::Sought::accept` meets its contract: the symbols of the frame that is found, decoded. Assumes nothing.
use Rattle.offers.specs.Chi.{lent_tables}
use Rattle.reading.specs.Begun.{samples_fit, filtered_fit, drift_rows}
use Rattle.reading.specs.AcceptLaws.{near, accepted}
use Rattle.reading.proofs.Sought.accept.Goals as goal

pub invariant_of-frame : goal.invariant_of-frame
invariant_of-frame c =
    let a = c.args.self.now in
    let l = a.tables.layout in
    let i = a.tables.is_layout in
    let n = near l i (lent_tables a.tables) a.state a.memory.now a.t0.0 a.in_hand _ c.find-found.ensures in
    record {
      samples_fit = rw c.phasor_table.ensures.0 (samples_fit l a.state _ a.t0.0 a.in_hand i _ n.0 n.1);
      filtered_fit = rw c.phasor_table.ensures.0 (filtered_fit l a.state _ a.t0.0 a.in_hand i _ n.0 n.1);
    }

pub symbols-requires : goal.symbols-requires
symbols-requires c =
    let a = c.args.self.now in
    let l = a.tables.layout in
    let i = a.tables.is_layout in
    let n = near l i (lent_tables a.tables) a.state a.memory.now a.t0.0 a.in_hand _ c.find-found.ensures in
    rw c.phasor_table.ensures.0
    (drift_rows l a.state _ a.t0.0 a.in_hand i _ n.0 n.1 _ _ _ c.requires, c.requires.scratch_is)

pub returns : goal.returns
returns c =
    let a = c.args.self.now in
    let p = c.phasor_table.ensures in
    let m = c.marker_table.ensures in
    accepted a.tables.layout a.tables.is_layout (lent_tables a.tables) a.state a.memory.now a.t0.0 a.in_hand
    c.args.drift.now c.args.out.now _ _ c.requires _ _ _ _ _ c.find-found.ensures
    (rw (p.0, p.1) at c.symbols.ensures) (rw (m.0, m.1) at c.decode.ensures)
