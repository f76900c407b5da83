-- `reading::Sought::find` meets its contract: what the memory holds at the frame is what the rows say. Assumes nothing.
use Rattle.std.proofs.Common.{refl, sym, ◌∙◌}
use Rattle.offers.specs.Chi.{lent_tables}
use Rattle.reading.specs.InMemory.{found_in}
use Rattle.reading.specs.Begun.{late, locate_fits}
use Rattle.reading.proofs.Sought.find.Goals as goal

pub locate_in-requires : goal.locate_in-requires
locate_in-requires c =
    let a = c.args.self.now in
    locate_fits a.tables.layout a.state _ a.t0.0 a.in_hand _ refl refl refl

pub returns : goal.returns
returns c =
    let a = c.args.self.now in
    let l = a.tables.layout in
    c.locate_in.ensures
    ∙ sym (found_in l a.tables.is_layout (lent_tables a.tables) a.state a.memory.now a.t0.0
    (late l a.state _ a.t0.0 a.in_hand))
