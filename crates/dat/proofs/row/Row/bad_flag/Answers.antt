-- `Row::bad_flag` meets its contract: the flag is compared with what the values set. Assumes nothing.
use Rattle.dat.specs.AcceptedLaws.{flag_in}
use Rattle.dat.specs.FlagLaws.{flag_tested, set_room}
use Rattle.dat.proofs.row.Row.bad_flag.Goals as goal

pub bounds-self-l : goal.bounds-self-l
bounds-self-l c = flag_in _ _ _ c.args.self.now.in_table _ c.requires.1

pub bounds-set-j : goal.bounds-set-j
bounds-set-j c = set_room _ _ _ _ _ c.requires.0 c.requires.1 c.args.self.now.in_table.sized

pub returns : goal.returns
returns c = flag_tested _ _ _ _ _ c.requires.0 c.requires.1 c.args.self.now.in_table.sized
