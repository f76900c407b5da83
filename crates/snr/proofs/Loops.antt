-- The laws of the loops, by the names under which the search takes them. Assumes nothing.
use Rattle.complex.specs.Filling.{filling_none, filling_more}
use Rattle.snr.specs.InsertLaws.{carried_start, carried_end, sorting_none, sorting_more}

pub ruleset fills = (filling_none, filling_more)

pub ruleset inserts = (carried_start, carried_end)

pub ruleset sorts = (sorting_none, sorting_more)
