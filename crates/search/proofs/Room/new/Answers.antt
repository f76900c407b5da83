-- `search::Room::new` meets its contract: arrays of one number. Assumes nothing.
use Rattle.std.proofs.lemmas.List.{get_or-replicate}
use Rattle.std.specs.Float.{nan}
use Rattle.complex.specs.Arithmetic.{fzero}
use Rattle.search.proofs.Room.new.Goals as goal

pub returns : goal.returns
returns c =
    record {
      marks = λ k h. get_or-replicate 40 k 0 1 h;
      mark_references = λ k h. get_or-replicate 80 k fzero nan h;
      cells = λ k h. get_or-replicate 1500 k 0 1 h;
      cell_references = λ k h. get_or-replicate 3000 k fzero nan h;
    }
