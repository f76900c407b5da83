-- `Layout::audio_len` meets its contract: the greatest stagger is at most 21. Assumes nothing.
use Rattle.level.specs.Lengths.{audio_length}
use Rattle.level.specs.SizedLaws.{sized}
use Rattle.level.proofs.Layout.audio_len.Goals as goal

pub audio_of-requires : goal.audio_of-requires
audio_of-requires c = (c.requires.0, c.requires.1, (sized _ c.requires.0).stagger_most)

pub returns : goal.returns
unfolding audio_length
returns c = c.audio_of.ensures
