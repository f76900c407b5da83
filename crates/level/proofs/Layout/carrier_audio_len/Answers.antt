-- `Layout::carrier_audio_len` meets its contract: no stagger is above the greatest. Assumes nothing.
use Rattle.std.proofs.Common.{◌≡◌, ℕ, ◌<◌, ◌≤◌, ap, ◌∙◌, arith}
use Rattle.level.specs.declared.Layout.{Layout}
use Rattle.level.specs.Layout.{stagger}
use Rattle.level.specs.Lengths.{audio_of, carrier_audio_length}
use Rattle.level.specs.Rows.{IsLayout}
use Rattle.level.specs.SizedLaws.{sized, stagger_within}
use Rattle.level.proofs.Layout.carrier_audio_len.Goals as goal

near : (l : Layout) → IsLayout l → (c : ℕ) → c < l.nc → {s : ℕ} → s ≡ stagger l.nc c → s ≤ 21
near l i c h e = omega (arith, stagger_within l i c h, (sized l i).stagger_most)

pub audio_of-requires : goal.audio_of-requires
audio_of-requires c = (c.requires.0, c.requires.1, near _ c.requires.0 _ c.requires.2 c.stagger.ensures)

pub returns : goal.returns
unfolding carrier_audio_length
returns c = c.audio_of.ensures ∙ ap (audio_of _ _) c.stagger.ensures
