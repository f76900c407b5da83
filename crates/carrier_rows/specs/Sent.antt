-- What the code's struct of all that is sent comes to, in the definitions' terms. Definitions only.
use Rattle.std.specs.Prelude.{ℕ, ◌*◌}
use Rattle.complex.specs.declared.Complex.{Complex}
use Rattle.level.specs.Lengths.{row_length}
use Rattle.carrier_rows.specs.declared.Sending.{Sending}
use Rattle.carrier_rows.specs.Symbols as Symbols

abbrev pub sent : Sending → Symbols.Sending
sent s = Symbols.sending s.tables.markers.now s.tables.phasors.now s.frames s.payload.now s.draws.now

-- the rows' f64, and the place of the row of carrier c
abbrev pub room_of : Sending → ℕ
room_of s = 2 * (s.tables.layout.nc * row_length s.tables.layout s.frames)

abbrev pub row_from : Sending → ℕ → ℕ
row_from s c = c * row_length s.tables.layout s.frames

-- the leads of carrier c, and the symbols of its frame f
abbrev pub lead_of : Sending → ℕ → ℕ → Complex
lead_of s c = Symbols.lead_symbol s.tables.layout s.tables.phasors.now s.frames s.draws.now c

abbrev pub frame_of : Sending → ℕ → ℕ → ℕ → Complex
frame_of s c f =
    Symbols.frame_symbol s.tables.layout s.tables.markers.now s.tables.phasors.now s.payload.now s.draws.now c f
