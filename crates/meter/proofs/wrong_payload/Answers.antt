-- `meter::wrong_payload` meets its contract: the test of lent bytes, at a limit of 2. Assumes nothing.
use Rattle.std.proofs.Common.{◌∙◌}
use Rattle.meter.proofs.MeterLaws.{bits_tested}
use Rattle.meter.proofs.wrong_payload.Goals as goal

pub returns : goal.returns
returns c = c.wrong_bytes.ensures ∙ bits_tested _ _
