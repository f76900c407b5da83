-- `filter::Pass::filter_carrier` meets its contract: what the second call makes leaves the first call's track as it
-- was. Assumes nothing.
use Rattle.filter.proofs.Carriers.{carrier_made}
use Rattle.filter.proofs.pass.Pass.filter_carrier.Goals as goal

pub returns : goal.returns
returns c = carrier_made _ _ _ _ _ _ c.filter_track-filtered.ensures c.step_tracks.ensures
