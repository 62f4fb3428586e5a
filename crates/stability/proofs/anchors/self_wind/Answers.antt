-- `stability::anchors::self_wind` meets its contract. Assumes nothing.
use Rattle.stability.specs.Anchors.{wind_verdict}
use Rattle.stability.proofs.anchors.self_wind.Goals as goal

pub returns : goal.returns
unfolding wind_verdict
returns c = c.verdict_of.ensures
