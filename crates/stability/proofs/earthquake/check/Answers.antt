-- `stability::earthquake::check` meets its contract. Assumes nothing.
use Rattle.stability.specs.Earthquake.{quake_verdict}
use Rattle.stability.proofs.earthquake.check.Goals as goal

pub returns : goal.returns
unfolding quake_verdict
returns c = c.verdict_of.ensures
