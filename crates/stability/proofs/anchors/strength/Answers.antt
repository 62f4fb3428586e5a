-- `stability::anchors::strength` meets its contract. Assumes nothing.
use Rattle.stability.specs.Anchors.{strength_verdict}
use Rattle.stability.proofs.anchors.strength.Goals as goal

pub returns : goal.returns
unfolding strength_verdict
returns c = c.verdict_of.ensures
