-- `stability::anchors::spacing` meets its contract. Assumes nothing.
use Rattle.stability.specs.Anchors.{spacing_verdict}
use Rattle.stability.proofs.anchors.spacing.Goals as goal

pub returns : goal.returns
unfolding spacing_verdict
returns c = c.verdict_of.ensures
