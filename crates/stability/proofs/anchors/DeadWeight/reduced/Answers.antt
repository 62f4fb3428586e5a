-- `stability::anchors::DeadWeight::reduced` meets its contract. Assumes nothing.
use borrow.Author.Rules.{rules}
use Rattle.stability.specs.Anchors.{reduced_weight}
use Rattle.stability.proofs.anchors.DeadWeight.reduced.Goals as goal

pub returns : goal.returns
unfolding reduced_weight
returns c = search rules
