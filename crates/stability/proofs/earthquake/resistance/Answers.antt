-- `stability::earthquake::resistance` meets its contract: the product fits. Assumes nothing.
use Rattle.stability.specs.Earthquake.{resistance_of}
use Rattle.stability.proofs.earthquake.resistance.Goals as goal

pub returns : goal.returns
unfolding resistance_of
returns c = c.down.ensures
