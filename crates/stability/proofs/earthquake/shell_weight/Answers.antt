-- `stability::earthquake::shell_weight` meets its contract: the product fits. Assumes nothing.
use Rattle.stability.specs.Earthquake.{shell_exact, shell_weight}
use Rattle.stability.proofs.earthquake.shell_weight.Goals as goal

pub returns : goal.returns
unfolding shell_weight shell_exact
returns c = c.down.ensures
