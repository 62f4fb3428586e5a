-- `stability::earthquake::bottom_cap` meets its contract. Assumes nothing.
use Rattle.stability.specs.Earthquake.{bottom_cap, cap_exact}
use Rattle.stability.proofs.earthquake.bottom_cap.Goals as goal

pub returns : goal.returns
unfolding bottom_cap cap_exact
returns c = c.down.ensures
