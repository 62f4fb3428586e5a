-- `stability::earthquake::bottom_root` meets its contract: the products fit. Assumes nothing.
use Rattle.stability.specs.Earthquake.{bottom_root, root_most}
use Rattle.stability.proofs.EarthquakeLaws.{root_fits}
use Rattle.stability.proofs.earthquake.bottom_root.Goals as goal

pub overflow_mul-tb-4 : goal.overflow_mul-tb-4
unfolding root_most
overflow_mul-tb-4 c = record { fits = root_fits _ _ _ c.requires.plate_le_most_plate c.requires.yield_stress_le_most_yield c.requires.level_in }

pub returns : goal.returns
unfolding bottom_root root_most
returns c = c.greatest_root.ensures
