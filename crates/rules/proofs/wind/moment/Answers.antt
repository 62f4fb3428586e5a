-- `rules::wind::moment` meets its contract: the largest product, 6,480 × 240,000 × 76,800 × 76,800, fits 64 bits. Assumes nothing.
use native.Mathlib.Nat.{mul-le-mul}
use Rattle.exact.proofs.Products.{mul_fits}
use Rattle.rules.specs.Wind.{moment_of}
use Rattle.rules.proofs.wind.moment.Goals as goal

pub overflow_mul-pressure : goal.overflow_mul-pressure
overflow_mul-pressure c = mul_fits c.requires.pressure_le_most_pressure c.requires.diameter_in.1 tt

pub overflow_mul-pressure-3 : goal.overflow_mul-pressure-3
overflow_mul-pressure-3 c = mul_fits (mul-le-mul (mul-le-mul c.requires.pressure_le_most_pressure c.requires.diameter_in.1) c.requires.height_le_most_height) c.requires.height_le_most_height tt

pub returns : goal.returns
unfolding moment_of
returns c = c.up.ensures
