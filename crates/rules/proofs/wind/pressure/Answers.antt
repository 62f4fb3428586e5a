-- `rules::wind::pressure` meets its contract: the products fit. Assumes nothing.
use native.Mathlib.Nat.{mul-le-mul}
use native.Mathlib.Omega.{arith}
use Rattle.exact.proofs.Products.{mul_fits}
use Rattle.rules.specs.Wind.{pressure_of}
use Rattle.rules.proofs.wind.pressure.Goals as goal

pub overflow_mul-num-4 : goal.overflow_mul-num-4
overflow_mul-num-4 c =
    let v = c.requires.speed_in.1 in mul_fits (mul-le-mul (mul-le-mul {n₂ = 900} (omega arith) c.requires.importance_in.1) v) v tt

pub returns : goal.returns
unfolding pressure_of
returns c = omega (arith, c.up.ensures, c.max.ensures)
