-- `ground::motion::design_values` meets its contract. Assumes nothing.
use Prim.Native.Nat.{ℕ, ◌^◌, ◌<◌}
use native.Mathlib.Omega.{arith}
use Rattle.exact.specs.Quotient.{up_of}
use Rattle.exact.proofs.QuotientLaws.{up_near}
use Rattle.ground.specs.Motion.{vertical_of}
use Rattle.ground.proofs.MotionLaws.{worked_out}
use Rattle.ground.proofs.motion.design_values.Goals as goal

-- whatever the factor, a quotient of this size fits 32 bits
bounded : (n : ℕ) → n < 2 ^ 50 → up_of n 3750000 < 2 ^ 32
bounded n h = omega (arith, up_near n 3750000 (omega arith))

pub overflow_cast-vertical : goal.overflow_cast-vertical
overflow_cast-vertical c = record { fits = rw c.up-vertical.ensures (bounded _ (omega arith)) }

pub returns : goal.returns
unfolding vertical_of
returns c = worked_out _ _ _ c.adjusted-sds.ensures c.adjusted-sd1.ensures c.up-vertical.ensures
