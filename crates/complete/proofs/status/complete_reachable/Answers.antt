-- `complete::status::complete_reachable` meets its contract: a shell is not too high for 32 bits. Assumes nothing.
use native.Mathlib.Omega.{arith}
use Rattle.sheet.proofs.ReachLaws.{reach_slots}
use Rattle.complete.proofs.status.complete_reachable.Goals as goal

pub overflow_cast-result : goal.overflow_cast-result
overflow_cast-result c =
    record { fits = omega (arith, c.requires.height_value, (reach_slots c.args.s c.requires.reached).low) }
