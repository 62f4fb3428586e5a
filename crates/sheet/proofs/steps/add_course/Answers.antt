-- `sheet::steps::add_course` meets its contract. Assumes nothing.
use native.Mathlib.Omega.{arith}
use Rattle.sheet.proofs.ReachLaws.{reach_slots}
use Rattle.sheet.proofs.steps.add_course.Goals as goal

pub added_flaw-requires : goal.added_flaw-requires
added_flaw-requires c = omega (arith, c.height.ensures, (reach_slots c.args.s c.requires).low)
