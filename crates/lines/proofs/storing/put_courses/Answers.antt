-- `lines::storing::put_courses` meets its contract. Assumes nothing.
use native.Mathlib.Omega.{arith}
use Rattle.lines.proofs.TextLaws.{courses_more}
use Rattle.words.proofs.StoreLaws.{at_most}
use Rattle.lines.proofs.storing.put_courses.Goals as goal

pub loop-i-preserved : goal.loop-i-preserved
loop-i-preserved c =
    at_most (courses_more c.args.lines.now c.loop-i.i _ (omega arith) c.loop-i.invariant c.put_course-to.ensures) (omega arith)
