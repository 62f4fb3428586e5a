-- `layout::writing::put_courses` meets its contract. Assumes nothing.
use mathlib.Core.Path.{◌∙◌, ap}
use Prim.Native.Nat.{◌+◌, ◌*◌}
use native.Mathlib.Omega.{arith}
use lib.Seq.{sets}
use lib.ListN.{get_or}
use Rattle.entries.specs.Sheet.{blank_course, course_figures}
use Rattle.layout.specs.Numbers.{fours}
use Rattle.layout.proofs.LayoutLaws.{courses_stored}
use Rattle.layout.proofs.writing.put_courses.Goals as goal

pub loop-i-preserved : goal.loop-i-preserved
loop-i-preserved c =
    let l = c.loop-i in
    let a = c.args in
    c.put_fours.ensures
    ∙ ap (λ f. sets l.out (a.at + 20 * l.i) (fours f)) c.figures.ensures
    ∙ ap (λ o. sets o (a.at + 20 * l.i) (fours (course_figures (get_or a.courses.now l.i blank_course)))) l.invariant
    ∙ courses_stored a.out.now a.at a.courses.now l.i (omega arith)
