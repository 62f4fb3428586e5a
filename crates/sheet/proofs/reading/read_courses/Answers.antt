-- `sheet::reading::read_courses` meets its contract. Assumes nothing.
use mathlib.Core.List.{[], ◌∷◌}
use mathlib.Core.Path.{◌∙◌, ap, sym}
use Prim.Native.Nat.{◌+◌}
use native.Mathlib.Omega.{arith}
use lib.ListN.{length-set}
use borrow.Author.Tests.{ltb-false}
use Rattle.fields.proofs.OrderLaws.{first_append, first_cons, passed_on}
use Rattle.flaws.specs.Flaws.{too_high, course_flaws}
use Rattle.entries.proofs.CourseLaws.{height_set}
use Rattle.sheet.specs.Reading.{with_height}
use Rattle.sheet.proofs.ReadLaws.{course_refused, course_accepted}
use Rattle.sheet.proofs.reading.read_courses.Goals as goal

pub returns-in_err-added_flaw : goal.returns-in_err-added_flaw
returns-in_err-added_flaw c =
    let l = c.loop-i in
    let a = c.args in
    passed_on _ _ c.from_residual.ensures.1
    ∙ ap with_height (sym (l.invariant.rest ∙ course_refused a.tank a.site a.anchors a.tail.now a.n l.i l.courses (omega arith) (omega arith) c.entry_at-c.ensures l.invariant.height c.added_flaw.ensures c.in_err-added_flaw.was))

pub loop-i-preserved : goal.loop-i-preserved
loop-i-preserved c =
    let l = c.loop-i in
    let a = c.args in
    let k = c.entry_at-c.result in
    let ok = c.in_ok-added_flaw.was in
    let o = first_append (course_flaws k) (too_high l.height k ∷ []) (sym c.added_flaw.ensures ∙ ok) in
    record {
      slots = length-set l.courses l.i k ∙ l.invariant.slots;
      height = omega (arith, l.invariant.height, height_set l.courses l.i k (omega (arith, l.invariant.slots)), c.from-height.ensures);
      low = omega (arith, ltb-false 76800 (l.height + k.width) (first_cons (too_high l.height k) [] o.1).0, c.from-height.ensures);
      rest = l.invariant.rest ∙ course_accepted a.tank a.site a.anchors a.tail.now a.n l.i l.courses (omega arith) (omega arith) c.entry_at-c.ensures l.invariant.height c.added_flaw.ensures ok;
    }
