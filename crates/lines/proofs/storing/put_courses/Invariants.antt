-- The lines of the courses up to `i` have been appended.
use Prim.Native.Nat.{◌*◌}
use lib.ListN.{take}
use Rattle.lines.specs.Text.{text, course_lines}
use Rattle.words.specs.Stored.{Appends}
use Rattle.lines.proofs.storing.put_courses.Given as goal

abbrev pub invariant-loop-i : goal.invariant-loop-i
invariant-loop-i l = Appends (97 * l.i) l.initial.to (text (course_lines 1 (take l.i l.lines))) l.to
