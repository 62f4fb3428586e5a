-- The loop's invariant: the courses passed are stored.
use mathlib.Core.Path.{◌≡◌}
use lib.Seq.{sets}
use lib.ListN.{take}
use Rattle.layout.specs.Numbers.{fours}
use Rattle.layout.specs.Layout.{courses_figures}
use Rattle.layout.proofs.writing.put_courses.Given as goal

abbrev pub invariant-loop-i : goal.invariant-loop-i
invariant-loop-i l = l.out ≡ sets l.initial.out l.at (fours (courses_figures (take l.i l.courses)))
