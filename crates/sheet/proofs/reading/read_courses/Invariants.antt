-- The loop's invariant: the courses not yet read, on the sheet of those that are, have the answer of all of them; the height is that of
-- those that are.
use mathlib.Core.Path.{◌≡◌}
use Prim.Native.Nat.{◌≤◌}
use lib.ListN.{length, take}
use Rattle.entries.specs.Sheet.{height_of}
use Rattle.layout.specs.declared.version.Version.TheVariants.{Two}
use Rattle.sheet.specs.Steps.{in_turn}
use Rattle.sheet.specs.Reading.{from_courses, before_courses}
use Rattle.sheet.proofs.ReadLaws.{with, from}
use Rattle.sheet.proofs.reading.read_courses.Given as goal

abbrev pub invariant-loop-i : goal.invariant-loop-i
invariant-loop-i l = record {
  slots : length l.courses ≡ 12;
  height : l.height ≡ height_of (take l.i l.courses);
  low : l.height ≤ 76800;
  rest : in_turn Two (before_courses l.tank l.site l.anchors) (from_courses l.n l.tail) ≡ in_turn Two (with l.tank l.site l.anchors l.courses l.i) (from l.tail l.n l.i);
}
