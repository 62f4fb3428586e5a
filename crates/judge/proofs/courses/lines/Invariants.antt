-- The loop's invariant: the bottom edge of the next course, and the lines of those passed.
use mathlib.Core.Path.{◌≡◌}
use lib.ListN.{take}
use Rattle.lists.specs.Pad.{padded}
use Rattle.entries.specs.Sheet.{height_of}
use Rattle.reports.specs.Blank.{blank_line}
use Rattle.claims.specs.Report.{lines_of}
use Rattle.judge.proofs.courses.lines.Given as goal

abbrev pub invariant-loop-i : goal.invariant-loop-i
invariant-loop-i l = record {
  edge : l.edge ≡ height_of (take l.i l.e.courses);
  lines : l.all ≡ padded blank_line (lines_of l.method l.e.tank 0 (take l.i l.e.courses));
}
