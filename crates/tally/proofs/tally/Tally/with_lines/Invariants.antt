-- Sum and least with the courses passed so far.
use mathlib.Core.Path.{◌≡◌}
use mathlib.Core.List.{map}
use lib.ListN.{take}
use lib.IntN.{◌+ℤ◌}
use Rattle.tally.specs.Tally.{difference, sum_of, least_of}
use Rattle.tally.specs.Parts.{lesser}
use Rattle.tally.proofs.tally.Tally.with_lines.Given as goal

abbrev pub invariant-loop-line : goal.invariant-loop-line
invariant-loop-line l = record {
  sum : l.sum ≡ l.self.sum +ℤ sum_of (map difference (take l.line-index l.lines));
  least : l.least ≡ lesser l.self.least (least_of (map difference (take l.line-index l.lines)));
}
