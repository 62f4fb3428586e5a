-- The loop's invariant: the figures passed are stored.
use mathlib.Core.Path.{◌≡◌}
use lib.Seq.{sets}
use lib.ListN.{take}
use Rattle.layout.specs.Numbers.{fours}
use Rattle.layout.proofs.writing.put_fours.Given as goal

abbrev pub invariant-loop-i : goal.invariant-loop-i
invariant-loop-i l = l.out ≡ sets l.initial.out l.at (fours (take l.i l.figures))
