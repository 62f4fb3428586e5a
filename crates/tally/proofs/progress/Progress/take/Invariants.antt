-- What is left is the end of the part, and comes to what the whole part comes to.
use mathlib.Core.Path.{◌≡◌}
use Prim.Native.Nat.{◌-◌, ◌≤◌}
use lib.ListN.{length, drop}
use Rattle.tally.specs.Parts.{after_part, Within}
use Rattle.tally.proofs.progress.Progress.take.Given as goal

abbrev pub invariant-loop-progress : goal.invariant-loop-progress
invariant-loop-progress l = record {
  within : Within l.progress;
  size : length l.rest ≤ length l.part;
  rest : l.rest ≡ drop (length l.part - length l.rest) l.part;
  value : after_part l.progress.room l.progress.tally l.ended l.rest ≡ after_part l.fn.self.room l.fn.self.tally l.ended l.part;
}

abbrev pub decreases-loop-progress : goal.decreases-loop-progress
decreases-loop-progress l = l.progress.room
