-- What is held at the front of the buffer is less than a whole sheet, but after a stop.
use Rattle.std.proofs.Common.{◌≡◌, ◌+◌, ◌*◌, ◌-◌, ◌≤◌, ◌<◌, length, take}
use Rattle.tally.specs.Parts.{Within}
use Rattle.tally.specs.Stream.{SoFar}
use Rattle.tally.proofs.stream.read_all.Given as goal

abbrev pub invariant-loop-progress : goal.invariant-loop-progress
invariant-loop-progress g l = record {
  within : Within l.progress;
  size : length l.buffer ≡ length l.initial.buffer;
  inside : l.held ≤ length l.buffer;
  short : 0 < l.progress.room → l.held ≤ 65536;
  so_far : SoFar (length l.initial.buffer) (g.R.Read.remaining l.initial.input) (g.R.Read.remaining l.input) l.progress (take l.held l.buffer);
}

abbrev pub decreases-loop-progress : goal.decreases-loop-progress
decreases-loop-progress g l = l.progress.room * (length l.initial.buffer + 1) + (length l.initial.buffer - l.held)
