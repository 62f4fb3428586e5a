-- The loop's invariant: the figures that were read are the first k of those that stand there.
use mathlib.Core.Path.{◌≡◌}
use lib.ListN.{length, take, drop}
use Rattle.layout.specs.Numbers.{figures_in}
use Rattle.layout.proofs.reading.entry_at.Given as goal

abbrev pub invariant-loop-k : goal.invariant-loop-k
invariant-loop-k g l = record {
  size : length l.figures ≡ g.row.N;
  read : take l.k l.figures ≡ figures_in l.k (drop l.at l.bytes);
}
