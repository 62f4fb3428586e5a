-- The root is at least n, and below n + 2 ^ k.
use Prim.Native.Nat.{◌+◌, ◌*◌, ◌^◌, ◌≤◌, ◌<◌}
use Rattle.exact.proofs.root.greatest_root.Given as goal

abbrev pub invariant-loop-k : goal.invariant-loop-k
invariant-loop-k l =
    (l.n * l.n ≤ l.square) × (l.square < (l.n + 2 ^ l.k) * (l.n + 2 ^ l.k)) × (l.n + 2 ^ l.k ≤ 2 ^ 32) × (l.k ≤ 32)
