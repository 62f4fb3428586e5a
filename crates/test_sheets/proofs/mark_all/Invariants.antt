-- What is held stands at the front of the buffer.
use Rattle.std.proofs.Common.{◌≤◌, length}
use Rattle.test_sheets.proofs.mark_all.Given as goal

abbrev pub invariant-loop : goal.invariant-loop
invariant-loop g l = l.held ≤ length l.input
