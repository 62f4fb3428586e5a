-- What is left is a part of the sheets; the texts so far lie in the buffer.
use Rattle.std.proofs.Common.{◌≤◌, length}
use Rattle.test_sheets.proofs.mark_sheets.Given as goal

abbrev pub invariant-loop-sheet : goal.invariant-loop-sheet
invariant-loop-sheet g l = (length l.rest ≤ length l.sheets) × (l.used ≤ length l.out)

abbrev pub decreases-loop-sheet : goal.decreases-loop-sheet
decreases-loop-sheet g l = length l.rest
