-- `lines::storing::put_standing` meets its contract. Assumes nothing.
use Rattle.lines.specs.Text.{anchor_line}
use Rattle.lines.proofs.TextLaws.{line_alone}
use Rattle.words.proofs.StoreLaws.{then}
use Rattle.lines.proofs.storing.put_standing.Goals as goal

pub returns-in-Anchored : goal.returns-in-Anchored
returns-in-Anchored c =
    rw c.in-Anchored.is (then c.put_pulls.ensures (line_alone (anchor_line c.in-Anchored.c) c.put_anchors.ensures))
