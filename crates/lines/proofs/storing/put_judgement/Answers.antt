-- `lines::storing::put_judgement` meets its contract. Assumes nothing.
use Rattle.fields.specs.Refusal.{code_of}
use Rattle.lines.specs.Text.{text_of, refusal_line}
use Rattle.lines.proofs.TextLaws.{line_alone}
use Rattle.lines.proofs.storing.put_judgement.Goals as goal

pub returns-in-Ok : goal.returns-in-Ok
unfolding text_of
returns-in-Ok c = rw c.in-Ok.is c.put_report.ensures

pub returns-in-Err : goal.returns-in-Err
unfolding text_of
returns-in-Err c = rw c.in-Err.is (line_alone (refusal_line (code_of c.in-Err.refusal)) c.put_refusal.ensures)
