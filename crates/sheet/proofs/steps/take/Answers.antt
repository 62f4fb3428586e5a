-- `sheet::steps::take` meets its contract. Assumes nothing.
use mathlib.Core.Path.{sym, ◌∙◌}
use Rattle.sheet.proofs.StepLaws.{left_reply, refused_reply}
use Rattle.sheet.proofs.AnswerLaws.{stated_clauses}
use Rattle.sheet.proofs.steps.take.Goals as goal

pub returns-in-Ok : goal.returns-in-Ok
returns-in-Ok c =
    let a = c.args in
    let r = stated_clauses a.s a.step (left_reply a.s a.step (sym c.after.ensures ∙ c.in-Ok.is)) in
    record { value = r.0; code = r.1.0; anchors = r.1.1 }

pub returns-in-Err : goal.returns-in-Err
returns-in-Err c =
    let a = c.args in
    let r = stated_clauses a.s a.step (refused_reply a.s a.step (sym c.after.ensures ∙ c.in-Err.is)) in
    record { value = r.0; code = r.1.0; anchors = r.1.1 }
