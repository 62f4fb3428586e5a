-- `judge::judging::judge_completed` meets its contract. Assumes nothing.
use mathlib.Core.Path.{◌∙◌, ap, sym}
use Rattle.std.specs.Prelude.{Err}
use Rattle.claims.proofs.JudgeLaws.{with_report, without_report}
use Rattle.claims.proofs.ClaimLaws.{completed_clauses}
use Rattle.reports.specs.declared.report.Report.{Report}
use Rattle.judge.proofs.judging.judge_completed.Goals as goal

pub returns-in-Ok : goal.returns-in-Ok
returns-in-Ok c =
    let a = c.args in
    let q = completed_clauses a.method a.c c.requires (with_report a.method a.c (sym c.report_for.ensures ∙ c.in-Ok.is)) in
    record { value = q.0; code = q.1.0; justified_by = q.1.1 }

pub returns-in-Err : goal.returns-in-Err
returns-in-Err c =
    let a = c.args in
    let q = completed_clauses a.method a.c c.requires
    (ap (λ (r : Report). record { answer = Err c.in-Err.refusal; report = r }) c.blank.ensures
    ∙ without_report a.method a.c (sym c.report_for.ensures ∙ c.in-Err.is)) in
    record { value = q.0; code = q.1.0; justified_by = q.1.1 }
