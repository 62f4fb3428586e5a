-- `judge::judging::report_for` meets its contract. Assumes nothing.
use mathlib.Core.Path.{◌∙◌, ap, sym}
use Rattle.fields.proofs.OrderLaws.{passed_on}
use Rattle.claims.specs.Judging.{report_for}
use Rattle.claims.proofs.JudgeLaws.{by_entries, by_other_entries}
use Rattle.judge.proofs.judging.report_for.Goals as goal

pub returns-in_err-try_from-in-Ok : goal.returns-in_err-try_from-in-Ok
returns-in_err-try_from-in-Ok c =
    passed_on _ _ c.from_residual.ensures.1
    ∙ by_other_entries c.args.method (sym c.try_from.ensures.value ∙ c.in_err-try_from-in-Ok.was) c.in-Ok.e
    ∙ ap (report_for c.args.method) (sym c.in-Ok.is)

pub returns-in_ok-try_from-in-Ok : goal.returns-in_ok-try_from-in-Ok
returns-in_ok-try_from-in-Ok c =
    c.report_by.ensures
    ∙ by_entries c.args.method (sym c.try_from.ensures.value ∙ c.in_ok-try_from-in-Ok.was) c.in-Ok.e
    ∙ ap (report_for c.args.method) (sym c.in-Ok.is)
