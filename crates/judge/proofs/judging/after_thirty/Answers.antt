-- `judge::judging::after_thirty` meets its contract. Assumes nothing.
use mathlib.Core.Path.{◌∙◌, sym}
use Rattle.claims.proofs.JudgeLaws.{by_thirty, by_refused, by_other}
use Rattle.judge.proofs.judging.after_thirty.Goals as goal

pub returns-in-Unreachable : goal.returns-in-Unreachable
returns-in-Unreachable c = rw c.in-Unreachable.is (by_thirty c.args.method)

pub returns-in-Ok : goal.returns-in-Ok
returns-in-Ok c = by_refused c.args.method (sym c.try_from.ensures.value ∙ c.in-Ok.is) c.args.refusal

pub returns-in-Err : goal.returns-in-Err
returns-in-Err c =
    by_other c.args.method (sym c.try_from.ensures.value ∙ c.in-Err.is) c.args.refusal c.in_default.not-Unreachable
