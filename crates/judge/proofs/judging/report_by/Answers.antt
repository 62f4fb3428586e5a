-- `judge::judging::report_by` meets its contract. Assumes nothing.
use mathlib.Core.Path.{◌∙◌, ap}
use Rattle.std.specs.Prelude.{Ok}
use Rattle.claims.proofs.JudgeLaws.{judge_above, judge_done}
use Rattle.judge.proofs.judging.report_by.Goals as goal

pub returns-then-e : goal.returns-then-e
returns-then-e c = judge_above c.args.method c.args.e c.if-e.true

pub returns : goal.returns
returns c = ap Ok c.report.ensures ∙ judge_done c.args.method c.args.e c.if-e.false
