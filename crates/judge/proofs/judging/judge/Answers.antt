-- `judge::judging::judge` meets its contract. Assumes nothing.
use mathlib.Core.Path.{◌∙◌, ap, sym, subst}
use Rattle.sheet.specs.Complete.{entries_of}
use Rattle.sheet.proofs.CompleteLaws.{entries_are, completed_valid}
use Rattle.claims.specs.Judging.{judged_completed}
use Rattle.claims.specs.Meets.{JustifiedBy}
use Rattle.claims.proofs.JudgeLaws.{judged_completed_lem}
use Rattle.claims.proofs.ClaimLaws.{completed_justified_by, judge_clauses}
use Rattle.judge.proofs.judging.judge.Goals as goal

pub judge_completed-requires : goal.judge_completed-requires
judge_completed-requires c = λ e k. completed_valid c.args.s c.of_sheet.ensures.value k

pub returns : goal.returns
returns c =
    let n = c.args.method in
    let s = c.args.s in
    let first = c.of_sheet.ensures.value in
    let q = judge_clauses n s
    (c.judge_completed.ensures.value ∙ ap (judged_completed n) first ∙ sym (judged_completed_lem n s))
    (subst (JustifiedBy n (entries_of s)) (sym c.judge_completed.ensures.value)
    (completed_justified_by (entries_of s) c.of_sheet.result (λ e k. (entries_are s first k, completed_valid s first k)) n)) in
    record { value = q.0; code = q.1.0; justified_by = q.1.1 }
