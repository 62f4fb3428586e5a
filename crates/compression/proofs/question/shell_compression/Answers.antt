-- `compression::question::shell_compression` meets its contract. Assumes nothing.
use mathlib.Core.Path.{refl, ◌∙◌}
use Rattle.fields.proofs.OrderLaws.{passed_on}
use Rattle.sheet.proofs.CompleteLaws.{completed_valid}
use Rattle.claims.proofs.JudgeLaws.{accepted_entries}
use Rattle.compression.proofs.CompressionLaws.{refused_first, accepted_first, compression_clauses}
use Rattle.compression.proofs.question.shell_compression.Goals as goal

pub judge_completed-judgement-requires : goal.judge_completed-judgement-requires
judge_completed-judgement-requires c = λ e k. completed_valid c.args.s c.of_sheet-completed.ensures.value k

pub returns-in_err-judgement : goal.returns-in_err-judgement
returns-in_err-judgement c =
    let n = c.args.method in
    let s = c.args.s in
    let q = compression_clauses n s (passed_on _ _ c.from_residual.ensures.1
    ∙ refused_first n s c.of_sheet-completed.ensures.value c.judge_completed-judgement.ensures.value c.in_err-judgement.was) in
    record { value = q.0; code = q.1.0; reply_justified = q.1.1 }

pub unwrap-requires : goal.unwrap-requires
unwrap-requires c =
    rw (accepted_entries c.args.method c.args.s c.of_sheet-completed.ensures.value c.judge_completed-judgement.ensures.value c.in_ok-judgement.was) refl

pub unless_uplifted-requires : goal.unless_uplifted-requires
unless_uplifted-requires c = completed_valid c.args.s c.of_sheet-completed.ensures.value c.unwrap.ensures

pub returns : goal.returns
returns c =
    let n = c.args.method in
    let s = c.args.s in
    let q = compression_clauses n s
    (c.unless_uplifted.ensures ∙ (rw c.unwrap.ensures at (accepted_first n s c.of_sheet-completed.ensures.value c.judge_completed-judgement.ensures.value c.in_ok-judgement.was))) in
    record { value = q.0; code = q.1.0; reply_justified = q.1.1 }
