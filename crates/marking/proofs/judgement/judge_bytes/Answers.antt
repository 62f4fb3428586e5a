-- `marking::judgement::judge_bytes` meets its contract. Assumes nothing.
use Rattle.marking.proofs.MarkLaws.{bytes_valid, mark_clauses}
use Rattle.marking.proofs.judgement.judge_bytes.Goals as goal

pub judge_completed-requires : goal.judge_completed-requires
judge_completed-requires c = bytes_valid c.args.bytes.now c.of_bytes.ensures.value

pub returns : goal.returns
returns c =
    let q = mark_clauses c.args.bytes.now c.of_bytes.ensures.value c.judge_completed.ensures.value in
    record { value = q.0; code = q.1.0; justified = q.1.1 }
