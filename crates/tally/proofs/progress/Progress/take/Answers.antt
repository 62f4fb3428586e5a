-- `tally::progress::Progress::take` meets its contract. Assumes nothing.
use mathlib.Core.Path.{sym, ap, ◌∙◌}
use Prim.Native.Nat.{ℕ, min}
use native.Mathlib.Omega.{arith}
use lib.ListN.{length}
use Rattle.tally.proofs.MeasuredLaws.{marked_measured}
use Rattle.tally.proofs.PartLaws.{passed_within, sheet_taken, last_taken, all_taken, end_of}
use Rattle.tally.proofs.progress.Progress.take.Goals.{then-loop-progress-test+else-is_ready, else-loop-progress-test}
use Rattle.tally.proofs.progress.Progress.take.Goals as goal

pub passed-progress-requires-clause-measured : goal.passed-progress-requires-clause-measured
passed-progress-requires-clause-measured c = marked_measured _ c.judge_bytes-judgement.ensures.value

pub loop-progress-preserved : goal.loop-progress-preserved
loop-progress-preserved c =
    let i = c.loop-progress.invariant in
    let b = c.loop-progress.rest.now in
    let split = c.split_at.ensures in
    let value = c.judge_bytes-judgement.ensures.value in
    record {
      within = rw c.passed-progress.ensures (passed_within _ _ i.within (omega arith) (marked_measured _ value));
      size = omega (arith, i.size, split.back_len);
      rest = end_of c.args.part.now i.rest i.size split.back (omega arith);
      value =
          sheet_taken c.loop-progress.progress c.args.ended b (omega arith) (sym c.is_ready.ensures.value ∙ c.if-is_ready.true) (c.min.ensures ∙ ap (λ (n : ℕ). min n (length b)) c.own_length.ensures.value) split.front split.back value c.passed-progress.ensures
          ∙ i.value;
    }

pub returns-then-progress-eq0-clause-value : goal.returns-then-progress-eq0-clause-value
returns-then-progress-eq0-clause-value c =
    let l = c.loop-progress in
    all_taken l.progress c.args.ended c.args.part.now l.rest.now (omega arith) ∙ l.invariant.value

pub returns-clause-value : goal.returns-clause-value
returns-clause-value c =
    let i = c.loop-progress.invariant in
    elim c.loop-progress-test.branch [
      | then-loop-progress-test+else-is_ready w ↦ last_taken c.loop-progress.progress c.args.ended c.args.part.now i.rest (omega arith) (sym w.is_ready.ensures.value ∙ w.if-is_ready.false) ∙ i.value
      | else-loop-progress-test w ↦ absurd (omega arith)
    ]
