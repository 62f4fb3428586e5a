-- `tally::stream::read_all` meets its contract. Assumes nothing.
use Rattle.std.proofs.Common.{ℕ, List, refl, ap, ◌∙◌}
use Prim.Native.Nat.{◌+◌}
use native.Mathlib.Omega.{arith}
use lib.ListN.{length}
use lib.Seq.{length-take-le}
use Rattle.tally.proofs.StreamLaws.{start_within, none_given, more_given, all_given, stopped, failed, smaller}
use Rattle.tally.proofs.stream.read_all.Goals as goal

pub loop-progress-init : goal.loop-progress-init
loop-progress-init g c =
    rw c.start-progress.ensures (record { within = start_within; size = refl; inside = omega arith; short = λ h. omega arith; so_far = none_given _ _ })

pub returns-in_err-n : goal.returns-in_err-n
returns-in_err-n g c = failed c.loop-progress.invariant.so_far c.loop-progress-test.true (c.read_behind.ensures.size ∙ c.loop-progress.invariant.size) _ c.read_behind.ensures.behind c.from_residual.ensures.0

pub returns-then-n-eq0 : goal.returns-then-n-eq0
returns-then-n-eq0 g c = all_given c.loop-progress.invariant.so_far c.loop-progress-test.true (c.read_behind.ensures.size ∙ c.loop-progress.invariant.size) c.in_ok-n.ensures.behind c.if-n-eq0.true c.take.ensures.value

pub loop-progress-smaller : goal.loop-progress-smaller
loop-progress-smaller g c =
    let l = c.loop-progress in
    let y = c.take-taken.ensures in
    let n = c.keep-held.ensures in
    let long = length-take-le (l.held + c.in_ok-n.n) c.read_behind.new.buffer c.in_ok-n.ensures.behind.behind.0 in
    smaller l.progress c.take-taken.result.progress (length c.args.buffer.now) l.held c.take-taken.result.used c.keep-held.result _ c.loop-progress-test.true y.value (omega (arith, n.count, y.used, long)) (omega (arith, long)) (omega (arith, long, c.in_ok-n.ensures.behind.behind.0, c.read_behind.ensures.size, l.invariant.size))

pub loop-progress-preserved : goal.loop-progress-preserved
loop-progress-preserved g c =
    let i = c.loop-progress.invariant in
    let y = c.take-taken.ensures in
    let n = c.keep-held.ensures in
    let behind = c.in_ok-n.ensures.behind in
    let long = length-take-le (c.loop-progress.held + c.in_ok-n.n) c.read_behind.new.buffer behind.behind.0 in
    record {
      within = y.within;
      size = n.size ∙ c.read_behind.ensures.size ∙ i.size;
      inside = omega (arith, n.count, n.size, behind.behind.0);
      short = λ h. omega (arith, n.count, long, y.short refl h);
      so_far = more_given i.so_far c.loop-progress-test.true (c.read_behind.ensures.size ∙ i.size) behind (ap (λ (b : List ℕ). record { progress = c.take-taken.result.progress; rest = b }) n.kept ∙ y.value);
    }

pub returns : goal.returns
returns g c = stopped c.loop-progress.invariant.so_far (omega arith)
