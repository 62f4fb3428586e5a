-- `ground::chart::coefficient` meets its contract. Assumes nothing.
use mathlib.Core.Path.{◌≡◌, ◌∙◌, sym}
use Prim.Native.Nat.{ℕ, suc, ◌-◌, ◌/◌}
use native.Mathlib.Omega.{arith}
use Rattle.ground.proofs.ChartLaws.{at_first, at_last, at_line}
use Rattle.ground.proofs.chart.coefficient.Goals as goal

pub returns-then-x-s : goal.returns-then-x-s
returns-then-x-s c = record {
  value = c.times.ensures.value ∙ sym (at_first _ _ _ c.if-x-s.true);
  upper_bound = omega (arith, c.times.ensures.upper_bound);
}

pub returns-then-s-x : goal.returns-then-s-x
returns-then-s-x c = record {
  value = c.times-then-s-x.ensures.value ∙ sym (at_last _ _ _ c.if-x-s.false c.if-s-x.true);
  upper_bound = omega (arith, c.times-then-s-x.ensures.upper_bound);
}

next : (k : ℕ) → suc k - 1 ≡ k
next k = omega arith

pub returns : goal.returns
returns c =
    let k = c.args.x / c.args.step in
    record {
      value = rw (c.times-left.ensures.value, c.times-right.ensures.value, at_line _ _ _ c.if-x-s.false c.if-s-x.false, next k);
      upper_bound = omega (arith, c.times-left.ensures.upper_bound, c.times-right.ensures.upper_bound);
    }
