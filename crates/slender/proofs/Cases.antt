-- The answers of the cases, computed by the checker, and the margin at literal figures.
-- Assumes nothing.
use mathlib.Core.Path.{refl}
use Prim.Native.Nat.{ℕ, suc, ◌+◌, ◌-◌, ◌*◌, ◌≤◌, ◌<◌}
use native.Mathlib.Nat.{lt_of_mul-lt-mul_right, lt_of_not-le}
use native.Mathlib.Decide.{dec_le}
use native.Mathlib.Omega.{arith}
use Rattle.exact.specs.Quotient.{Ratio, whole, up_of}
use Rattle.exact.specs.Fraction.{◌<ʳ◌}
use Rattle.exact.specs.Root.{root_of, root_up, AtLeastRoot}
use Rattle.exact.specs.Greatest.{greatest_below}
use Rattle.exact.proofs.RootLaws.{root_lt}
use Rattle.fields.specs.Range.{within, between}
use Rattle.slender.specs.Weights.{impulsive_exact, impulsive_weight, impulsive_height, convective_exact, convective_weight}
use Rattle.slender.specs.Moments.{impulsive_with, impulsive_moment, convective_with, convective_moment, moments_squared, moment_of, unrounded_square}
use Rattle.slender.specs.Question.{earthquake_moment}
use Rattle.slender.specs.Cases.{Answered, moment_cases, end_cases, convective_far, MarginPinned, UnroundedPinned, PromisedFar}

pub cases_answered : Answered moment_cases × Answered end_cases
unfolding within between up_of root_of root_up greatest_below impulsive_exact impulsive_weight impulsive_height convective_exact convective_weight impulsive_with impulsive_moment convective_with convective_moment moments_squared moment_of earthquake_moment
cases_answered = (refl, refl)

pub margin_pinned : MarginPinned
margin_pinned = record { within = record { safe = omega arith; near = λ h. omega arith }; at = λ a. omega (arith, a.near (omega arith)) }

pub unrounded_pinned : UnroundedPinned
unfolding up_of impulsive_exact impulsive_weight impulsive_height convective_exact convective_weight impulsive_with convective_with unrounded_square
unrounded_pinned =
    record {
      impulsive = record { above = omega arith; below = omega arith };
      convective = record { above = omega arith; below = omega arith };
    }

-- r is at least the root of s, and less than m above it: where that root is above k and below k + 1, r is above k and at most m above it
between_roots : (s : Ratio) (k m r : ℕ) → whole (k * k) <ʳ s → s <ʳ whole (suc k * suc k) → AtLeastRoot s m r → (k < r) × (r ≤ k + m)
between_roots s k m r above below a = (root_lt k r (lt_of_mul-lt-mul_right s.den (omega (arith, above, a.safe))), decided (dec_le m r))
  where
    decided : Dec (m ≤ r) → r ≤ k + m
    decided (yes h) = omega (arith, root_lt (r - m) (suc k) (lt_of_mul-lt-mul_right s.den (omega (arith, below, a.near h))))
    decided (no f) = omega (arith, lt_of_not-le f)

pub promised_far : PromisedFar
promised_far M j =
    let u = unrounded_pinned.convective in
    let h = between_roots (unrounded_square convective_far.tank convective_far.ground) 197723394 100 M u.above u.below j.near_unrounded in
    (omega (arith, h.0), omega (arith, h.1))
