-- The argument's printed fraction, reduced and rounded; the chart's entries, each the greatest that passes; and with both, that the coefficient
-- taken from the chart is never above the printed one.
-- Assumes nothing.
use mathlib.Core.Path.{◌≡◌, sym, ◌∙◌, subst}
use mathlib.Core.Bool.{not}
use Prim.Native.Nat.{ℕ, ◌+◌, ◌*◌, ◌^◌, ◌≤◌, ◌<◌, min, zero-le}
use native.Mathlib.Nat.{div-le_of_le-mul, lt_of_le_of_lt, lt_of_not-le, min-le_left, min-le_right, mul-le-mul, mul-le-mul_left, mul-le-mul_right, zero-mul}
use native.Mathlib.Decide.{dec_le}
use native.Mathlib.Omega.{arith}
use lib.Dec.{T, T_not, not_T, le→leb, leb→le, lit<}
use Rattle.exact.specs.Quotient.{Ratio, whole, down_of, AtMost}
use Rattle.exact.specs.Fraction.{◌over◌, times, power, ◌≤ʳ◌}
use Rattle.exact.proofs.FractionLaws.{≤ʳ-trans, power_le, le_of_power}
use Rattle.exact.proofs.GreatestLaws.{greatest_found}
use Rattle.exact.proofs.QuotientLaws.{rounded_down, down_same}
use Rattle.fields.specs.Range.{In}
use Rattle.buckling.specs.Bounds.{most_coefficient}
use Rattle.buckling.specs.Coefficient.{argument_exact, argument_of, printed_power, AtLeastPrinted, hundred_thousandths, passes, Entry, last_place, entry_at, coefficient_of}
use Rattle.buckling.proofs.PowerLaws.{printed_grows, power_above}

module _ (H G D t : ℕ) (p : 0 < t) where
  parts_above : 0 < (argument_exact H G D t).den
  unfolding argument_exact
  parts_above = omega (arith, mul-le-mul p p)

  -- at most the printed argument in ten-thousandths, and less than one below it
  pub argument_rounded : AtMost (times (whole 10000) (argument_exact H G D t)) (whole 1) (argument_of H G D t)
  unfolding argument_of
  argument_rounded = rounded_down (times (whole 10000) (argument_exact H G D t)) (omega (arith, parts_above))

  argument_below : (argument_of H G D t over 10000) ≤ʳ argument_exact H G D t
  argument_below = omega (arith, argument_rounded.safe)

  pub argument_reduced : argument_of H G D t ≡ down_of (433 * H * G * (D * D)) (139200000000 * t * t)
  unfolding argument_of argument_exact
  argument_reduced = down_same _ _ _ _ (omega (arith, parts_above)) (omega (arith, mul-le-mul p p)) (omega arith)

  -- the quotient fits 64 bits, its numerator 72
  pub argument_fits : In 2 H → In 20 G → In 1 D → down_of (433 * H * G * (D * D)) (139200000000 * t * t) < 2 ^ 64
  argument_fits h g d =
      lt_of_le_of_lt (div-le_of_le-mul (139200000000 * t * t) {n = 17888580000} (omega (arith, most, mul-le-mul p p))) (omega arith)
    where
      most : 433 * H * G * (D * D) ≤ 2490089472000000000000
      most = mul-le-mul (mul-le-mul (mul-le-mul_left 433 h.1) g.1) (mul-le-mul d.1 d.1)

-- of water (gravity 1,000) it is S-6's
pub water_argument : (H D t : ℕ) → 0 < t → argument_of H 1000 D t ≡ down_of (433 * H * D * D) (139200000 * t * t)
water_argument H D t p =
    argument_reduced H 1000 D t p ∙ down_same _ _ _ _ (omega (arith, mul-le-mul p p)) (omega (arith, mul-le-mul p p)) (omega arith)

-- what the code needs
pub ruleset argument_laws = (argument_reduced, argument_fits)

-- A smaller number passes wherever a larger one does, and one that passes does so at every later place.
smaller_passes : (i e k : ℕ) → e ≤ k → T (passes i k) → T (passes i e)
unfolding passes
smaller_passes i e k h t =
    le→leb _ _
    (≤ʳ-trans (power (hundred_thousandths e) 25) (power (hundred_thousandths k) 25) (printed_power (i over 10000)) (lit< tt)
    (power_le 25 (hundred_thousandths e) (hundred_thousandths k) (mul-le-mul_right 100000 h)) (leb→le _ _ t))

later_passes : (i k e : ℕ) → i ≤ k → T (passes i e) → T (passes k e)
unfolding passes
later_passes i k e h t =
    le→leb _ _
    (≤ʳ-trans (power (hundred_thousandths e) 25) (printed_power (i over 10000)) (printed_power (k over 10000)) (lit< tt)
    (leb→le _ _ t) (printed_grows (i over 10000) (k over 10000) (mul-le-mul_right 10000 h)))

none_passes : (i : ℕ) → T (passes i 0)
unfolding passes
none_passes i = le→leb _ _ (subst (λ (x : ℕ). x ≤ (printed_power (i over 10000)).num * 100000 ^ 25) (sym (zero-mul (printed_power (i over 10000)).den)) zero-le)

-- one more than the last entry fails at the last place, and so at every one
past_last : (i k : ℕ) → i ≤ last_place → most_coefficient < k → T (passes i k) → ⊥
unfolding passes
past_last i k h l t =
    T_not (passes last_place (most_coefficient + 1)) tt
    (smaller_passes last_place (most_coefficient + 1) k (omega arith) (later_passes i last_place k h t))

module _ (i : ℕ) (h : i ≤ last_place) where
  pub entry_is : Entry i (entry_at i)
  unfolding entry_at
  entry_is = greatest_found 13 (passes i) (smaller_passes i) (none_passes i) (not_T (passes i 8192) (past_last i 8192 h (lit< tt)))

  -- the power rule at each entry: it passes, and one more does not
  pub entry_rule : T (passes i (entry_at i)) × T (not (passes i (entry_at i + 1)))
  entry_rule = (entry_is.fits, not_T (passes i (entry_at i + 1)) (λ t. omega (arith, entry_is.most (entry_at i + 1) t)))

  pub entry_most : entry_at i ≤ most_coefficient
  entry_most = within (dec_le (entry_at i) most_coefficient)
    where
      within : Dec (entry_at i ≤ most_coefficient) → entry_at i ≤ most_coefficient
      within (yes l) = l
      within (no f) = absurd (past_last i (entry_at i) h (lt_of_not-le f) entry_is.fits)

module _ (argument : ℕ) where
  place_within : min argument last_place ≤ last_place
  place_within = min-le_right argument last_place

  pub coefficient_entry : Entry (min argument last_place) (coefficient_of argument)
  unfolding coefficient_of
  coefficient_entry = entry_is (min argument last_place) place_within

  pub coefficient_is : (r : ℕ) → r ≡ entry_at (min argument last_place) → r ≡ coefficient_of argument
  unfolding coefficient_of
  coefficient_is r e = e

-- what the code needs
pub ruleset coefficient_laws = (coefficient_is, entry_most)

-- an entry's power
entry_power : (a : ℕ) → power (hundred_thousandths (coefficient_of a)) 25 ≤ʳ printed_power (min a last_place over 10000)
unfolding passes
entry_power a = leb→le _ _ (coefficient_entry a).fits

-- The coefficient for a tank's argument is at most every fraction that is at least the printed one: its 25th power is at most the printed one of
-- the chart's place, which is at or below the argument.
pub coefficient_safe : (H G D t : ℕ) → 0 < t → (c : Ratio) → AtLeastPrinted (argument_exact H G D t) c → hundred_thousandths (coefficient_of (argument_of H G D t)) ≤ʳ c
coefficient_safe H G D t p c printed =
    let x = argument_exact H G D t in
    let argument = argument_of H G D t in
    let place = min argument last_place over 10000 in
    let e = hundred_thousandths (coefficient_of argument) in
    let below : place ≤ʳ x = ≤ʳ-trans place (argument over 10000) x (lit< tt) (mul-le-mul_right 10000 (min-le_left argument last_place)) (argument_below H G D t p) in
    le_of_power 25 e c (lit< tt)
    (≤ʳ-trans (power e 25) (printed_power place) (power c 25) (lit< tt)
    (entry_power argument)
    (≤ʳ-trans (printed_power place) (printed_power x) (power c 25) (power_above x (parts_above H G D t p)) (printed_grows place x below) printed))
