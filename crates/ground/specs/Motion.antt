-- Ground motion from the map values: document 02, S-2. Ss and S1 in thousandths of g, the site class by its capital letter.
use Rattle.fields.specs.declared.refusal.Refusal.{Refusal}
use Rattle.std.specs.Prelude.{◌≡◌, not, ◌||◌, cond, List, [], ◌∷◌, ℕ, ◌*◌, ◌≤◌, ltb, eqb, Result}
use Rattle.exact.specs.Quotient.{Ratio, down_of, up_of, whole, AtLeast}
use Rattle.std.specs.Result.{result_unwrap_or}
use Rattle.fields.specs.Order.{Condition, ◌when◌, first_of, reply_unless, Given, answer_code, first_code}
use Rattle.fields.specs.Range.{In}
use Rattle.fields.specs.declared.refusal.Code.{Code}
use Rattle.fields.specs.declared.refusal.Refusal.TheVariants.{FigureOutOfRange, BadSiteClass}
use Rattle.ground.specs.Class.{is_class}
use Rattle.ground.specs.Chart.{Chart, fa, fv, row_of, coefficient_of, Interpolates}
use Rattle.ground.specs.declared.motion.DesignValues.{DesignValues}

-- the most that Ss and S1 may be
abbrev pub most_mapped : ℕ
most_mapped = 3000

-- The design value of a map value S whose coefficient is F: two thirds of the adjusted value, F × S (source 001, Eq 14-1 to 14-4). F is over
-- 10 × step, and S over 1,000.
abbrev pub design_exact : Chart → ℕ → ℕ → Ratio
design_exact c F S = record { num = 2 * (F * S); den = 3 * (10 * c.step * 1000) }

-- a fraction as a whole number over den, rounded down; where it is used nothing is lost (`WithoutLoss`)
abbrev pub over : ℕ → Ratio → ℕ
over den f = down_of (f.num * den) f.den

-- the design value of a class at a map value, over den
abbrev pub design_of : Chart → ℕ → ℕ → ℕ → ℕ
design_of c den class S = over den (design_exact c (coefficient_of c class S) S)

-- SDS and SD1, "kept without loss as whole numbers over 3,750,000 and over 1,500,000"
abbrev pub sds_den : ℕ
sds_den = 3750000

abbrev pub sd1_den : ℕ
sd1_den = 1500000

unfoldable pub sds_of : ℕ → ℕ → ℕ
sds_of class Ss = design_of fa sds_den class Ss

unfoldable pub sd1_of : ℕ → ℕ → ℕ
sd1_of class S1 = design_of fv sd1_den class S1

-- Av, "0.14 × SDS, rounded up to a thousandth" (0.14 also in source 003, Sec. 13.5.4.3): in thousandths it is 140 × SDS, first exact, then
-- rounded
abbrev pub vertical_exact : ℕ → Ratio
vertical_exact sds = record { num = 140 * sds; den = sds_den }

unfoldable pub vertical_of : ℕ → ℕ
vertical_of sds = up_of (vertical_exact sds).num (vertical_exact sds).den

unfoldable pub values_of : ℕ → ℕ → ℕ → DesignValues
values_of class Ss S1 = record { sds = sds_of class Ss; sd1 = sd1_of class S1; vertical = vertical_of (sds_of class Ss) }

-- "41 for a class other than A to E, first; 40 for Ss or S1 above 3,000, next."
abbrev pub other_class : ℕ → Condition
other_class class = BadSiteClass when not (is_class class)

abbrev pub too_large : ℕ → ℕ → Condition
too_large Ss S1 = FigureOutOfRange when (ltb most_mapped Ss || ltb most_mapped S1)

abbrev pub motion_order : ℕ → ℕ → ℕ → List Condition
motion_order class Ss S1 = other_class class ∷ too_large Ss S1 ∷ []

unfoldable pub ground_motion : ℕ → ℕ → ℕ → Result DesignValues Refusal
ground_motion class Ss S1 = reply_unless (first_of (motion_order class Ss S1)) (values_of class Ss S1)

-- The code of each case of the answer: 0 and the figures, or the refusal's number and no figures.
pub record MotionCode : Type 0 where
  pub code : Code
  pub values : DesignValues

abbrev pub no_values : DesignValues
no_values = record { sds = 0; sd1 = 0; vertical = 0 }

abbrev pub motion_code : Result DesignValues Refusal → MotionCode
motion_code y = record { code = answer_code y; values = result_unwrap_or y no_values }

unfoldable pub ground_motion_code : ℕ → ℕ → ℕ → MotionCode
ground_motion_code class Ss S1 =
    let p = first_code (motion_order class Ss S1) in
    record { code = p; values = cond (eqb p.number 0) (values_of class Ss S1) no_values }

-- n over den is the design value of the map value S: two thirds of f S × S, exactly, whatever function f has the chart's straight lines; and
-- there is one that has them.
pub record WithoutLoss (c : Chart) (den class S n : ℕ) : Type 0 where
  pub lines : Interpolates c.step (row_of c class) (coefficient_of c class)
  pub exact : (f : ℕ → ℕ) → Interpolates c.step (row_of c class) f → n * (design_exact c (f S) S).den ≡ (design_exact c (f S) S).num * den

-- the most that each value is, of any class and any map values that are answered: 2 g, 4.8 g and 280 thousandths
abbrev pub greatest : DesignValues
greatest = record { sds = 7500000; sd1 = 7200000; vertical = 280 }

-- What the values of a reply are: SDS and SD1 without loss; Av at least 0.14 × SDS and less than a thousandth above it; none above the
-- greatest, so that Av is in the range of field 10.
pub record ValuesJustified (class Ss S1 : ℕ) (v : DesignValues) : Type 0 where
  pub sds_exact : WithoutLoss fa sds_den class Ss v.sds
  pub sd1_exact : WithoutLoss fv sd1_den class S1 v.sd1
  pub vertical_rounded : AtLeast (vertical_exact v.sds) (whole 1) v.vertical
  pub sds_most : v.sds ≤ greatest.sds
  pub sd1_most : v.sd1 ≤ greatest.sd1
  pub vertical_most : v.vertical ≤ greatest.vertical
  pub vertical_in_range : In 10 v.vertical

abbrev pub ReplyJustified : ℕ → ℕ → ℕ → Result DesignValues Refusal → Type 0
ReplyJustified class Ss S1 = Given (ValuesJustified class Ss S1)
