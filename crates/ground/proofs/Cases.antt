-- The charts at their own columns, the classes among the bytes, the answers of the cases and the greatest values, computed by the checker.
-- Assumes nothing.
use mathlib.Core.Path.{◌≡◌, refl}
use mathlib.Core.List.{[], ◌∷◌, map}
use Rattle.exact.specs.Quotient.{up_of}
use Rattle.lists.specs.Ascii.{ascii}
use Rattle.ground.specs.Chart.{fa, fv, interpolated}
use Rattle.ground.specs.Motion.{sds_of, sd1_of, vertical_of, values_of, ground_motion, greatest}
use Rattle.ground.specs.Cases.{table26, table27, scaled, at_columns, classes_below, MotionCase, motion_cases, answered, reached}

pub columns_printed : map at_columns (fa ∷ fv ∷ []) ≡ scaled 250 table26 ∷ scaled 100 table27 ∷ []
unfolding interpolated
columns_printed = refl

pub class_letters : classes_below 256 ≡ ascii "ABCDE"
class_letters = refl

pub motion_cases_lem : map answered motion_cases ≡ map (λ (q : MotionCase). q.answer) motion_cases
unfolding interpolated sds_of sd1_of vertical_of values_of ground_motion up_of
motion_cases_lem = refl

pub greatest_reached : reached ≡ greatest
unfolding interpolated sds_of sd1_of vertical_of up_of
greatest_reached = refl
