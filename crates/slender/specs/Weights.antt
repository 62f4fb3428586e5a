-- The weight of what a slender tank holds, and of the two parts that an earthquake moves: document 02, S-9; source 003, Sec. 13.5.2.2. Its
-- equations stand here as they are printed, in fractions.
use Rattle.std.specs.Prelude.{Bool, ℕ, ◌*◌, ltb}
use Rattle.exact.specs.Quotient.{Ratio, whole, up_of}
use Rattle.exact.specs.Fraction.{◌over◌, minus, times, divided_by, squared}
use Rattle.fields.specs.Units.{feet, thousandths, circle}
use Rattle.slender.specs.declared.tank.Contents.{Contents}

-- slender: "D × 1,000 below 1,333 × H"
abbrev pub is_slender : Contents → Bool
is_slender c = ltb (c.diameter * 1000) (1333 * c.level)

-- D/H
abbrev pub proportion : Contents → Ratio
proportion c = c.diameter over c.level

-- W_T, 62.4 G H (π D² / 4), in pounds (Eq 13-27): "62.4 pounds per cubic foot times the gravity of field 20", "355/113 for the circle"
abbrev pub total_weight : Contents → Ratio
total_weight c =
    times
    (times (times (624 over 10) (thousandths c.gravity)) (feet c.level))
    (divided_by (times circle (squared (feet c.diameter))) (whole 4))

-- W_i, [1.0 - 0.218 D/H] W_T (Eq 13-25), exact, and "rounded up to a pound straight from the exact fraction"
unfoldable pub impulsive_exact : Contents → Ratio
impulsive_exact c = times (minus (whole 1) (times (218 over 1000) (proportion c))) (total_weight c)

unfoldable pub impulsive_weight : Contents → ℕ
impulsive_weight c = let f = impulsive_exact c in up_of f.num f.den

-- W_c, "0.23 D/H of the water": Eq 13-26 without its tanh, which is below 1 ("house rule, on the safe side"); exact, and rounded likewise
unfoldable pub convective_exact : Contents → Ratio
convective_exact c = times (times (23 over 100) (proportion c)) (total_weight c)

unfoldable pub convective_weight : Contents → ℕ
convective_weight c = let f = convective_exact c in up_of f.num f.den

-- X_i, [0.5 - 0.094 D/H] H, in feet (Eq 13-29); not rounded
unfoldable pub impulsive_height : Contents → Ratio
impulsive_height c = times (minus (5 over 10) (times (94 over 1000) (proportion c))) (feet c.level)

-- X_c: "at height H", in place of Eq 13-30, which is lower (the same house rule)
abbrev pub convective_height : Contents → Ratio
convective_height c = feet c.level
