-- The pressure-stabilizing buckling coefficient, ΔCc: source 003, Eq 13-50, and its chart: document 02, S-6, and S-8 (specific gravity G,
-- in thousandths). A power of 0.84 is 21 / 25, so the equation is stated by 25th powers.
use Rattle.std.specs.Prelude.{Bool, ℕ, min}
use Rattle.exact.specs.Quotient.{Ratio, whole, down_of}
use Rattle.exact.specs.Fraction.{◌over◌, times, divided_by, squared, power, ◌≤ʳ◌, at_most}
use Rattle.exact.specs.Greatest.{Greatest, greatest_below}
use Rattle.fields.specs.Units.{feet, thousandths, plate_inches, radius}

-- the modulus of elasticity E, in psi
abbrev pub modulus : Ratio
modulus = whole 29000000

-- P, in psi: "water weighs 0.433 psi per foot of H", and "Water pressure in the compression question is multiplied too", by the gravity
abbrev pub pressure : ℕ → ℕ → Ratio
pressure H G = times (times (433 over 1000) (feet H)) (thousandths G)

-- the equation's argument, (P / E) (R / t)², exact and, in ten-thousandths, "rounded down"
unfoldable pub argument_exact : ℕ → ℕ → ℕ → ℕ → Ratio
argument_exact H G D t = times (divided_by (pressure H G) modulus) (squared (divided_by (radius D) (plate_inches t)))

unfoldable pub argument_of : ℕ → ℕ → ℕ → ℕ → ℕ
argument_of H G D t = let f = times (whole 10000) (argument_exact H G D t) in down_of f.num f.den

-- 0.72 x^0.84, to the 25th
abbrev pub printed_power : Ratio → Ratio
printed_power x = times (power (72 over 100) 25) (power x 21)

-- c is at least the coefficient that Eq 13-50 gives for x
abbrev pub AtLeastPrinted : Ratio → Ratio → Type 0
AtLeastPrinted x c = printed_power x ≤ʳ power c 25

-- The chart: for i ten-thousandths, in hundred-thousandths, "the greatest whole e with (e / 100,000) to the 25th at most 0.72 to the 25th times
-- (i / 10,000) to the 21st".
abbrev pub hundred_thousandths : ℕ → Ratio
hundred_thousandths e = e over 100000

unfoldable pub passes : ℕ → ℕ → Bool
passes i e = at_most (power (hundred_thousandths e) 25) (printed_power (i over 10000))

abbrev pub Entry : ℕ → ℕ → Type 0
Entry i e = Greatest (passes i) e

-- the chart's last place: "above 0.0640 the last entry is used (house rule)"
abbrev pub last_place : ℕ
last_place = 640

-- the entry at a place, found bit by bit (`entry_is`: it is the greatest), and the one for an argument
unfoldable pub entry_at : ℕ → ℕ
unfolding passes greatest_below
entry_at i = greatest_below 13 (passes i)

unfoldable pub coefficient_of : ℕ → ℕ
coefficient_of argument = entry_at (min argument last_place)
