-- The longitudinal shell compression stress at the bottom of the shell without uplift, σc: document 02, S-6; source 003, Eq 13-39 and 13-41,
-- which stand here as they are printed, in fractions. t is the bottom course's plate less its allowance, in mils.
use Rattle.std.specs.Prelude.{ℕ}
use Rattle.exact.specs.Quotient.{Ratio, whole, plus, up_of}
use Rattle.exact.specs.Fraction.{◌over◌, times, divided_by, squared}
use Rattle.fields.specs.Units.{feet, thousandths, plate_inches, circle}

-- wt, the weight of shell and roof in pounds per foot of shell, "unreduced and unrounded": W / (π D), "355/113 for its circle"
abbrev pub shell_load : ℕ → ℕ → Ratio
shell_load W D = divided_by (whole W) (times circle (feet D))

-- 1 + 0.4 Av, Av in thousandths of g
abbrev pub increase : ℕ → Ratio
increase Av = plus (whole 1) (times (4 over 10) (thousandths Av))

-- (wt (1 + 0.4 Av) + 1.273 Ms / D squared) / (12 t), in psi, exact and "rounded once, up to a psi"
unfoldable pub stress_exact : ℕ → ℕ → ℕ → ℕ → ℕ → Ratio
stress_exact W Av Ms D t =
    divided_by
    (plus (times (shell_load W D) (increase Av)) (divided_by (times (1273 over 1000) (whole Ms)) (squared (feet D))))
    (times (whole 12) (plate_inches t))

unfoldable pub stress_of : ℕ → ℕ → ℕ → ℕ → ℕ → ℕ
stress_of W Av Ms D t = let f = stress_exact W Av Ms D t in up_of f.num f.den
