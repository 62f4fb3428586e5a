-- The seismic allowable longitudinal shell compression stress, σe: document 02, S-6; source 003, Sec. 3.4.3.1.1 and Eq 13-47 to 13-49, which
-- stand here as they are printed, in fractions. t is the bottom course's plate less its allowance, in mils.
use Rattle.std.specs.Prelude.{cond, ℕ}
use Rattle.exact.specs.Quotient.{Ratio, whole, plus, down_of}
use Rattle.exact.specs.Fraction.{◌over◌, times, divided_by, squared, at_most}
use Rattle.fields.specs.Units.{plate_inches, radius}
use Rattle.buckling.specs.Coefficient.{modulus, hundred_thousandths}

-- t / R, the thickness-to-radius ratio
abbrev pub thickness_ratio : ℕ → ℕ → Ratio
thickness_ratio D t = divided_by (plate_inches t) (radius D)

-- F_L of class 1 materials by x = t / R, in psi: elastic up to 0.0031088, inelastic up to 0.0125, else plastic buckling
abbrev pub elastic_limit : Ratio
elastic_limit = 31088 over 10000000

abbrev pub inelastic_limit : Ratio
inelastic_limit = 125 over 10000

abbrev pub elastic : Ratio → Ratio
elastic x = times (times (whole 1750000) x) (plus (whole 1) (times (whole 50000) (squared x)))

abbrev pub inelastic : Ratio → Ratio
inelastic x = plus (whole 5775) (times (whole 738000) x)

abbrev pub plastic : Ratio
plastic = whole 15000

unfoldable pub local_buckling : Ratio → Ratio
local_buckling x = cond (at_most x elastic_limit) (elastic x) (cond (at_most x inelastic_limit) (inelastic x) plastic)

-- Δσcr of a coefficient c: c E t / R (Eq 13-49)
abbrev pub pressure_help : Ratio → ℕ → ℕ → Ratio
pressure_help c D t = divided_by (times (times c modulus) (plate_inches t)) (radius D)

-- 1.333 (F_L + Δσcr / 2) (Eq 13-47); with a coefficient of 0 it is 1.333 F_L (Eq 13-48), for anchored tanks
unfoldable pub allowed_exact : Ratio → ℕ → ℕ → Ratio
allowed_exact c D t =
    times (1333 over 1000) (plus (local_buckling (thickness_ratio D t)) (divided_by (pressure_help c D t) (whole 2)))

-- of a coefficient of e hundred-thousandths, "rounded down once"
unfoldable pub allowed_of : ℕ → ℕ → ℕ → ℕ
allowed_of e D t = let f = allowed_exact (hundred_thousandths e) D t in down_of f.num f.den
