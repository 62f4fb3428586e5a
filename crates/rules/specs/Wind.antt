-- Wind pressure and overturning moment: document 01, "The rules", Wind (AWWA D100: 0.00256 Kz I V², shape 0.60, at least 30 psf before
-- shape). Pressure in hundredths of a psf, moment in foot-pounds. v stands for V, which is a word of the language.
use Rattle.std.specs.Prelude.{cond, ℕ, ◌+◌, ◌*◌, max, Result, Ok, Err}
use Rattle.exact.specs.Quotient.{Ratio, up_of}
use Rattle.fields.specs.Range.{range, within}
use Rattle.fields.specs.Refusal.{code_of}
use Rattle.fields.specs.declared.refusal.Refusal.TheVariants.{OutOfRange}
use Rattle.fields.specs.declared.refusal.Refusal.{Refusal}

-- the exact pressure p: the larger of 6 × Kz × I × V × V / 390,625 and 1,800
unfoldable pub pressure_exact : ℕ → ℕ → ℕ → Ratio
pressure_exact Kz I v = record { num = max (6 * Kz * I * v * v) (1800 * 390625); den = 390625 }

-- p, rounded up, or 1,800 if that is larger
unfoldable pub pressure_of : ℕ → ℕ → ℕ → ℕ
pressure_of Kz I v = max (up_of (6 * Kz * I * v * v) 390625) 1800

-- the exact moment M: p × D × Hs × Hs / 345,600,000,000 with the exact p
unfoldable pub moment_exact : ℕ → ℕ → ℕ → ℕ → ℕ → Ratio
moment_exact Kz I v D Hs =
    let p = pressure_exact Kz I v in record { num = p.num * D * Hs * Hs; den = p.den * 345600000000 }

-- M of a pressure p, rounded up
unfoldable pub moment_of : ℕ → ℕ → ℕ → ℕ
moment_of p D Hs = up_of (p * D * Hs * Hs) 345600000000

-- the margin of the moment, D × Hs × Hs / 345,600,000,000 + 1: the rounded moment is less than this above the exact one
unfoldable pub moment_margin : ℕ → ℕ → Ratio
moment_margin D Hs = record { num = D * Hs * Hs + 345600000000; den = 345600000000 }

-- The standard site: Kz 109, I 115. Its pressure is asked by speed; a speed outside the range of field 7 is refused 16 with that field.
abbrev pub by_speed : {A : Type 0} → ℕ → (ℕ → A) → A → A
by_speed v given refused = cond (within (range 7) v) (given (pressure_of 109 115 v)) refused

unfoldable pub standard_site : ℕ → Result ℕ Refusal
standard_site v = by_speed v Ok (Err (OutOfRange 7))

-- What each case of the answer is by code: 0 and the pressure, or the refusal's number and field.
pub record SiteCode : Type 0 where
  pub number : ℕ
  pub value : ℕ

abbrev pub site_code : ℕ → ℕ → SiteCode
site_code n x = record { number = n; value = x }

abbrev pub site_code_of : Result ℕ Refusal → SiteCode
site_code_of (Ok p) = site_code 0 p
site_code_of (Err r) = site_code (code_of r).number (code_of r).field

-- so, of the standard site: its pressure, or 16 with field 7
unfoldable pub standard_code : ℕ → SiteCode
standard_code v = by_speed v (site_code 0) (site_code 16 7)
