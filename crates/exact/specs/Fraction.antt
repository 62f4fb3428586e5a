-- Arithmetic of exact fractions, for equations that are stated as they are printed. Nothing is reduced; every divisor is above 0 wherever a figure
-- is worked out by these.
use Rattle.std.specs.Prelude.{Bool, ℕ, ◌-◌, ◌*◌, ◌^◌, ◌≤◌, ◌<◌, leb}
use Rattle.exact.specs.Quotient.{Ratio}

infix 40 ◌over◌
abbrev pub ◌over◌ : ℕ → ℕ → Ratio
n over d = record { num = n; den = d }

-- the difference, and 0 where the second is the larger one
abbrev pub minus : Ratio → Ratio → Ratio
minus f g = record { num = f.num * g.den - g.num * f.den; den = f.den * g.den }

abbrev pub times : Ratio → Ratio → Ratio
times f g = record { num = f.num * g.num; den = f.den * g.den }

abbrev pub divided_by : Ratio → Ratio → Ratio
divided_by f g = record { num = f.num * g.den; den = f.den * g.num }

abbrev pub squared : Ratio → Ratio
squared f = times f f

abbrev pub power : Ratio → ℕ → Ratio
power f n = record { num = f.num ^ n; den = f.den ^ n }

-- f is at most g, or below it, by whole numbers after multiplying out their divisors
infix 30 ◌≤ʳ◌
abbrev pub ◌≤ʳ◌ : Ratio → Ratio → Type 0
f ≤ʳ g = f.num * g.den ≤ g.num * f.den

infix 30 ◌<ʳ◌
abbrev pub ◌<ʳ◌ : Ratio → Ratio → Type 0
f <ʳ g = f.num * g.den < g.num * f.den

abbrev pub at_most : Ratio → Ratio → Bool
at_most f g = leb (f.num * g.den) (g.num * f.den)
