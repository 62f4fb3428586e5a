-- Anchors: document 01, "The rules", Anchored, and the house rule for wind on a self-anchored tank; document 02, S-5. Pulls in pounds, up
-- positive.
use Rattle.std.specs.Prelude.{cond, ℕ, ◌+◌, ◌-◌, ◌*◌, ◌≤◌, ℤ, pos, ◌-ℤ◌}
use Rattle.std.specs.Int.Signed.{lt_z}
use Rattle.exact.specs.Quotient.{Ratio, Ratioℤ, whole, up_ℤ, positive_part}
use Rattle.rules.specs.Verdict.{verdict_of}
use Rattle.rules.specs.declared.verdict.Verdict.{Verdict}
use Rattle.stability.specs.declared.anchors.DeadWeight.{DeadWeight}

-- The dead weight w that resists uplift (D100's W'), in pounds, as a fraction: in the wind it is W. In an earthquake document 02 reduces it to
-- W × (10,000 - 4 × Av) / 10,000, unrounded.
unfoldable pub reduced_weight : ℕ → ℕ → Ratio
reduced_weight W Av = record { num = W * (10000 - 4 * Av); den = 10000 }

-- the fraction that the code hands on
abbrev pub fraction : DeadWeight → Ratio
fraction w = record { num = w.num; den = w.den }

-- the exact net pull per anchor, (4,800 × moment - w × B) / (N × B), with the divisor of w multiplied out
unfoldable pub pull_exact : ℕ → Ratio → ℕ → ℕ → Ratioℤ
pull_exact moment w B N = record { num = pos (4800 * moment * w.den) -ℤ pos (w.num * B); den = w.den * (N * B) }

-- rounded once, toward the greater number
unfoldable pub pull_of : ℕ → Ratio → ℕ → ℕ → ℤ
pull_of moment w B N = let f = pull_exact moment w B N in up_ℤ f.num f.den

-- the larger of two pulls, or 0 if it is negative
unfoldable pub larger_pull : ℤ → ℤ → ℕ
larger_pull a b = positive_part (cond (lt_z a b) b a)

-- the margin of a pull, 1: a rounded pull is less than this above the exact one
unfoldable pub pull_margin : Ratio
pull_margin = whole 1

-- Spacing (D100, 10 ft): 355 × B at most 1,356,000 × N.
unfoldable pub spacing_verdict : ℕ → ℕ → Verdict
spacing_verdict B N = verdict_of (355 * B) (1356000 * N)

-- Strength (FM 4020: 15,000 psi on the stress area, raised 33%): 1,000 × the larger pull at most 19,950 × A.
unfoldable pub strength_verdict : ℕ → ℕ → Verdict
strength_verdict pull A = verdict_of (1000 * pull) (19950 * A)

-- The strength rule with nothing rounded, at a moment f, a dead weight w and with a margin m: 1,000 × ((4,800 × f - w × B) / (N × B) + m) at
-- most 19,950 × A. It is multiplied by N × B and the divisors of f, w and m, and w × B stands on the other side.
pub record Strong (f w : Ratio) (B N A : ℕ) (m : Ratio) : Type 0 where
  pub strong : 1000 * (4800 * f.num * m.den + m.num * (N * B) * f.den) * w.den ≤ (19950 * A * (N * B) * w.den + 1000 * (w.num * B)) * (f.den * m.den)

-- Wind on a self-anchored tank (house): 3,600 × M at most W × D.
unfoldable pub wind_verdict : ℕ → ℕ → ℕ → Verdict
wind_verdict M W D = verdict_of (3600 * M) (W * D)
