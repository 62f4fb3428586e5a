-- Earthquake overturning of a self-anchored tank: document 01, "The rules" (AWWA D100, Section 13), and document 02, S-8 (specific
-- gravity, the G of D100's Eq 13-37, in thousandths). Weights in hundredths of a pound per foot of shell, resistance in foot-pounds.
use Rattle.std.specs.Prelude.{Bool, true, false, cond, List, ◌⊎◌, ℕ, ◌+◌, ◌-◌, ◌*◌, min, ◌≤◌, leb}
use Rattle.exact.specs.Quotient.{Ratio, down_of}
use Rattle.exact.specs.Root.{root_of}
use Rattle.rules.specs.Verdict.{verdict_of}
use Rattle.rules.specs.Words.{none_word, lift_word, over_word}
use Rattle.rules.specs.declared.verdict.Verdict.{Verdict}
use Rattle.stability.specs.declared.earthquake.Uplift.{Uplift}
use Rattle.stability.specs.declared.earthquake.Uplift.TheVariants.{None, Lift, Over}

-- wt, the weight of shell and roof: 2,712,000 × W × (10,000 - 4 × Av) / (710,000 × D), exact and rounded down (355/113 stands in it)
unfoldable pub shell_exact : ℕ → ℕ → ℕ → Ratio
shell_exact W Av D = record { num = 2712000 * W * (10000 - 4 * Av); den = 710000 * D }

unfoldable pub shell_weight : ℕ → ℕ → ℕ → ℕ
shell_weight W Av D = let f = shell_exact W Av D in down_of f.num f.den

-- "in wL's root, Fy becomes Fy × gravity / 1,000 rounded down": the yield that report and exact rules take, "the yield alone being rounded"
unfoldable pub root_yield : ℕ → ℕ → ℕ
root_yield Fy G = down_of (Fy * G) 1000

-- wL, the weight of the liquid over the bottom annulus that resists overturning: the smaller of a root and a cap. tb is the bottom plate
-- less its allowance.
-- The root: the greatest whole n with 12,000,000 × n × n at most this.
unfoldable pub root_most : ℕ → ℕ → ℕ → ℕ
root_most tb yield H = 6241 * tb * tb * yield * H

unfoldable pub bottom_root : ℕ → ℕ → ℕ → ℕ
bottom_root tb yield H = root_of 12000000 (root_most tb yield H)

-- The cap: H × D / 11,250 times G / 1,000, exact and rounded down, once.
unfoldable pub cap_exact : ℕ → ℕ → ℕ → Ratio
cap_exact H D G = record { num = H * D * G; den = 11250 * 1000 }

unfoldable pub bottom_cap : ℕ → ℕ → ℕ → ℕ
bottom_cap H D G = let f = cap_exact H D G in down_of f.num f.den

unfoldable pub bottom_weight : ℕ → ℕ → ℕ → ℕ → ℕ → ℕ
bottom_weight tb yield H D G = min (bottom_root tb yield H) (bottom_cap H D G)

-- T, the resistance: D × D × (wt + wL) / 144,000,000 rounded down
unfoldable pub resistance_of : ℕ → ℕ → ℕ → ℕ
resistance_of D wt wL = down_of (D * D * (wt + wL)) 144000000

-- Uplift (document 01's lift): none if 1,000 × Ms is at most 785 × T, lift if at most 1,540 × T, else over.
abbrev pub by_uplift : {A : Type 0} → ℕ → ℕ → A → A → A → A
by_uplift Ms T none lift over = cond (leb (1000 * Ms) (785 * T)) none (cond (leb (1000 * Ms) (1540 * T)) lift over)

unfoldable pub uplift_of : ℕ → ℕ → Uplift
uplift_of Ms T = by_uplift Ms T None Lift Over

-- What each case of it is called in print,
abbrev pub uplift_word : Uplift → List ℕ
uplift_word None = none_word
uplift_word Lift = lift_word
uplift_word Over = over_word

unfoldable pub lift_word_of : ℕ → ℕ → List ℕ
lift_word_of Ms T = by_uplift Ms T none_word lift_word over_word

-- and says of the check: it holds unless over.
abbrev pub uplift_holds : Uplift → Bool
uplift_holds None = true
uplift_holds Lift = true
uplift_holds Over = false

-- The self-anchored earthquake check: 1,000 × Ms at most 1,540 × T.
unfoldable pub quake_verdict : ℕ → ℕ → Verdict
quake_verdict Ms T = verdict_of (1000 * Ms) (1540 * T)

-- x = (asked - held) / y is at most the cap, and either x is at most 0 or 12,000,000 × x × x is at most the root's number. (`-` cuts at 0,
-- but there x is at most 0.)
pub record Carried (asked held y : ℕ) (most : ℕ) (cap : Ratio) : Type 0 where
  pub by_cap : asked * cap.den ≤ held * cap.den + cap.num * y
  pub by_root : (asked ≤ held) ⊎ (12000000 * ((asked - held) * (asked - held)) ≤ most * (y * y))

-- The resistance with nothing rounded but the yield is at least the fraction f. Let x be 144,000,000 × f / (D × D) less the exact wt, which
-- is what is left for wL: over a divisor (`Carried`'s y) of den of f × D × D × den of wt.
unfoldable pub Resists : ℕ → ℕ → ℕ → ℕ → ℕ → ℕ → ℕ → Ratio → Type 0
Resists W Av D H G tb yield f =
    let wt = shell_exact W Av D in
    Carried (144000000 * f.num * wt.den) (wt.num * (f.den * (D * D))) (f.den * (D * D) * wt.den) (root_most tb yield H) (cap_exact H D G)

-- the margin of the resistance, D × D / 72,000,000 + 1: T is less than this below that resistance
unfoldable pub resistance_margin : ℕ → Ratio
resistance_margin D = record { num = D * D + 72000000; den = 72000000 }
