-- Shell compression at the bottom course: document 02, S-6 and S-8. A sheet and a method's number n; the reply is the stress, the allowed stress and
-- whether it holds, or one refusal.
use Rattle.fields.specs.declared.refusal.Refusal.{Refusal}
use Rattle.std.specs.Prelude.{◌≡◌, Bool, true, false, cond, ◌&&◌, List, [], ◌∷◌, ◌++◌, ℕ, ◌-◌, leb, eqb, get_or, Result}
use Rattle.exact.specs.Quotient.{Ratio, whole, AtLeast, AtMost}
use Rattle.exact.specs.Fraction.{◌over◌, ◌≤ʳ◌}
use Rattle.std.specs.Result.{result_unwrap_or}
use Rattle.fields.specs.Order.{Condition, ◌when◌, first_of, reply_unless, Given, answer_code, first_code}
use Rattle.fields.specs.declared.refusal.Code.{Code}
use Rattle.fields.specs.declared.refusal.Refusal.TheVariants.{ShellUplift}
use Rattle.stability.specs.Earthquake.{uplift_of}
use Rattle.stability.specs.declared.earthquake.Uplift.{Uplift}
use Rattle.stability.specs.declared.earthquake.Uplift.TheVariants.{None, Lift, Over}
use Rattle.buckling.specs.Stress.{stress_exact, stress_of}
use Rattle.buckling.specs.Coefficient.{argument_exact, argument_of, AtLeastPrinted, hundred_thousandths, last_place, coefficient_of}
use Rattle.buckling.specs.Allowed.{allowed_exact, allowed_of}
use Rattle.entries.specs.Sheet.{blank_course}
use Rattle.entries.specs.declared.sheet.Tank.{Tank}
use Rattle.entries.specs.declared.sheet.Anchors.{Anchors}
use Rattle.entries.specs.declared.sheet.Sheet.{Sheet}
use Rattle.sheet.specs.Complete.{entries_of}
use Rattle.entries.specs.declared.complete.Entries.{Entries}
use Rattle.claims.specs.Figures.{resistance_on}
use Rattle.claims.specs.Judging.{judge_order}
use Rattle.reports.specs.declared.report.Standing.{Standing}
use Rattle.reports.specs.declared.report.Standing.TheVariants.{SelfAnchored, Anchored}
use Rattle.compression.specs.declared.question.Stresses.{Stresses}

-- "the bottom course, net of allowance": its plate less its allowance
abbrev pub net_plate : Entries → ℕ
net_plate e = let bottom = get_or e.courses 0 blank_course in bottom.plate - bottom.allowance

abbrev pub self_anchored : Anchors → Bool
self_anchored anchors = eqb anchors.number 0

-- ---- REFUSALS

-- whether document 01's lift is another than "none"
abbrev pub lifts : Uplift → Bool
lifts None = false
lifts Lift = true
lifts Over = true

-- 43: "a self-anchored tank whose lift isn't "none""
abbrev pub shell_uplift : Entries → Condition
shell_uplift e =
    ShellUplift when (self_anchored e.anchors && lifts (uplift_of e.site.moment (resistance_on e.tank e.site)))

-- "after judge's own refusals": 30, 42, 32, 35, 36, 38, 37, 43
abbrev pub compression_order : ℕ → Sheet → List Condition
compression_order n s = judge_order n s ++ shell_uplift (entries_of s) ∷ []

-- ---- FIGURES

-- the coefficient of pressure, in hundred-thousandths: "Anchored tanks get no pressure help"
unfoldable pub coefficient_on : Tank → Anchors → ℕ → ℕ
coefficient_on tank anchors t =
    cond (self_anchored anchors) (coefficient_of (argument_of tank.level tank.gravity tank.diameter t)) 0

-- the stress and the allowed one, exact; the latter for any coefficient of pressure
abbrev pub stress_exact_on : Entries → Ratio
stress_exact_on e = stress_exact e.tank.weight e.site.vertical e.site.moment e.tank.diameter (net_plate e)

abbrev pub allowed_exact_on : Entries → Ratio → Ratio
allowed_exact_on e c = allowed_exact c e.tank.diameter (net_plate e)

-- and rounded; "It holds when the stress is at most the allowed one."
abbrev pub stresses_with : ℕ → ℕ → Stresses
stresses_with stress allowed = record { stress = stress; allowed = allowed; holds = leb stress allowed }

unfoldable pub stresses_of : Entries → Stresses
stresses_of e =
    stresses_with
    (stress_of e.tank.weight e.site.vertical e.site.moment e.tank.diameter (net_plate e))
    (allowed_of (coefficient_on e.tank e.anchors (net_plate e)) e.tank.diameter (net_plate e))

-- ---- THE REPLY

unfoldable pub shell_compression : ℕ → Sheet → Result Stresses Refusal
shell_compression n s = reply_unless (first_of (compression_order n s)) (stresses_of (entries_of s))

-- what is left of it once the sheet is judged: by the report's way of standing
abbrev pub uplifted : Standing → Bool
uplifted (SelfAnchored checks) = lifts checks.uplift
uplifted (Anchored checks) = false

abbrev pub unless_uplifted : Standing → Entries → Result Stresses Refusal
unless_uplifted standing e = reply_unless (first_of ((ShellUplift when uplifted standing) ∷ [])) (stresses_of e)

-- The code of each case of the reply: 0 and the figures, or the refusal's number and no figures.
pub record CompressionCode : Type 0 where
  pub code : Code
  pub stresses : Stresses

abbrev pub no_stresses : Stresses
no_stresses = record { stress = 0; allowed = 0; holds = false }

abbrev pub compression_code : Result Stresses Refusal → CompressionCode
compression_code y = record { code = answer_code y; stresses = result_unwrap_or y no_stresses }

unfoldable pub shell_compression_code : ℕ → Sheet → CompressionCode
shell_compression_code n s =
    let p = first_code (compression_order n s) in
    record { code = p; stresses = cond (eqb p.number 0) (stresses_of (entries_of s)) no_stresses }

-- ---- WHAT THE FIGURES ARE

-- c is at least what Eq 13-47 to 13-50 take for the coefficient: that of Eq 13-50, which is printed for arguments up to 0.0640, or, of an
-- anchored tank, nothing (so c may be 0).
abbrev pub PrintedHelp : Entries → Ratio → Type 0
PrintedHelp e c =
    e.anchors.number ≡ 0
    → (argument_exact e.tank.level e.tank.gravity e.tank.diameter (net_plate e) ≤ʳ (last_place over 10000))
    × AtLeastPrinted (argument_exact e.tank.level e.tank.gravity e.tank.diameter (net_plate e)) c

-- Of a reply's figures: the stress is at least the exact one and less than 1 psi above it; the allowed one at most the exact one, with the
-- chart's coefficient, and less than 1 psi below it; "The allowed stress is never above the printed equations up to 0.0640".
pub record StressesJustified (e : Entries) (v : Stresses) : Type 0 where
  pub stress_rounded : AtLeast (stress_exact_on e) (whole 1) v.stress
  pub allowed_rounded : AtMost (allowed_exact_on e (hundred_thousandths (coefficient_on e.tank e.anchors (net_plate e)))) (whole 1) v.allowed
  pub never_above : (c : Ratio) → PrintedHelp e c → whole v.allowed ≤ʳ allowed_exact_on e c
  pub held : v.holds ≡ leb v.stress v.allowed

abbrev pub ReplyJustified : Entries → Result Stresses Refusal → Type 0
ReplyJustified e = Given (StressesJustified e)
