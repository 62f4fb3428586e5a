-- Hoop thickness of a course: document 01, "The rules", Hoop (AWWA D100, t = 2.6 h D / (s E)), and document 02, S-3 (API 650,
-- t = 2.6 D (h - 1 ft) / (s E)), S-7 (steps of five mils) and S-8 (specific gravity, the G of D100's Eq 3-40, in thousandths). Plate in mils.
use Rattle.std.specs.Prelude.{cond, ℕ, ◌+◌, ◌-◌, ◌*◌, max, leb}
use Rattle.exact.specs.Quotient.{Ratio, whole, up_to}
use Rattle.rules.specs.Verdict.{verdict_of}
use Rattle.rules.specs.declared.method.Method.{Method}
use Rattle.rules.specs.declared.method.Method.TheVariants.{D100, Api650}
use Rattle.rules.specs.declared.verdict.Verdict.{Verdict}

-- h: the water level H less the height y of the course's bottom edge, or 0
unfoldable pub head_of : ℕ → ℕ → ℕ
head_of H y = H - y

-- a foot in hundredths of an inch (document 01, "Units")
abbrev pub foot : ℕ
foot = 1200

-- What stands for h in a method's formula: h itself by D100; by API 650 h less a foot, or 0 where h is a foot or less. By both, h is taken
-- from the bottom edge.
unfoldable pub design_head : Method → ℕ → ℕ
design_head D100 h = h
design_head Api650 h = h - foot

-- the exact need, 13 × h × D / (72 × s × E), h as the method has it, times G / 1,000: "multiplied by it before they are rounded"
unfoldable pub hoop_exact : ℕ → ℕ → ℕ → ℕ → ℕ → Ratio
hoop_exact h D G s E = record { num = 13 * h * D * G; den = 72 * s * E * 1000 }

-- "The mill now quotes in steps of 5", in mils
abbrev pub mill_step : ℕ
mill_step = 5

-- "rounded up to a multiple of 5 before the allowance is added, for D100 and API 650"
unfoldable pub hoop_need : ℕ → ℕ → ℕ → ℕ → ℕ → ℕ
hoop_need h D G s E = let f = hoop_exact h D G s E in up_to mill_step f.num f.den

-- "The plate margin is five mils": the rounded need is less than this above the exact one
unfoldable pub plate_margin : Ratio
plate_margin = whole 5

-- The house floor, by the diameter; "floors don't move".
unfoldable pub plate_floor : ℕ → ℕ
plate_floor D = cond (leb D 60000) 188 (cond (leb D 144000) 250 313)

-- The required plate: the need with the allowance c, or the floor, which has no allowance added, if that is larger. It need not be a
-- multiple of 5.
unfoldable pub required_plate : ℕ → ℕ → ℕ → ℕ
required_plate need c D = max (need + c) (plate_floor D)

-- A course holds when its plate t is at least the required one.
unfoldable pub course_verdict : ℕ → ℕ → Verdict
course_verdict required t = verdict_of required t
