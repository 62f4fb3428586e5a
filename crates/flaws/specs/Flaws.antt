-- What is wrong with a step's figures: document 01, "Refusals that come from the input", 16, 17 and 18, and 34 of a course; 39 of anchors
-- (document 02, S-10); and the figures that stand where nothing was stated, which have a flaw (S-1). 16 "also for field 20, tried after field
-- 6" (S-8) is by `tank_fields` of `entries`.
use Rattle.std.specs.Prelude.{Bool, not, cond, ◌||◌, List, [], ◌∷◌, ◌++◌, ℕ, ◌+◌, leb, ltb, eqb, Option, Some, None}
use Rattle.fields.specs.Bolt.{in_chart, discontinued}
use Rattle.fields.specs.declared.refusal.Refusal.TheVariants.{AllowanceNotBelowPlate, BadAnchors, ShellTooHigh, SizeDiscontinued}
use Rattle.fields.specs.Order.{Condition, ◌when◌, outside}
use Rattle.entries.specs.declared.sheet.Tank.{Tank}
use Rattle.entries.specs.declared.sheet.Site.{Site}
use Rattle.entries.specs.declared.sheet.Anchors.{Anchors}
use Rattle.entries.specs.declared.sheet.Course.{Course}
use Rattle.entries.specs.Sheet.{tank_fields, site_fields, anchor_fields, course_fields}

-- The tank, the site and the anchors held. Where they are not stated, figures that no step accepts (`blank_flawed`), so that what was left
-- out cannot pass for what was stated: zeros, and one anchor, since N = 0 is a statement. They stand in the entries beside a refusal.
abbrev pub tank_of : Option Tank → Tank
tank_of None = record { diameter = 0; level = 0; weight = 0; plate = 0; allowance = 0; fy = 0; gravity = 0 }
tank_of (Some t) = t

abbrev pub site_of : Option Site → Site
site_of None = record { speed = 0; exposure = 0; importance = 0; vertical = 0; moment = 0 }
site_of (Some x) = x

abbrev pub anchors_of : Option Anchors → Anchors
anchors_of None = record { number = 1; circle = 0; size = 0 }
anchors_of (Some a) = a

-- 17: "allowance not less than plate (bottom or course)", so plate at most allowance
abbrev pub allowance_too_large : ℕ → ℕ → Condition
allowance_too_large plate allowance = AllowanceNotBelowPlate when leb plate allowance

-- 18: "N = 0 with B or d not 0; or N above 0 with B below D or d not in the bolt chart"
unfoldable pub bad_anchors : ℕ → Anchors → Bool
bad_anchors D a =
    cond (eqb a.number 0)
    (not (eqb a.circle 0) || not (eqb a.size 0))
    (ltb a.circle D || not (in_chart a.size))

-- 39: "for size 6". Only in version 1 of a sheet may anchors have it, so it stands in no list below.
abbrev pub size_discontinued : Anchors → Condition
size_discontinued a = SizeDiscontinued when discontinued a.size

-- 34: "this course would bring Hs above 76,800", on courses of this height
abbrev pub too_high : ℕ → Course → Condition
too_high height c = ShellTooHigh when ltb 76800 (height + c.width)

-- What the figures of a step are refused for, in document 01's order: 16 for each field, then 17 or 18.
unfoldable pub tank_flaws : Tank → List Condition
tank_flaws t = outside (tank_fields t) ++ allowance_too_large t.plate t.allowance ∷ []

unfoldable pub site_flaws : Site → List Condition
site_flaws x = outside (site_fields x)

unfoldable pub anchor_flaws : ℕ → Anchors → List Condition
anchor_flaws D a = outside (anchor_fields a) ++ (BadAnchors when bad_anchors D a) ∷ []

unfoldable pub course_flaws : Course → List Condition
course_flaws c = outside (course_fields c) ++ allowance_too_large c.plate c.allowance ∷ []
