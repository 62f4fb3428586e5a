-- The steps that fill a sheet in: document 01, "Filling in", "Refusals that come from the state" and "Order"; document 02, S-1, S-8 and S-10.
-- The sheets that they and reading leave are in Runs.
use Rattle.std.specs.Prelude.{Bool, true, false, not, ◌&&◌, ◌||◌, List, [], ◌∷◌, ◌++◌, ℕ, ◌+◌, leb, eqb, set, Option, Some, None, is_none, Ok, Err}
use Rattle.fields.specs.Bolt.{discontinued}
use Rattle.fields.specs.declared.refusal.Refusal.{Refusal}
use Rattle.fields.specs.declared.refusal.Refusal.TheVariants.{Unreachable, TankStated, NoTank, CoursesFull}
use Rattle.fields.specs.Order.{Answer, Condition, ◌when◌, first_of}
use Rattle.entries.specs.Sheet.{empty_sheet, held, height_of}
use Rattle.flaws.specs.Flaws.{too_high, size_discontinued, tank_flaws, site_flaws, anchor_flaws, course_flaws, tank_of}
use Rattle.layout.specs.declared.version.Version.{Version}
use Rattle.layout.specs.declared.version.Version.TheVariants.{One, Two}
use Rattle.parts.specs.Parts.{slots_reachable, parts_reachable}
use Rattle.entries.specs.declared.sheet.Tank.{Tank}
use Rattle.entries.specs.declared.sheet.Site.{Site}
use Rattle.entries.specs.declared.sheet.Anchors.{Anchors}
use Rattle.entries.specs.declared.sheet.Sheet.{Sheet}
use Rattle.sheet.specs.declared.steps.Step.{Step}
use Rattle.sheet.specs.declared.steps.Step.TheVariants.{StateTank, StateSite, StateAnchors, AddCourse}
use Rattle.sheet.specs.declared.steps.Reply.{Reply}

-- S-10: "39 for size 6 when anchors are stated or read in version 2, straight after 18", and so not in version 1
abbrev pub size_flaws : Version → Anchors → List Condition
size_flaws One a = []
size_flaws Two a = size_discontinued a ∷ []

-- The order of refusals of each step, 30 aside, in a version of the sheet's bytes; what is stated by itself goes by version 2.
-- Tank: 31, 16 (fields 1 to 6, then 20), 17. Site: 32, 16. Anchors: 32, 16, 18, 39. Course: 32, 33, 16, 17, 34.
abbrev pub order_of : Version → Sheet → Step → List Condition
order_of v s (StateTank t) = (TankStated when not (is_none s.tank)) ∷ tank_flaws t
order_of v s (StateSite x) = (NoTank when is_none s.tank) ∷ site_flaws x
order_of v s (StateAnchors a) = (NoTank when is_none s.tank) ∷ (anchor_flaws (tank_of s.tank).diameter a ++ size_flaws v a)
order_of v s (AddCourse c) =
    (NoTank when is_none s.tank)
    ∷ (CoursesFull when leb 12 s.count)
    ∷ (course_flaws c ++ too_high (height_of (held s)) c ∷ [])

-- what an accepted step leaves
abbrev pub filled : Sheet → Step → Sheet
filled s (StateTank t) =
    record { tank = Some t; site = s.site; anchors = s.anchors; courses = s.courses; count = s.count }
filled s (StateSite x) =
    record { tank = s.tank; site = Some x; anchors = s.anchors; courses = s.courses; count = s.count }
filled s (StateAnchors a) =
    record { tank = s.tank; site = s.site; anchors = Some a; courses = s.courses; count = s.count }
filled s (AddCourse c) =
    record { tank = s.tank; site = s.site; anchors = s.anchors; courses = set s.courses s.count c; count = s.count + 1 }

-- a refused step leaves the sheet as it was
abbrev pub kept : Answer → Sheet → Sheet → Sheet
kept (Ok u) before after = after
kept (Err r) before after = before

abbrev pub replied : Answer → Sheet → Sheet → Reply
replied a before after = record { answer = a; sheet = kept a before after }

abbrev pub accepted : Sheet → Reply
accepted s = record { answer = Ok tt; sheet = s }

abbrev pub refused : Refusal → Sheet → Reply
refused r s = record { answer = Err r; sheet = s }

unfoldable pub applied : Version → Sheet → Step → Reply
applied v s x = replied (first_of (order_of v s x)) s (filled s x)

-- The anchors after a step, those before it being e.
abbrev pub anchors_after : Option Anchors → Step → Answer → Option Anchors
anchors_after e (StateTank t) y = e
anchors_after e (StateSite x) y = e
anchors_after e (StateAnchors a) (Ok u) = Some a
anchors_after e (StateAnchors a) (Err r) = e
anchors_after e (AddCourse c) y = e

-- A test that what steps by either version leave passes,
unfoldable pub consistent : Sheet → Bool
consistent s = slots_reachable s.courses s.count && parts_reachable s.tank s.site s.anchors s.count

-- and of a size that cannot be stated any more: it came with a sheet of version 1, which gives a tank that holds water, a site and a course,
-- and no step takes these away (S-10).
abbrev pub fits_version_1 : Option Tank → Option Site → ℕ → Bool
fits_version_1 None x n = false
fits_version_1 (Some t) x n = eqb t.gravity 1000 && not (is_none x) && not (eqb n 0)

abbrev pub size_reachable : Option Tank → Option Site → Option Anchors → ℕ → Bool
size_reachable e x None n = true
size_reachable e x (Some a) n = not (discontinued a.size) || fits_version_1 e x n

-- Both: the test for the sheets that a run leaves (`left_exactly`: it passes exactly them).
unfoldable pub reachable : Sheet → Bool
reachable s = consistent s && size_reachable s.tank s.site s.anchors s.count

-- 30
abbrev pub unreachable : Sheet → Condition
unreachable s = Unreachable when not (reachable s)

-- A step on a sheet that is handed in: 30 first, then its own order.
unfoldable pub stated : Sheet → Step → Reply
stated s x = replied (first_of (unreachable s ∷ order_of Two s x)) s (filled s x)

-- Several steps in turn; the first refusal ends them, and the answer holds an empty sheet.
abbrev pub unless : Answer → Reply → Reply
unless (Ok u) later = later
unless (Err r) later = refused r empty_sheet

abbrev pub in_turn : Version → Sheet → List Step → Reply
in_turn v s [] = accepted s
in_turn v s (x ∷ xs) = unless (applied v s x).answer (in_turn v (applied v s x).sheet xs)
