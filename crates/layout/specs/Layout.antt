-- What the bytes of a sheet are: document 01, "Filling in" ("Bytes: first a two-byte length L of what follows, then one version byte, 1,
-- then fields 1 to 14, then one byte n, then n courses of fields 15 to 19"), and document 02, S-8 ("Version 2 of the sheet has this field",
-- 20, "straight after field 6"). They are a prefix (length, version, tank), which the version changes, and a tail, which it does not, by
-- places from its own start: the site at 0, the anchors at 20, n at 32, the courses from 33 on.
use Rattle.std.specs.Prelude.{List, [], ◌∷◌, ◌++◌, ℕ, ◌+◌, ◌*◌, length, take}
use Rattle.entries.specs.Sheet.{tank_figures, site_figures, anchor_figures, course_figures}
use Rattle.entries.specs.declared.sheet.Tank.{Tank}
use Rattle.entries.specs.declared.sheet.Site.{Site}
use Rattle.entries.specs.declared.sheet.Anchors.{Anchors}
use Rattle.entries.specs.declared.sheet.Course.{Course}
use Rattle.layout.specs.Numbers.{two, fours}
use Rattle.layout.specs.declared.version.Version.{Version}
use Rattle.layout.specs.declared.version.Version.TheVariants.{One, Two}

-- the version byte
abbrev pub version_number : Version → ℕ
version_number One = 1
version_number Two = 2

-- "L = 58 + 20 × n" and "L = 62 + 20 × n"
abbrev pub least_length : Version → ℕ
least_length One = 58
least_length Two = 62

abbrev pub body_length : Version → ℕ → ℕ
body_length v n = least_length v + 20 * n

-- how many of the tank's figures stand in the bytes, and those that do not: "Version 1 is still read, as gravity 1,000"
abbrev pub tank_count : Version → ℕ
tank_count One = 6
tank_count Two = 7

abbrev pub tank_rest : Version → List ℕ
tank_rest One = 1000 ∷ []
tank_rest Two = []

-- where the tail starts, behind L, the version byte and the tank
abbrev pub prefix_length : Version → ℕ
prefix_length v = 3 + 4 * tank_count v

-- "2 + L" bytes in all, and the tail's
abbrev pub whole_length : Version → ℕ → ℕ
whole_length v n = 2 + body_length v n

abbrev pub tail_length : ℕ → ℕ
tail_length n = 33 + 20 * n

unfoldable pub prefix_of : Version → ℕ → Tank → List ℕ
prefix_of v n t = two (body_length v n) ++ (version_number v ∷ fours (take (tank_count v) (tank_figures t)))

-- the tail: all that stands before the courses, and the courses
unfoldable pub tail_head : Site → Anchors → ℕ → List ℕ
tail_head x a n = fours (site_figures x) ++ (fours (anchor_figures a) ++ (n ∷ []))

abbrev pub courses_figures : List Course → List ℕ
courses_figures [] = []
courses_figures (c ∷ cs) = course_figures c ++ courses_figures cs

abbrev pub tail_of : Site → Anchors → List Course → List ℕ
tail_of x a cs = tail_head x a (length cs) ++ fours (courses_figures cs)

abbrev pub layout : Version → Tank → Site → Anchors → List Course → List ℕ
layout v t x a cs = prefix_of v (length cs) t ++ tail_of x a cs
