-- What the test for 30 asks of a sheet's parts: tank, site, anchors and each course have no flaw, the shell is not too high, and the
-- slots past the count are blank. Before the tank nothing else can have been stated. What it asks of a bolt size besides is in `sheet`,
-- as is why it passes exactly the sheets that a run leaves (`left_exactly`).
use Rattle.std.specs.Prelude.{Bool, true, ◌&&◌, List, ℕ, leb, eqb, length, take, drop, Option, Some, None, is_none}
use Rattle.std.specs.List.{list_all}
use Rattle.fields.specs.Order.{clear}
use Rattle.entries.specs.Sheet.{height_of, course_figures}
use Rattle.flaws.specs.Flaws.{tank_flaws, site_flaws, anchor_flaws, course_flaws}
use Rattle.entries.specs.declared.sheet.Tank.{Tank}
use Rattle.entries.specs.declared.sheet.Site.{Site}
use Rattle.entries.specs.declared.sheet.Anchors.{Anchors}
use Rattle.entries.specs.declared.sheet.Course.{Course}

abbrev pub blank : List ℕ → Bool
blank xs = list_all (λ x. eqb x 0) xs

abbrev pub site_clear : Option Site → Bool
site_clear None = true
site_clear (Some x) = clear (site_flaws x)

-- on a tank of diameter D
abbrev pub anchors_clear : ℕ → Option Anchors → Bool
anchors_clear D None = true
anchors_clear D (Some a) = clear (anchor_flaws D a)

unfoldable pub courses_clear : List Course → Bool
courses_clear cs = list_all (λ c. clear (course_flaws c)) cs

unfoldable pub courses_blank : List Course → Bool
courses_blank cs = list_all (λ c. blank (course_figures c)) cs

-- n courses in twelve slots
unfoldable pub slots_reachable : List Course → ℕ → Bool
slots_reachable cs n =
    eqb (length cs) 12
    && leb n 12
    && courses_clear (take n cs)
    && leb (height_of (take n cs)) 76800
    && courses_blank (drop n cs)

abbrev pub parts_reachable : Option Tank → Option Site → Option Anchors → ℕ → Bool
parts_reachable None x a n = is_none x && is_none a && eqb n 0
parts_reachable (Some t) x a n = clear (tank_flaws t) && site_clear x && anchors_clear t.diameter a
