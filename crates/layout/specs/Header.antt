-- Reading what stands at each place, and what bytes are refused for before any step: document 01, "Refusals that come from the input" and
-- "Order"; document 02, S-8.
use Rattle.std.specs.Prelude.{◌≡◌, Bool, not, cond, ◌&&◌, ◌||◌, List, [], ◌∷◌, ◌++◌, ℕ, zero, suc, ◌+◌, ◌-◌, ◌/◌, ◌≤◌, leb, ltb, eqb, length, get_or, take, drop}
use Rattle.fields.specs.declared.refusal.Refusal.TheVariants.{TooFewBytes, TooManyBytes, BadLength, BadVersion, BadCount}
use Rattle.fields.specs.Order.{Condition, ◌when◌}
use Rattle.entries.specs.declared.sheet.Tank.{Tank}
use Rattle.entries.specs.declared.sheet.Site.{Site}
use Rattle.entries.specs.declared.sheet.Anchors.{Anchors}
use Rattle.entries.specs.declared.sheet.Course.{Course}
use Rattle.entries.specs.Sheet.{tank_with, site_with, anchors_with, course_with}
use Rattle.layout.specs.Numbers.{two, four, two_in, figures_in}
use Rattle.layout.specs.Layout.{version_number, least_length, tank_count, tank_rest, prefix_length, body_length, whole_length}
use Rattle.layout.specs.declared.version.Version.{Version}
use Rattle.layout.specs.declared.version.Version.TheVariants.{One, Two}

-- The entry whose figures are the first of these bytes; of a tank, those that its version has.
abbrev pub tank_in : Version → List ℕ → Tank
tank_in v b = tank_with (figures_in (tank_count v) b ++ tank_rest v)

abbrev pub site_in : List ℕ → Site
site_in b = site_with (figures_in 5 b)

abbrev pub anchors_in : List ℕ → Anchors
anchors_in b = anchors_with (figures_in 3 b)

abbrev pub course_in : List ℕ → Course
course_in b = course_with (figures_in 5 b)

abbrev pub courses_in : ℕ → List ℕ → List Course
courses_in zero b = []
courses_in (suc n) b = course_in b ∷ courses_in n (drop 20 b)

-- the tail of bytes in this version
abbrev pub tail_in : Version → List ℕ → List ℕ
tail_in v b = drop (prefix_length v) b

-- n as L gives it, and whether it gives one: L has the length of an n from 1 to 12 (`length_exactly`)
abbrev pub count_of : Version → ℕ → ℕ
count_of v L = (L - least_length v) / 20

unfoldable pub is_length : Version → ℕ → Bool
is_length v L = leb 1 (count_of v L) && leb (count_of v L) 12 && eqb L (body_length v (count_of v L))

-- The version that L belongs to; none belongs to both (`version_is`). For an L of neither, which is 13 first, this is Two.
unfoldable pub version_for : ℕ → Version
version_for L = cond (is_length One L) One Two

abbrev pub version_in : List ℕ → Version
version_in b = version_for (two_in b)

-- Bytes: 11 for under two bytes, 13, 11, 12, 14, 15. 14 is for a version other than 1 and 2, and "also for a version that doesn't match its
-- length" (`bad_version`).
abbrev pub read_order : List ℕ → List Condition
read_order b =
    (TooFewBytes when ltb (length b) 2)
    ∷ (BadLength when not (is_length One (two_in b) || is_length Two (two_in b)))
    ∷ (TooFewBytes when ltb (length b) (2 + two_in b))
    ∷ (TooManyBytes when ltb (2 + two_in b) (length b))
    ∷ (BadVersion when not (eqb (get_or b 2 0) (version_number (version_in b))))
    ∷ (BadCount when not (eqb (get_or (tail_in (version_in b) b) 32 0) (count_of (version_in b) (two_in b))))
    ∷ []

-- bytes of a version that are refused for none of these (`header`, `headed`)
pub record Header (v : Version) (b : List ℕ) : Type 0 where
  pub n : ℕ
  pub some : 1 ≤ n
  pub few : n ≤ 12
  pub whole : length b ≡ whole_length v n
  pub body : two_in b ≡ body_length v n
  pub version : get_or b 2 0 ≡ version_number v
  pub count : get_or (tail_in v b) 32 0 ≡ n

-- Bytes of version 1 as version 2 has them: L is greater by 4, and after fields 1 to 6 stands field 20, 1,000.
abbrev pub renewed : List ℕ → List ℕ
renewed b = two (two_in b + 4) ++ (2 ∷ (take 24 (drop 3 b) ++ (four 1000 ++ drop 27 b)))
