-- What a sheet holds: document 01, "Fields and their ranges" and "Filling in"; document 02, S-1 and S-8.
use Rattle.std.specs.Prelude.{sum_by, get_or, List, [], ◌∷◌, ℕ, replicate, take, None}
use Rattle.fields.specs.Order.{Figure, ◌is◌, values}
use Rattle.entries.specs.declared.sheet.Tank.{Tank}
use Rattle.entries.specs.declared.sheet.Site.{Site}
use Rattle.entries.specs.declared.sheet.Anchors.{Anchors}
use Rattle.entries.specs.declared.sheet.Course.{Course}
use Rattle.entries.specs.declared.sheet.Sheet.{Sheet}

-- The figures of each step with their fields: 1 to 6 and 20, 7 to 11, 12 to 14, 15 to 19.
abbrev pub tank_fields : Tank → List Figure
tank_fields t =
    (1 is t.diameter) ∷ (2 is t.level) ∷ (3 is t.weight) ∷ (4 is t.plate) ∷ (5 is t.allowance) ∷ (6 is t.fy) ∷ (20 is t.gravity) ∷ []

abbrev pub site_fields : Site → List Figure
site_fields x = (7 is x.speed) ∷ (8 is x.exposure) ∷ (9 is x.importance) ∷ (10 is x.vertical) ∷ (11 is x.moment) ∷ []

abbrev pub anchor_fields : Anchors → List Figure
anchor_fields a = (12 is a.number) ∷ (13 is a.circle) ∷ (14 is a.size) ∷ []

abbrev pub course_fields : Course → List Figure
course_fields c =
    (15 is c.width) ∷ (16 is c.plate) ∷ (17 is c.allowance) ∷ (18 is c.stress) ∷ (19 is c.efficiency) ∷ []

-- the same figures without the numbers of their fields
abbrev pub tank_figures : Tank → List ℕ
tank_figures t = values (tank_fields t)

abbrev pub site_figures : Site → List ℕ
site_figures x = values (site_fields x)

abbrev pub anchor_figures : Anchors → List ℕ
anchor_figures a = values (anchor_fields a)

abbrev pub course_figures : Course → List ℕ
course_figures c = values (course_fields c)

-- and from such figures what states them
abbrev pub tank_with : List ℕ → Tank
tank_with xs =
    record {
      diameter = get_or xs 0 0;
      level = get_or xs 1 0;
      weight = get_or xs 2 0;
      plate = get_or xs 3 0;
      allowance = get_or xs 4 0;
      fy = get_or xs 5 0;
      gravity = get_or xs 6 0;
    }

abbrev pub site_with : List ℕ → Site
site_with xs =
    record {
      speed = get_or xs 0 0;
      exposure = get_or xs 1 0;
      importance = get_or xs 2 0;
      vertical = get_or xs 3 0;
      moment = get_or xs 4 0;
    }

abbrev pub anchors_with : List ℕ → Anchors
anchors_with xs = record { number = get_or xs 0 0; circle = get_or xs 1 0; size = get_or xs 2 0 }

abbrev pub course_with : List ℕ → Course
course_with xs =
    record {
      width = get_or xs 0 0;
      plate = get_or xs 1 0;
      allowance = get_or xs 2 0;
      stress = get_or xs 3 0;
      efficiency = get_or xs 4 0;
    }

-- N = 0 stated: a tank without anchors
abbrev pub no_anchors : Anchors
no_anchors = record { number = 0; circle = 0; size = 0 }

-- The empty sheet: nothing is stated, and a slot that no course has been stated for holds `blank_course`. Document 02, S-1: "Unstated anchors
-- no longer count as N = 0, and the two are no longer the same sheet."
abbrev pub blank_course : Course
blank_course = record { width = 0; plate = 0; allowance = 0; stress = 0; efficiency = 0 }

abbrev pub empty_sheet : Sheet
empty_sheet =
    record {
      tank = None;
      site = None;
      anchors = None;
      courses = replicate 12 blank_course;
      count = 0;
    }

-- the courses held, from the bottom up, and their height Hs
abbrev pub held : Sheet → List Course
held s = take s.count s.courses

abbrev pub height_of : List Course → ℕ
height_of cs = sum_by (λ (c : Course). c.width) cs
