-- Document 01's example tank as its bytes, by either version, written out, so that no change of the layout both ways goes unseen; with a
-- liquor in it, and on bolts of size 6.
use Rattle.std.specs.Prelude.{List, [], ◌∷◌, ◌++◌, ℕ}
use Rattle.entries.specs.declared.sheet.Tank.{Tank}
use Rattle.entries.specs.declared.sheet.Site.{Site}
use Rattle.entries.specs.declared.sheet.Anchors.{Anchors}
use Rattle.entries.specs.declared.sheet.Course.{Course}

abbrev pub example_tank : Tank
example_tank = record { diameter = 14400; level = 28800; weight = 11000; plate = 250; allowance = 0; fy = 36000; gravity = 1000 }

abbrev pub liquor_tank : Tank
liquor_tank = record { diameter = 14400; level = 28800; weight = 11000; plate = 250; allowance = 0; fy = 36000; gravity = 1137 }

abbrev pub example_site : Site
example_site = record { speed = 105; exposure = 109; importance = 115; vertical = 27; moment = 30000 }

abbrev pub example_anchors : Anchors
example_anchors = record { number = 6; circle = 14800; size = 8 }

abbrev pub example_courses : List Course
example_courses =
    let c : Course = record { width = 9600; plate = 250; allowance = 0; stress = 15000; efficiency = 85 } in c ∷ c ∷ c ∷ []

-- fields 1 to 6
abbrev pub six_fields : List ℕ
six_fields =
    0 ∷ 0 ∷ 56 ∷ 64 ∷ 0 ∷ 0 ∷ 112 ∷ 128 ∷ 0 ∷ 0 ∷ 42 ∷ 248 ∷ 0 ∷ 0 ∷ 0 ∷ 250 ∷ 0 ∷ 0 ∷ 0 ∷ 0 ∷ 0 ∷ 0 ∷ 140 ∷ 160 ∷ []

-- 7 to 11; 12 to 14, of a bolt size d; n; fields 15 to 19 three times
abbrev pub tail_with : ℕ → List ℕ
tail_with d =
    0 ∷ 0 ∷ 0 ∷ 105 ∷ 0 ∷ 0 ∷ 0 ∷ 109 ∷ 0 ∷ 0 ∷ 0 ∷ 115 ∷ 0 ∷ 0 ∷ 0 ∷ 27 ∷ 0 ∷ 0 ∷ 117 ∷ 48
    ∷ 0 ∷ 0 ∷ 0 ∷ 6 ∷ 0 ∷ 0 ∷ 57 ∷ 208 ∷ 0 ∷ 0 ∷ 0 ∷ d
    ∷ 3
    ∷ 0 ∷ 0 ∷ 37 ∷ 128 ∷ 0 ∷ 0 ∷ 0 ∷ 250 ∷ 0 ∷ 0 ∷ 0 ∷ 0 ∷ 0 ∷ 0 ∷ 58 ∷ 152 ∷ 0 ∷ 0 ∷ 0 ∷ 85
    ∷ 0 ∷ 0 ∷ 37 ∷ 128 ∷ 0 ∷ 0 ∷ 0 ∷ 250 ∷ 0 ∷ 0 ∷ 0 ∷ 0 ∷ 0 ∷ 0 ∷ 58 ∷ 152 ∷ 0 ∷ 0 ∷ 0 ∷ 85
    ∷ 0 ∷ 0 ∷ 37 ∷ 128 ∷ 0 ∷ 0 ∷ 0 ∷ 250 ∷ 0 ∷ 0 ∷ 0 ∷ 0 ∷ 0 ∷ 0 ∷ 58 ∷ 152 ∷ 0 ∷ 0 ∷ 0 ∷ 85
    ∷ []

abbrev pub tail_bytes : List ℕ
tail_bytes = tail_with 8

-- L and version, and in version 2 field 20
abbrev pub old_with : ℕ → List ℕ
old_with d = 0 ∷ 118 ∷ 1 ∷ (six_fields ++ tail_with d)

abbrev pub old_bytes : List ℕ
old_bytes = old_with 8

abbrev pub new_with : ℕ → List ℕ
new_with d = 0 ∷ 122 ∷ 2 ∷ (six_fields ++ (0 ∷ 0 ∷ 3 ∷ 232 ∷ tail_with d))

abbrev pub example_bytes : List ℕ
example_bytes = new_with 8

abbrev pub liquor_bytes : List ℕ
liquor_bytes = 0 ∷ 122 ∷ 2 ∷ (six_fields ++ (0 ∷ 0 ∷ 4 ∷ 113 ∷ tail_bytes))
