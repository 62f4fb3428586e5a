-- Small files and their tallies, worked out by hand; and how many sheets may still be read after some bytes.
use Rattle.std.specs.Prelude.{List, [], ◌∷◌, ◌++◌, ℕ, take, replicate, pos, negsuc, Some, None}
use Rattle.entries.specs.Sheet.{no_anchors, blank_course}
use Rattle.entries.specs.declared.sheet.Course.{Course}
use Rattle.entries.specs.declared.sheet.Sheet.{Sheet}
use Rattle.layout.specs.Cases.{example_site, example_anchors, example_bytes, old_with, new_with, liquor_bytes}
use Rattle.sheet.specs.Complete.{entries_of}
use Rattle.sheet.specs.Writing.{bytes_of}
use Rattle.claims.specs.Cases.{example_with, example_above, source002_with}
use Rattle.tally.specs.declared.tally.Tally.{Tally}

pub record FileCase : Type 0 where
  pub bytes : List ℕ
  pub tally : Tally

abbrev pub comes_to : List ℕ → Tally → FileCase
comes_to bytes tally = record { bytes = bytes; tally = tally }

abbrev pub sheet_bytes : Sheet → List ℕ
sheet_bytes s = bytes_of (entries_of s)

-- Twelve courses of which the lowest is 1,812 and ten are 62 above the 188 that are required, and the highest is 7 below.
abbrev pub twelve_courses : Sheet
twelve_courses =
    let course : ℕ → Course = λ t. record { width = 1200; plate = t; allowance = 0; stress = 15000; efficiency = 85 } in
    record {
      tank = Some (record { diameter = 14400; level = 14400; weight = 11000; plate = 250; allowance = 0; fy = 36000; gravity = 1000 });
      site = Some example_site;
      anchors = Some example_anchors;
      courses = course 2000 ∷ (replicate 10 (course 250) ++ course 181 ∷ []);
      count = 12;
    }

-- the widest tank of the heaviest liquor, with a level and courses of one's own
abbrev pub widest : ℕ → List Course → ℕ → Sheet
widest level courses count =
    record {
      tank = Some (record { diameter = 240000; level = level; weight = 11000; plate = 250; allowance = 0; fy = 36000; gravity = 1300 });
      site = Some example_site;
      anchors = Some no_anchors;
      courses = courses;
      count = count;
    }

-- 13 × 14,400 × 240,000 × 1,300 / (72 × 10,000 × 50 × 1,000) is 1,622.4, so 1,625 are required.
abbrev pub far_below : Sheet
far_below =
    widest 14400 (record { width = 14400; plate = 100; allowance = 0; stress = 10000; efficiency = 50 } ∷ replicate 11 blank_course) 1

-- Of its heaviest need: twelve courses of 6,400 under 76,800. By the same rule the lowest is 8,652.8, and each course has a twelfth of that less
-- than the one below it: 8,655, 7,935, 7,215, 6,490, 5,770, 5,050, 4,330, 3,610, 2,885, 2,165, 1,445 and 725 in steps of five, 56,275 in all. Each
-- allowance is 250, and each plate a mil above it, so each difference is 1 less the need.
abbrev pub deepest : Sheet
deepest = widest 76800 (replicate 12 (record { width = 6400; plate = 251; allowance = 250; stress = 10000; efficiency = 50 })) 12

-- Three courses of 250 where 188 is required, by either version: 62 each. With liquor in it the same, since the floor is required. Size 6 is
-- refused in version 2 alone (39), a wind of 59 is (16), and so is water above the shell (37). Of the four that are short one is so by its first
-- course, 188 where 193 is required, and one by its standing. Then comes a length that no sheet has (13), and it stops.
abbrev pub mixed_file : List ℕ
mixed_file =
    old_with 6
    ++ new_with 6
    ++ sheet_bytes (source002_with 188 138)
    ++ sheet_bytes (example_with 59 30000 no_anchors)
    ++ liquor_bytes
    ++ sheet_bytes (example_with 105 30000 no_anchors)
    ++ sheet_bytes example_above
    ++ sheet_bytes far_below
    ++ sheet_bytes twelve_courses
    ++ 0 ∷ 81 ∷ example_bytes

abbrev pub file_cases : List FileCase
file_cases =
    comes_to [] (record { read = 0; sound = 0; short = 0; refused = 0; sum = pos 0; least = None })
    -- half of a length (11)
    ∷ comes_to (0 ∷ []) (record { read = 1; sound = 0; short = 0; refused = 1; sum = pos 0; least = None })
    -- a cut sheet (11) after a whole one; no difference is below 62
    ∷ comes_to (example_bytes ++ take 123 example_bytes) (record { read = 2; sound = 1; short = 0; refused = 1; sum = pos 186; least = Some (pos 62) })
    -- 186 three times, -5, 0 and 0, -1,525, and 2,425 of twelve courses, of which -7 is the least
    ∷ comes_to mixed_file (record { read = 10; sound = 2; short = 4; refused = 4; sum = pos 1453; least = Some (negsuc 1524) })
    -- the highest of twelve courses is the least
    ∷ comes_to (sheet_bytes twelve_courses) (record { read = 1; sound = 0; short = 1; refused = 0; sum = pos 2425; least = Some (negsuc 6) })
    -- one that is short alone, where the sum is below 0
    ∷ comes_to (sheet_bytes (source002_with 188 138)) (record { read = 1; sound = 0; short = 1; refused = 0; sum = negsuc 4; least = Some (negsuc 4) })
    -- a sum and a least of 0, which is not none
    ∷ comes_to (sheet_bytes (source002_with 188 0)) (record { read = 1; sound = 1; short = 0; refused = 0; sum = pos 0; least = Some (pos 0) })
    -- a sum past 16 bits
    ∷ comes_to (sheet_bytes deepest) (record { read = 1; sound = 0; short = 1; refused = 0; sum = negsuc 56262; least = Some (negsuc 8653) })
    ∷ []

-- While more may come: one less for each whole sheet, and none behind a length that no sheet has.
pub record RoomCase : Type 0 where
  pub bytes : List ℕ
  pub room : ℕ

abbrev pub leaves_room : List ℕ → ℕ → RoomCase
leaves_room bytes room = record { bytes = bytes; room = room }

abbrev pub room_cases : List RoomCase
room_cases =
    leaves_room [] 10000
    ∷ leaves_room (0 ∷ []) 10000
    ∷ leaves_room (0 ∷ 82 ∷ []) 10000
    ∷ leaves_room (0 ∷ 81 ∷ []) 0
    ∷ leaves_room (255 ∷ 255 ∷ []) 0
    ∷ leaves_room (take 123 example_bytes) 10000
    ∷ leaves_room (example_bytes ++ take 123 example_bytes) 9999
    ∷ leaves_room (new_with 6 ++ example_bytes ++ 0 ∷ 81 ∷ 2 ∷ []) 0
    ∷ []
