-- What guards demand 3 on its weak side: a larger margin, an exact figure rounded within its margin, or a rule that asks more than document
-- 01's would only weaken the claim, and the other proofs would not refuse it. So exact figures and margins stand at literal numbers on two
-- tanks, and each exact rule has sheets at its edge. And on the strong side, a sheet with which half of the plate's margin is too little.
use Rattle.std.specs.Prelude.{List, [], ◌∷◌, ◌++◌, ℕ, ◌+◌, replicate, Some}
use Rattle.exact.specs.Quotient.{Ratio, whole}
use Rattle.rules.specs.declared.method.Method.{Method}
use Rattle.rules.specs.declared.method.Method.TheVariants.{D100, Api650}
use Rattle.stability.specs.Earthquake.{shell_exact, cap_exact, root_most}
use Rattle.entries.specs.Sheet.{no_anchors, blank_course, height_of}
use Rattle.entries.specs.declared.sheet.Course.{Course}
use Rattle.entries.specs.declared.sheet.Sheet.{Sheet}
use Rattle.sheet.specs.Complete.{entries_of, courses_of}
use Rattle.entries.specs.declared.complete.Entries.{Entries}
use Rattle.claims.specs.Cases.{example_with, six_on, example, source002_with, second_with}
use Rattle.claims.specs.Figures.{yield_on, need_exact_on, moment_exact_on, bottom_plate, wind_weight, quake_weight}
use Rattle.claims.specs.Meets.{Margins, no_margins, plate_with, moment_with, MeetsWith, margins_of}

infix 40 ◌over◌
abbrev pub ◌over◌ : ℕ → ℕ → Ratio
n over d = record { num = n; den = d }

abbrev pub second_tank : Sheet
second_tank = second_with 200000 50 300 2000000 (record { number = 12; circle = 61000; size = 12 })

-- each course in turn, from the bottom edge y on
abbrev pub by_course : (ℕ → Course → Ratio) → ℕ → List Course → List Ratio
by_course f y [] = []
by_course f y (course ∷ above) = f y course ∷ by_course f (y + course.width) above

-- 13 × h × D × G / (72 × s × E × 1,000) of each course, by D100, then by API 650 with h - 1,200, or 0, for h; p × D × Hs × Hs / 345,600,000,000, p being
-- 6 × Kz × I × V × V / 390,625 or 1,800; wt, 2,712,000 × W × (10,000 - 4 × Av) / (710,000 × D); H × D × G / 11,250,000; 6,241 × tb × tb × y × H,
-- y being Fy × G / 1,000 rounded down;
-- the dead weight that resists uplift, W, and in an earthquake W × (10,000 - 4 × Av) / 10,000
abbrev pub exact_figures : Entries → List Ratio
exact_figures e =
    by_course (need_exact_on D100 e.tank) 0 (courses_of e)
    ++ by_course (need_exact_on Api650 e.tank) 0 (courses_of e)
    ++ moment_exact_on e.tank e.site (height_of (courses_of e))
    ∷ shell_exact e.tank.weight e.site.vertical e.tank.diameter
    ∷ cap_exact e.tank.level e.tank.diameter e.tank.gravity
    ∷ whole (root_most (bottom_plate e.tank) (yield_on e.tank) e.tank.level)
    ∷ wind_weight e.tank
    ∷ quake_weight e.tank e.site
    ∷ []

-- 5; D × Hs × Hs / 345,600,000,000 + 1; D × D / 72,000,000 + 1; 1
abbrev pub margin_list : Entries → List Ratio
margin_list e = let m = margins_of e in m.plate ∷ m.moment ∷ m.resistance ∷ m.pull ∷ []

abbrev pub plate_on : Method → Entries → ℕ → Course → Ratio
plate_on method e y course = plate_with (margins_of e) (need_exact_on method e.tank y course) course

-- need + m + c of each course, by D100, then by API 650, and M + m
abbrev pub shifted_figures : Entries → List Ratio
shifted_figures e =
    by_course (plate_on D100 e) 0 (courses_of e)
    ++ by_course (plate_on Api650 e) 0 (courses_of e)
    ++ moment_with (margins_of e) e.tank e.site (height_of (courses_of e))
    ∷ []

pub record Pinned : Type 0 where
  pub exact : List Ratio
  pub margins : List Ratio
  pub shifted : List Ratio

abbrev pub pinned_on : Sheet → Pinned
pinned_on s = let e = entries_of s in record { exact = exact_figures e; margins = margin_list e; shifted = shifted_figures e }

abbrev pub example_exact : List Ratio
example_exact =
    (5391360000000 over 91800000000)
    ∷ (3594240000000 over 91800000000)
    ∷ (1797120000000 over 91800000000)
    ∷ (5166720000000 over 91800000000)
    ∷ (3369600000000 over 91800000000)
    ∷ (1572480000000 over 91800000000)
    ∷ (9903795277824000000000 over 135000000000000000)
    ∷ (295098144000000 over 10224000000)
    ∷ (414720000000 over 11250000)
    ∷ (404416800000000000 over 1)
    ∷ (11000 over 1)
    ∷ (108812000 over 10000)
    ∷ []

abbrev pub example_margins : List Ratio
example_margins =
    (5 over 1)
    ∷ (12289536000000 over 345600000000)
    ∷ (279360000 over 72000000)
    ∷ (1 over 1)
    ∷ []

abbrev pub example_shifted : List Ratio
example_shifted =
    (5850360000000 over 91800000000)
    ∷ (4053240000000 over 91800000000)
    ∷ (2256120000000 over 91800000000)
    ∷ (5625720000000 over 91800000000)
    ∷ (3828600000000 over 91800000000)
    ∷ (2031480000000 over 91800000000)
    ∷ (3424410735375974400000000000000000 over 46656000000000000000000000000)
    ∷ []

abbrev pub second_exact : List Ratio
second_exact =
    (26606243430000 over 100800000000)
    ∷ (13835246583600 over 110160000000)
    ∷ (1064249737200 over 108000000000)
    ∷ (25541993692800 over 100800000000)
    ∷ (12770996846400 over 110160000000)
    ∷ (0 over 108000000000)
    ∷ (44287488112500000000000 over 135000000000000000)
    ∷ (4881600000000000 over 42600710000)
    ∷ (2046634110000 over 11250000)
    ∷ (532212976875000000 over 1)
    ∷ (200000 over 1)
    ∷ (1800000000 over 10000)
    ∷ []

abbrev pub second_margins : List Ratio
second_margins =
    (5 over 1)
    ∷ (63332249760000 over 345600000000)
    ∷ (3672120001 over 72000000)
    ∷ (1 over 1)
    ∷ []

abbrev pub second_shifted : List Ratio
second_shifted =
    (29126243430000 over 100800000000)
    ∷ (15487646583600 over 110160000000)
    ∷ (2144249737200 over 108000000000)
    ∷ (28061993692800 over 100800000000)
    ∷ (14423396846400 over 110160000000)
    ∷ (1080000000000 over 108000000000)
    ∷ (15314305745397600000000000000000000 over 46656000000000000000000000000)
    ∷ []

abbrev pub sheets : List Sheet
sheets = example ∷ second_tank ∷ []

abbrev pub expected_figures : List Pinned
expected_figures =
    record { exact = example_exact; margins = example_margins; shifted = example_shifted }
    ∷ record { exact = second_exact; margins = second_margins; shifted = second_shifted }
    ∷ []

-- Sheets at the edge of each exact rule: one that just meets all of them with the margins, and one that, varied in
-- a field of that rule, no longer does without.
pub record Edge : Type 0 where
  pub meets : Sheet
  pub breaks : Sheet

-- document 01's example without anchors, of another weight and with liquor in it; the second tank with sixteen anchors and another plate to its lowest course;
-- the second tank without anchors, heavier and of another allowance to its bottom; and a slender tank in the strongest wind, where the
-- greatest Av makes no difference
abbrev pub self_anchored : ℕ → ℕ → Sheet
self_anchored W Ms =
    record {
      tank = Some (record { diameter = 14400; level = 28800; weight = W; plate = 250; allowance = 0; fy = 36000; gravity = 1137 });
      site = (example_with 105 Ms no_anchors).site;
      anchors = Some no_anchors;
      courses = (example_with 105 Ms no_anchors).courses;
      count = 3;
    }

abbrev pub anchored_with : ℕ → Sheet
anchored_with t = second_with 200000 50 t 2000000 (record { number = 16; circle = 61000; size = 12 })

abbrev pub root_limited : ℕ → Sheet
root_limited Ms = second_with 2000000 150 300 Ms no_anchors

abbrev pub slender : ℕ → Sheet
slender W =
    let c : Course = record { width = 12800; plate = 188; allowance = 0; stress = 15000; efficiency = 85 } in
    record {
      tank = Some (record { diameter = 12000; level = 1200; weight = W; plate = 250; allowance = 0; fy = 36000; gravity = 1000 });
      site = Some (record { speed = 150; exposure = 150; importance = 125; vertical = 500; moment = 0 });
      anchors = Some (record { number = 6; circle = 12000; size = 16 });
      courses = replicate 6 c ++ replicate 6 blank_course;
      count = 6;
    }

abbrev pub edge : Sheet → Sheet → Edge
edge meets breaks = record { meets = meets; breaks = breaks }

-- plate, by API 650 one that would not do by D100
abbrev pub plate_edge : Method → Edge
plate_edge D100 = edge (anchored_with 289) (anchored_with 283)
plate_edge Api650 = edge (source002_with 254 200) (source002_with 248 200)

-- and, the same sheets by either method: floor; self-anchored: wind, and earthquake where the cap limits the resistance and where the root
-- does; anchored: wind, earthquake, and spacing
abbrev pub edges : Method → List Edge
edges method =
    plate_edge method
    ∷ edge (source002_with 188 0) (source002_with 187 0)
    ∷ edge (self_anchored 18350 30000) (self_anchored 18340 30000)
    ∷ edge (self_anchored 18352 199730) (self_anchored 18352 199737)
    ∷ edge (root_limited 48983355) (root_limited 48983434)
    ∷ edge (slender 231680) (slender 231591)
    ∷ edge (example_with 105 257191 (six_on 14800)) (example_with 105 257210 (six_on 14800))
    ∷ edge (example_with 105 30000 (six_on 22918)) (example_with 105 30000 (six_on 22919))
    ∷ []

abbrev pub EachEdge : Method → List Edge → Type 0
EachEdge method [] = Unit {0}
EachEdge method (e ∷ es) =
    (MeetsWith method (margins_of (entries_of e.meets)) (entries_of e.meets) × (MeetsWith method no_margins (entries_of e.breaks) → ⊥))
    × EachEdge method es

-- the same margins but for that of plate
abbrev pub with_plate : Ratio → Margins → Margins
with_plate m ms = record { plate = m; moment = ms.moment; resistance = ms.resistance; pull = ms.pull }

-- A sheet with which half of the plate's margin is too little: `proved_cases` has it short, and it breaks a rule with the margins as given,
-- but meets every rule with half of the plate's margin.
pub record HalfTooLittle (method : Method) (s : Sheet) : Type 0 where
  pub breaks : MeetsWith method (margins_of (entries_of s)) (entries_of s) → ⊥
  pub meets : MeetsWith method (with_plate (5 over 2) (margins_of (entries_of s))) (entries_of s)
