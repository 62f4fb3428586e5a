-- The cases that document 01 marks ◆: "The example tank" with the figures changed that the case names, and what its
-- report then says, its earthquake pull by document 02, S-5, and its needs by S-7; beside them the case of S-3, a plate a mil below its
-- need (S-7), and tanks with liquor in them (S-8). The uses of either way of standing. And the same tank with its anchors left out (S-1), on
-- bolts of size 6 (S-10), and with water above its shell.
use Rattle.std.specs.Prelude.{List, [], ◌∷◌, ℕ, ◌-◌, ℤ, pos, neg_ℤ, get_or, replicate, Some, None, Float}
use Rattle.fields.specs.Refusal.{plain}
use Rattle.fields.specs.declared.refusal.Code.{Code}
use Rattle.stability.specs.Earthquake.{uplift_word}
use Rattle.rules.specs.Verdict.{verdict_word, use_of}
use Rattle.rules.specs.Words.{ok_word, short_word, none_word, lift_word, over_word}
use Rattle.fields.specs.Order.{answer_code}
use Rattle.entries.specs.Sheet.{blank_course, no_anchors}
use Rattle.entries.specs.declared.sheet.Anchors.{Anchors}
use Rattle.entries.specs.declared.sheet.Course.{Course}
use Rattle.entries.specs.declared.sheet.Sheet.{Sheet}
use Rattle.reports.specs.Words.{tank_word}
use Rattle.reports.specs.Blank.{blank_line}
use Rattle.claims.specs.Judging.{judged}
use Rattle.reports.specs.declared.report.SelfChecks.{SelfChecks}
use Rattle.reports.specs.declared.report.AnchorChecks.{AnchorChecks}
use Rattle.reports.specs.declared.report.Standing.{Standing}
use Rattle.reports.specs.declared.report.Standing.TheVariants.{SelfAnchored, Anchored}
use Rattle.reports.specs.declared.report.Report.{Report}

-- "D 14,400, H 28,800, W 11,000, bottom 250, 0, 36,000; V 105, Kz 109, I 115, Av 27, Ms 30,000; N 6, B 14,800, d 8; three courses 9,600,
-- 250, 0, 15,000, 85", with a gravity, a V (v, as V is a word of the language), an Ms and anchors of one's own
abbrev pub example_of : ℕ → ℕ → ℕ → Anchors → Sheet
example_of G v Ms a =
    let c : Course = record { width = 9600; plate = 250; allowance = 0; stress = 15000; efficiency = 85 } in
    record {
      tank = Some (record { diameter = 14400; level = 28800; weight = 11000; plate = 250; allowance = 0; fy = 36000; gravity = G });
      site = Some (record { speed = v; exposure = 109; importance = 115; vertical = 27; moment = Ms });
      anchors = Some a;
      courses = c ∷ c ∷ c ∷ replicate 9 blank_course;
      count = 3;
    }

-- with water in it
abbrev pub example_with : ℕ → ℕ → Anchors → Sheet
example_with = example_of 1000

abbrev pub six_on : ℕ → Anchors
six_on B = record { number = 6; circle = B; size = 8 }

abbrev pub example : Sheet
example = example_with 105 30000 (six_on 14800)

-- and with its anchors left out
abbrev pub example_unstated : Sheet
example_unstated =
    record { tank = example.tank; site = example.site; anchors = None; courses = example.courses; count = example.count }

-- On bolts of size 6, with a gravity of one's own; and with its site left out, or its courses (S-10).
abbrev pub on_size_6 : ℕ → Sheet
on_size_6 G = example_of G 105 30000 (record { number = 6; circle = 14800; size = 6 })

abbrev pub without_site : Sheet
without_site = let s = on_size_6 1000 in record { tank = s.tank; site = None; anchors = s.anchors; courses = s.courses; count = s.count }

abbrev pub without_course : Sheet
without_course = let s = on_size_6 1000 in record { tank = s.tank; site = s.site; anchors = s.anchors; courses = replicate 12 blank_course; count = 0 }

-- "H 28,801 is refused 37": the shell is 28,800 high
abbrev pub example_above : Sheet
example_above =
    record {
      tank = Some (record { diameter = 14400; level = 28801; weight = 11000; plate = 250; allowance = 0; fy = 36000; gravity = 1000 });
      site = example.site;
      anchors = example.anchors;
      courses = example.courses;
      count = example.count;
    }

-- "The tank in source document 002 (12 ft across, 24 ft of water, 21,000 psi, efficiency 0.70, 8 ft steps)": the example's but for stress and
-- efficiency; with a plate and an allowance of one's own
abbrev pub source002_with : ℕ → ℕ → Sheet
source002_with t c =
    let k : Course = record { width = 9600; plate = t; allowance = c; stress = 21000; efficiency = 70 } in
    record { tank = example.tank; site = example.site; anchors = example.anchors; courses = k ∷ k ∷ k ∷ replicate 9 blank_course; count = 3 }

-- A mil below its need of 205, the lowest course's plate is 3.956 above the exact one, 200.044; the other courses, and the tank in wind and
-- earthquake, have plenty to spare.
abbrev pub mil_below : Sheet
mil_below =
    let course : ℕ → Course = λ t. record { width = 14400; plate = t; allowance = 0; stress = 10000; efficiency = 50 } in
    record {
      tank = Some (record { diameter = 14400; level = 38470; weight = 100000; plate = 250; allowance = 0; fy = 36000; gravity = 1000 });
      site = Some (record { speed = 60; exposure = 100; importance = 100; vertical = 0; moment = 0 });
      anchors = Some no_anchors;
      courses = course 204 ∷ course 188 ∷ course 188 ∷ replicate 9 blank_course;
      count = 3;
    }

-- Beside document 01's example, a larger tank with liquor of 1.137 in it: allowances, another plate to each course, a wind below the least
-- pressure; with a weight, a bottom allowance, a plate of the lowest course, an Ms and anchors of one's own.
abbrev pub second_with : ℕ → ℕ → ℕ → ℕ → Anchors → Sheet
second_with W c t Ms a =
    record {
      tank = Some (record { diameter = 60001; level = 30000; weight = W; plate = 300; allowance = c; fy = 40001; gravity = 1137 });
      site = Some (record { speed = 90; exposure = 100; importance = 100; vertical = 250; moment = Ms });
      anchors = Some a;
      courses =
          record { width = 14400; plate = t; allowance = 20; stress = 20000; efficiency = 70 }
          ∷ record { width = 14400; plate = 260; allowance = 10; stress = 18000; efficiency = 85 }
          ∷ record { width = 3600; plate = 255; allowance = 5; stress = 15000; efficiency = 100 }
          ∷ replicate 9 blank_course;
      count = 3;
    }

-- What a report says at one place: a number, a word, or a use; of the other way of standing there is nothing to say.
pub data Excerpt : Type 0 where
  number : ℤ → Excerpt
  word : List ℕ → Excerpt
  use_is : Float → Excerpt
  nothing : Excerpt

-- of the course with this number, from 1 on
abbrev pub need_of : ℕ → Report → Excerpt
need_of k report = number (pos (get_or report.lines (k - 1) blank_line).need)

abbrev pub required_of : ℕ → Report → Excerpt
required_of k report = number (pos (get_or report.lines (k - 1) blank_line).required)

abbrev pub course_word : ℕ → Report → Excerpt
course_word k report = word (verdict_word (get_or report.lines (k - 1) blank_line).verdict)

abbrev pub pressure : Report → Excerpt
pressure report = number (pos report.pressure)

abbrev pub by_standing : (SelfChecks → Excerpt) → (AnchorChecks → Excerpt) → Standing → Excerpt
by_standing self anchored (SelfAnchored checks) = self checks
by_standing self anchored (Anchored checks) = anchored checks

abbrev pub wind_pull_of : Report → Excerpt
wind_pull_of report = by_standing (λ checks. nothing) (λ checks. number checks.wind_pull) report.standing

abbrev pub quake_pull_of : Report → Excerpt
quake_pull_of report = by_standing (λ checks. nothing) (λ checks. number checks.quake_pull) report.standing

abbrev pub spacing : Report → Excerpt
spacing report = by_standing (λ checks. nothing) (λ checks. word (verdict_word checks.spacing)) report.standing

abbrev pub lift : Report → Excerpt
lift report = by_standing (λ checks. word (uplift_word checks.uplift)) (λ checks. nothing) report.standing

-- the two uses of its way of standing
abbrev pub first_use : Report → Excerpt
first_use report = use_is report.uses.first

abbrev pub second_use : Report → Excerpt
second_use report = use_is report.uses.second

abbrev pub tank_called : Report → Excerpt
tank_called report = word (tank_word report.word)

pub record Case : Type 0 where
  pub by : ℕ
  pub sheet : Sheet
  pub part : Report → Excerpt
  pub expects : Excerpt

-- by the method with this number
abbrev pub case_by : ℕ → Sheet → (Report → Excerpt) → Excerpt → Case
case_by n sheet part expects = record { by = n; sheet = sheet; part = part; expects = expects }

abbrev pub case : Sheet → (Report → Excerpt) → Excerpt → Case
case = case_by 1

abbrev pub proved_cases : List Case
proved_cases =
    case example (need_of 1) (number (pos 60))
    ∷ case example (need_of 2) (number (pos 40))
    ∷ case example (need_of 3) (number (pos 20))
    ∷ case (example_with 96 30000 (six_on 14800)) pressure (number (pos 1800))
    ∷ case (example_with 97 30000 (six_on 14800)) pressure (number (pos 1812))
    ∷ case example quake_pull_of (number (neg_ℤ (pos 191)))
    -- "The wind pull is unchanged"
    ∷ case example wind_pull_of (number (pos 2133))
    ∷ case (example_with 105 30000 (six_on 22918)) spacing (word ok_word)
    ∷ case (example_with 105 30000 (six_on 22919)) spacing (word short_word)
    ∷ case (example_with 105 74297 no_anchors) lift (word none_word)
    ∷ case (example_with 105 74298 no_anchors) lift (word lift_word)
    ∷ case (example_with 105 145754 no_anchors) lift (word lift_word)
    ∷ case (example_with 105 145755 no_anchors) lift (word over_word)
    ∷ case_by 2 (source002_with 250 0) (need_of 1) (number (pos 50))
    ∷ case_by 2 (source002_with 250 0) (need_of 2) (number (pos 35))
    ∷ case_by 2 (source002_with 250 0) (need_of 3) (number (pos 15))
    -- with an allowance of 138 the 50 come to just the floor, D100's 55 to five mils more; with one of 139 the 50 come to 189, which is
    -- not rounded up again
    ∷ case_by 2 (source002_with 188 138) (required_of 1) (number (pos 188))
    ∷ case_by 2 (source002_with 188 138) (course_word 1) (word ok_word)
    ∷ case (source002_with 188 138) (required_of 1) (number (pos 193))
    ∷ case (source002_with 188 138) (course_word 1) (word short_word)
    ∷ case_by 2 (source002_with 188 139) (required_of 1) (number (pos 189))
    ∷ case_by 2 (source002_with 188 139) (course_word 1) (word short_word)
    -- spacing, 355 × B over 1,356,000 × N, and strength, 1,000 × pull over 19,950 × A; with N = 0 wind, 3,600 × M over W × D, and earthquake,
    -- 1,000 × Ms over 1,540 × T
    ∷ case example first_use (use_is (use_of 5254000 8136000))
    ∷ case example second_use (use_is (use_of 2133000 12089700))
    ∷ case (example_with 105 30000 no_anchors) first_use (use_is (use_of 264135600 158400000))
    ∷ case (example_with 105 30000 no_anchors) second_use (use_is (use_of 30000000 145754840))
    -- S-8: with liquor of gravity 1.3 the exact needs 58.7, 39.2 and 19.6 are 76.3, 50.9 and 25.4, and with 1.137 they are 66.8, 44.5 and 22.3;
    -- T, of a cap of 47,923 in place of 36,864, is 110,571
    ∷ case (example_of 1300 105 30000 (six_on 14800)) (need_of 1) (number (pos 80))
    ∷ case (example_of 1300 105 30000 (six_on 14800)) (need_of 2) (number (pos 55))
    ∷ case (example_of 1300 105 30000 (six_on 14800)) (need_of 3) (number (pos 30))
    ∷ case (example_of 1137 105 30000 (six_on 14800)) (need_of 1) (number (pos 70))
    ∷ case_by 2 (example_of 1137 105 30000 (six_on 14800)) (need_of 1) (number (pos 65))
    ∷ case (example_of 1300 105 86798 no_anchors) lift (word none_word)
    ∷ case (example_of 1300 105 86799 no_anchors) lift (word lift_word)
    ∷ case (example_of 1300 105 170279 no_anchors) lift (word lift_word)
    ∷ case (example_of 1300 105 170280 no_anchors) lift (word over_word)
    -- a bottom plate so thin that the root limits T, 31,807,410: with the yield of 40,001 psi in liquor of 1.137, 45,481
    ∷ case (second_with 2000000 150 300 24968816 no_anchors) lift (word none_word)
    ∷ case (second_with 2000000 150 300 24968817 no_anchors) lift (word lift_word)
    ∷ case (second_with 2000000 150 300 48983411 no_anchors) lift (word lift_word)
    ∷ case (second_with 2000000 150 300 48983412 no_anchors) lift (word over_word)
    ∷ case mil_below (need_of 1) (number (pos 205))
    ∷ case mil_below tank_called (word short_word)
    ∷ []

-- What judging a case's sheet comes to: no refusal, and what the case says.
pub record Outcome : Type 0 where
  pub answer : Code
  pub excerpt : Excerpt

abbrev pub outcome : Case → Outcome
outcome c =
    let j = judged c.by c.sheet in
    record { answer = answer_code j.answer; excerpt = c.part j.report }

abbrev pub expected : Case → Outcome
expected c = record { answer = plain 0; excerpt = c.expects }
