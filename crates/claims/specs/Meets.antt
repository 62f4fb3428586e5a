-- Demand 3 in fractions: document 01, the end of "The rules"; document 02, S-3, S-5, S-7 and S-8. The exact rules take the fields only,
-- nothing of the report, and round nothing but the yield in wL's root ("the yield alone being rounded"); one text serves every margin and
-- either method for hoop need. Fractions are compared as whole numbers, their divisors multiplied out.
use Rattle.std.specs.Prelude.{◌≡◌, List, [], ◌∷◌, ◌⊎◌, ℕ, ◌+◌, ◌*◌, ◌≤◌, ◌<◌}
use Rattle.lists.specs.Ascii.{ascii}
use Rattle.exact.specs.Quotient.{Ratio, whole, plus}
use Rattle.fields.specs.Refusal.{plain}
use Rattle.stability.specs.Anchors.{pull_margin}
use Rattle.stability.specs.Earthquake.{resistance_margin}
use Rattle.rules.specs.Hoop.{plate_floor, plate_margin}
use Rattle.rules.specs.Method.{method_number}
use Rattle.rules.specs.Wind.{moment_margin}
use Rattle.rules.specs.declared.method.Method.{Method}
use Rattle.fields.specs.Order.{answer_code}
use Rattle.entries.specs.Sheet.{height_of}
use Rattle.entries.specs.declared.sheet.Tank.{Tank}
use Rattle.entries.specs.declared.sheet.Site.{Site}
use Rattle.entries.specs.declared.sheet.Anchors.{Anchors}
use Rattle.entries.specs.declared.sheet.Course.{Course}
use Rattle.sheet.specs.Complete.{courses_of}
use Rattle.entries.specs.declared.complete.Entries.{Entries}
use Rattle.claims.specs.Figures.{need_exact_on, moment_exact_on, ResistsOn, wind_weight, quake_weight, StrongOn}
use Rattle.reports.specs.Words.{tank_word}
use Rattle.reports.specs.declared.report.Judgement.{Judgement}

-- what each exact figure is shifted by, against the tank
pub record Margins : Type 0 where
  pub plate : Ratio
  pub moment : Ratio
  pub resistance : Ratio
  pub pull : Ratio

-- "with each margin m at 0"
abbrev pub no_margins : Margins
no_margins = record { plate = whole 0; moment = whole 0; resistance = whole 0; pull = whole 0 }

-- "with each m as given": 5, by S-7; D × Hs × Hs / 345,600,000,000 + 1; D × D / 72,000,000 + 1; 1
abbrev pub margins_for : ℕ → ℕ → Margins
margins_for D Hs =
    record {
      plate = plate_margin;
      moment = moment_margin D Hs;
      resistance = resistance_margin D;
      pull = pull_margin;
    }

-- an exact hoop need + m + c
abbrev pub plate_with : Margins → Ratio → Course → Ratio
plate_with margins need course = plus (plus need margins.plate) (whole course.allowance)

module _ (margins : Margins) (tank : Tank) where
  -- "Each course: t at least the floor, and at least 13 × h × D / (72 × s × E) + m + c", that need being given, with the gravity
  pub record CourseMeets (need : Ratio) (course : Course) : Type 0 where
    pub floor : plate_floor tank.diameter ≤ course.plate
    pub hoop : (plate_with margins need course).num ≤ course.plate * (plate_with margins need course).den

  -- each with the method's need, unrounded, the first one's bottom edge at y
  abbrev pub CoursesMeet : Method → ℕ → List Course → Type 0
  CoursesMeet method y [] = Unit {0}
  CoursesMeet method y (course ∷ above) =
      CourseMeets (need_exact_on method tank y course) course × CoursesMeet method (y + course.width) above

  module _ (site : Site) (Hs : ℕ) where
    -- "Moment: .. M is p × D × Hs × Hs / 345,600,000,000 + m", with the unrounded p
    abbrev pub moment_with : Ratio
    moment_with = plus (moment_exact_on tank site Hs) margins.moment

    -- "N = 0: 3,600 × M at most W × D"; and the resistance is at least 1,000 × Ms / 1,540 + m (`Resists` has document 01's x and its two
    -- conditions)
    pub record SelfMeets : Type 0 where
      pub wind : 3600 * moment_with.num ≤ tank.weight * tank.diameter * moment_with.den
      pub quake : ResistsOn tank site (plus (record { num = 1000 * site.moment; den = 1540 }) margins.resistance)

    -- "N above 0: the spacing rule; and for this M and for Ms" the strength rule with m (`Strong` has the fraction); "the reduced weight,
    -- unrounded, for Ms, and W as before for M"
    pub record AnchorsMeet (anchors : Anchors) : Type 0 where
      pub spacing : 355 * anchors.circle ≤ 1356000 * anchors.number
      pub wind : StrongOn anchors (wind_weight tank) moment_with margins.pull
      pub quake : StrongOn anchors (quake_weight tank site) (whole site.moment) margins.pull

-- All of the rules together: every course, and those of its way of standing.
pub record Meets (method : Method) (margins : Margins) (tank : Tank) (site : Site) (anchors : Anchors) (courses : List Course) : Type 0 where
  pub each_course : CoursesMeet margins tank method 0 courses
  pub self_anchored : anchors.number ≡ 0 → SelfMeets margins tank site (height_of courses)
  pub anchored : 0 < anchors.number → AnchorsMeet margins tank site (height_of courses) anchors

-- the same of a sheet's entries, and its margins
abbrev pub MeetsWith : Method → Margins → Entries → Type 0
MeetsWith method margins e = Meets method margins e.tank e.site e.anchors (courses_of e)

abbrev pub margins_of : Entries → Margins
margins_of e = margins_for e.tank.diameter (height_of (courses_of e))

-- Demand 3, of a sheet's entries and the judgement on it by a method, where that is no refusal: its word is one of document 01's two; "If
-- the word is sound, all of them hold with each margin m at 0; if it is short, not all of them hold with each m as given".
pub record Justified (method : Method) (e : Entries) (j : Judgement) : Type 0 where
  pub called : answer_code j.answer ≡ plain 0 → (tank_word j.report.word ≡ ascii "sound") ⊎ (tank_word j.report.word ≡ ascii "short")
  pub sound : answer_code j.answer ≡ plain 0 → tank_word j.report.word ≡ ascii "sound" → MeetsWith method no_margins e
  pub short : answer_code j.answer ≡ plain 0 → tank_word j.report.word ≡ ascii "short" → MeetsWith method (margins_of e) e → ⊥

-- the same of a number: where there is a report, a method has this number, and its rules bear out the word
abbrev pub JustifiedBy : ℕ → Entries → Judgement → Type 0
JustifiedBy n e j = answer_code j.answer ≡ plain 0 → (method : Method) × ((n ≡ method_number method) × Justified method e j)
