-- What pins the definitions at literal figures: the charts once more, as source 003 prints them (Tables 26 and 27), the bytes that are
-- classes, questions with their answers, document 02's example first, and where the greatest values are reached.
use Rattle.std.specs.Prelude.{List, [], ◌∷◌, ◌++◌, map, cond, ℕ, zero, suc, ◌*◌, get_or}
use Prim.Native.String.{String}
use Rattle.lists.specs.Ascii.{ascii}
use Rattle.fields.specs.Refusal.{plain}
use Rattle.ground.specs.Chart.{Chart, row, coefficient_of}
use Rattle.ground.specs.Class.{is_class}
use Rattle.ground.specs.Motion.{MotionCode, sds_of, sd1_of, vertical_of, motion_code, ground_motion}
use Rattle.ground.specs.declared.motion.DesignValues.{DesignValues}

abbrev pub table26 : List (List ℕ)
table26 =
    row 8 8 8 8 8
    ∷ row 10 10 10 10 10
    ∷ row 12 12 11 10 10
    ∷ row 16 14 12 11 10
    ∷ row 25 17 12 9 9
    ∷ []

abbrev pub table27 : List (List ℕ)
table27 =
    row 8 8 8 8 8
    ∷ row 10 10 10 10 10
    ∷ row 17 16 15 14 13
    ∷ row 24 20 18 16 15
    ∷ row 35 32 28 24 24
    ∷ []

-- a table's figures, in tenths, as coefficients over 10 × step
abbrev pub scaled : ℕ → List (List ℕ) → List (List ℕ)
scaled step table = map (map (λ (f : ℕ). f * step)) table

-- what a chart gives at its own columns, class by class
abbrev pub at_columns : Chart → List (List ℕ)
at_columns c =
    map (λ (class : ℕ). map (λ (k : ℕ). coefficient_of c class (k * c.step)) (row 1 2 3 4 5)) (ascii "ABCDE")

-- the bytes below n that are classes
abbrev pub classes_below : ℕ → List ℕ
classes_below zero = []
classes_below (suc n) = cond (is_class n) (classes_below n ++ (n ∷ [])) (classes_below n)

pub record MotionCase : Type 0 where
  pub class : ℕ
  pub Ss : ℕ
  pub S1 : ℕ
  pub answer : MotionCode

abbrev pub letter : String → ℕ
letter c = get_or (ascii c) 0 0

abbrev pub gives : String → ℕ → ℕ → ℕ → ℕ → ℕ → MotionCase
gives c Ss S1 sds sd1 vertical =
    record { class = letter c; Ss = Ss; S1 = S1; answer = record { code = plain 0; values = record { sds = sds; sd1 = sd1; vertical = vertical } } }

abbrev pub refuses : String → ℕ → ℕ → ℕ → MotionCase
refuses c Ss S1 number = record { class = letter c; Ss = Ss; S1 = S1; answer = record { code = plain number; values = record { sds = 0; sd1 = 0; vertical = 0 } } }

abbrev pub motion_cases : List MotionCase
motion_cases =
    gives "C" 240 93 720000 158100 27  -- document 02: SDS 0.192, SD1 0.1054
    ∷ gives "A" 40 0 80000 0 3  -- SDS is 0.02133..; rounded up to a thousandth first it would give Av 4
    ∷ gives "E" 875 250 2296875 750000 86  -- mid-way between columns: Fa 1.05, Fv 3.0
    ∷ gives "E" 500 100 2125000 350000 80  -- on columns: Fa 1.7, Fv 3.5
    ∷ gives "D" 600 130 1980000 296400 74  -- between columns: Fa 1.32, Fv 2.28
    ∷ gives "E" 900 350 2295000 910000 86  -- on the third lines: Fa 1.02, Fv 2.6
    ∷ gives "D" 1103 450 2919641 697500 109  -- on the last lines: Fa 1.0588, Fv 1.55; 0.14 × SDS is just below 0.109
    ∷ gives "B" 75 0 187500 0 7  -- 0.14 × SDS is 0.007 exactly
    ∷ gives "E" 296 147 1741072 493773 66  -- 0.14 × SDS is just above 0.065
    ∷ gives "D" 3000 3000 7500000 4500000 280  -- past the last columns
    ∷ gives "B" 0 0 0 0 0
    ∷ refuses "C" 3001 0 40
    ∷ refuses "C" 0 3001 40
    ∷ refuses "F" 0 0 41
    ∷ refuses "c" 240 93 41
    ∷ refuses "@" 3001 3001 41
    ∷ []

abbrev pub answered : MotionCase → MotionCode
answered q = motion_code (ground_motion q.class q.Ss q.S1)

-- the greatest values, where they are reached
abbrev pub reached : DesignValues
reached =
    let sds = sds_of (letter "D") 3000 in
    record { sds = sds; sd1 = sd1_of (letter "E") 3000; vertical = vertical_of sds }
