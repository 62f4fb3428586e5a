-- "The example tank" of document 01 asked about its shell compression, anchored and with N = 0, by either method, and with
-- liquor in it (S-8); where its edge just lifts; and a shell that does not hold.
use Rattle.std.specs.Prelude.{Bool, true, false, List, [], ◌∷◌, ℕ, replicate, Some}
use Rattle.fields.specs.Refusal.{plain}
use Rattle.entries.specs.Sheet.{blank_course, no_anchors}
use Rattle.entries.specs.declared.sheet.Anchors.{Anchors}
use Rattle.entries.specs.declared.sheet.Course.{Course}
use Rattle.entries.specs.declared.sheet.Sheet.{Sheet}
use Rattle.claims.specs.Cases.{example, example_of, example_with, six_on}
use Rattle.compression.specs.Compression.{CompressionCode, no_stresses, shell_compression, compression_code}

pub record Case : Type 0 where
  pub by : ℕ
  pub sheet : Sheet
  pub expects : CompressionCode

abbrev pub given : ℕ → ℕ → Bool → CompressionCode
given stress allowed holds = record { code = plain 0; stresses = record { stress = stress; allowed = allowed; holds = holds } }

abbrev pub refused : ℕ → CompressionCode
refused k = record { code = plain k; stresses = no_stresses }

abbrev pub case : ℕ → Sheet → CompressionCode → Case
case n sheet expects = record { by = n; sheet = sheet; expects = expects }

-- A tank with a water level and anchors of one's own, whose bottom course has a plate of 188 and an allowance of c, below one of 250: every
-- allowance differs, and the shell is higher than the water.
abbrev pub thin_with : ℕ → ℕ → ℕ → Anchors → Sheet
thin_with H c Ms a =
    let bottom : Course = record { width = 9601; plate = 188; allowance = c; stress = 15003; efficiency = 85 } in
    let top : Course = record { width = 9607; plate = 250; allowance = 17; stress = 15003; efficiency = 85 } in
    record {
      tank = Some (record { diameter = 14407; level = H; weight = 11003; plate = 253; allowance = 61; fy = 36001; gravity = 1000 });
      site = Some (record { speed = 105; exposure = 109; importance = 115; vertical = 271; moment = Ms });
      anchors = Some a;
      courses = bottom ∷ top ∷ replicate 10 blank_course;
      count = 2;
    }

abbrev pub six : Anchors
six = record { number = 6; circle = 14801; size = 8 }

abbrev pub proved_cases : List Case
proved_cases =
    case 1 example (given 187 11113 true)
    ∷ case 2 example (given 187 11113 true)
    ∷ case 1 (example_with 105 30000 no_anchors) (given 187 13632 true)
    ∷ case 2 (example_with 105 30000 no_anchors) (given 187 13632 true)
    -- S-8: heavier liquor helps a self-anchored tank more, and an anchored one not at all
    ∷ case 1 (example_of 1300 105 30000 no_anchors) (given 187 14253 true)
    ∷ case 2 (example_of 1137 105 30000 no_anchors) (given 187 13914 true)
    ∷ case 1 (example_of 1300 105 30000 (six_on 14800)) (given 187 11113 true)
    ∷ case 3 (example_with 105 30000 no_anchors) (refused 42)
    -- document 01's lift is "none" up to 74,297, and "over" from 145,755 on
    ∷ case 1 (example_with 105 74297 no_anchors) (given 318 13632 true)
    ∷ case 1 (example_with 105 74298 no_anchors) (refused 43)
    ∷ case 1 (example_with 105 145755 no_anchors) (refused 43)
    ∷ case 1 (example_with 105 74298 (six_on 14800)) (given 318 11113 true)
    -- the pressure is of the water level, not of the shell
    ∷ case 1 (thin_with 13007 37 20000 no_anchors) (given 276 7785 true)
    -- equality, and one psi past it
    ∷ case 1 (thin_with 19207 37 1187023 six) (given 5964 5964 true)
    ∷ case 1 (thin_with 19207 37 1187024 six) (given 5965 5964 false)
    -- a net plate of 1 mil, on the chart's last entry
    ∷ case 1 (thin_with 19207 187 57259 no_anchors) (given 69087 51 false)
    ∷ case 1 (thin_with 19207 187 57260 no_anchors) (refused 43)
    ∷ []

abbrev pub outcome : Case → CompressionCode
outcome c = compression_code (shell_compression c.by c.sheet)

abbrev pub expected : Case → CompressionCode
expected c = c.expects
