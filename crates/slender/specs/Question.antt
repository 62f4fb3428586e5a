-- The earthquake moment of a slender tank, asked without a sheet: document 02, S-9. The reply is Ms in foot-pounds, or one refusal.
use Rattle.fields.specs.declared.refusal.Refusal.{Refusal}
use Rattle.std.specs.Prelude.{Bool, not, ◌&&◌, cond, List, [], ◌∷◌, ℕ, ltb, eqb, Result}
use Rattle.std.specs.Result.{result_unwrap_or}
use Rattle.exact.specs.Quotient.{whole, AtLeast}
use Rattle.exact.specs.Root.{LeastRoot, AtLeastRoot}
use Rattle.fields.specs.Range.{Range, range, ◌to◌, within, In}
use Rattle.fields.specs.Order.{Condition, ◌when◌, first_of, reply_unless, Given, answer_code, first_code}
use Rattle.fields.specs.declared.refusal.Code.{Code}
use Rattle.fields.specs.declared.refusal.Refusal.TheVariants.{FigureOutOfRange, NotSlender, MomentTooLarge}
use Rattle.slender.specs.Weights.{is_slender, impulsive_exact, impulsive_weight, convective_exact, convective_weight}
use Rattle.slender.specs.Moments.{impulsive_with, impulsive_moment, convective_with, convective_moment, moments_squared, moment_of, unrounded_square}
use Rattle.slender.specs.declared.tank.Contents.{Contents}
use Rattle.slender.specs.declared.tank.Load.{Load}
use Rattle.slender.specs.declared.tank.SlenderTank.{SlenderTank}
use Rattle.slender.specs.declared.tank.Accelerations.{Accelerations}

-- ---- RANGES

-- "D, H and gravity their own"
abbrev pub contents_in : Contents → Bool
contents_in c = within (range 1) c.diameter && within (range 2) c.level && within (range 20) c.gravity

-- "The shell and roof weights obey the range of field 3"; "the two heights run from 0 to 76,800"
abbrev pub heights : Range
heights = 0 to 76800

abbrev pub load_in : Load → Bool
load_in load = within (range 3) load.weight && within heights load.height

-- "accelerations Ai and Ac in thousandths up to 1,000"
abbrev pub thousandths_of_g : Range
thousandths_of_g = 0 to 1000

abbrev pub accelerations_in : Accelerations → Bool
accelerations_in g = within thousandths_of_g g.impulsive && within thousandths_of_g g.convective

abbrev pub in_ranges : SlenderTank → Accelerations → Bool
in_ranges t g = contents_in t.contents && load_in t.shell && load_in t.roof && accelerations_in g

-- ---- REFUSALS

-- "a moment above 1,000,000,000": field 11's range ends there, too
abbrev pub most_moment : ℕ
most_moment = 1000000000

-- "40 for a figure outside its range, first; 44 for a tank that isn't slender; 45 for a moment above 1,000,000,000, last."
abbrev pub out_of_range : SlenderTank → Accelerations → Condition
out_of_range t g = FigureOutOfRange when not (in_ranges t g)

abbrev pub not_slender : SlenderTank → Condition
not_slender t = NotSlender when not (is_slender t.contents)

abbrev pub too_large : SlenderTank → Accelerations → Condition
too_large t g = MomentTooLarge when ltb most_moment (moment_of t g)

abbrev pub moment_order : SlenderTank → Accelerations → List Condition
moment_order t g = out_of_range t g ∷ not_slender t ∷ too_large t g ∷ []

-- ---- THE REPLY

unfoldable pub earthquake_moment : SlenderTank → Accelerations → Result ℕ Refusal
earthquake_moment t g = reply_unless (first_of (moment_order t g)) (moment_of t g)

-- The code of each case of the reply: 0 and the moment, or the refusal's number and no moment.
pub record MomentCode : Type 0 where
  pub code : Code
  pub moment : ℕ

abbrev pub moment_code : Result ℕ Refusal → MomentCode
moment_code y = record { code = answer_code y; moment = result_unwrap_or y 0 }

unfoldable pub earthquake_moment_code : SlenderTank → Accelerations → MomentCode
earthquake_moment_code t g =
    let p = first_code (moment_order t g) in
    record { code = p; moment = cond (eqb p.number 0) (moment_of t g) 0 }

-- ---- WHAT THE MOMENT IS

-- "less than 100 ft-lb above" the unrounded figure
abbrev pub margin : ℕ
margin = 100

-- Of a reply's moment M: "The result is at or above the unrounded figure and less than 100 ft-lb above it"; weights, moments and root are each
-- rounded up once; it is in the range of field 11.
pub record MomentJustified (t : SlenderTank) (g : Accelerations) (M : ℕ) : Type 0 where
  pub near_unrounded : AtLeastRoot (unrounded_square t g) margin M
  pub impulsive_weight_rounded : AtLeast (impulsive_exact t.contents) (whole 1) (impulsive_weight t.contents)
  pub convective_weight_rounded : AtLeast (convective_exact t.contents) (whole 1) (convective_weight t.contents)
  pub impulsive_moment_rounded : AtLeast (impulsive_with t g.impulsive (whole (impulsive_weight t.contents))) (whole 1) (impulsive_moment t g.impulsive)
  pub convective_moment_rounded : AtLeast (convective_with t.contents g.convective (whole (convective_weight t.contents))) (whole 1) (convective_moment t.contents g.convective)
  pub root_rounded : LeastRoot (moments_squared t g) M
  pub moment_in_range : In 11 M

abbrev pub ReplyJustified : SlenderTank → Accelerations → Result ℕ Refusal → Type 0
ReplyJustified t g = Given (MomentJustified t g)
