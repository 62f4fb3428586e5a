-- The laws of the question: what its order of refusals says, and what is known of a moment that is given.
-- Assumes nothing.
use Rattle.std.specs.Prelude.{Result, Ok, Err}
use mathlib.Core.Path.{◌≡◌, refl, sym, ap, ◌∙◌, subst}
use mathlib.Core.Bool.{true, false, ◌&&◌}
use mathlib.Core.List.{[], ◌∷◌}
use mathlib.Core.Logic.{◌↔◌}
use Prim.Native.Nat.{ℕ, ◌≤◌, ◌<◌, zero-le}
use native.Mathlib.Omega.{arith}
use lib.Dec.{T}
use lib.ListN.{length}
use borrow.Author.Tests.{ltb-false, not-false, lt-ltb, le-ltb}
use mir.Facts.{and_yes}
use Rattle.lists.proofs.BoolLaws.{three_yes}
use Rattle.fields.specs.Refusal.{plain}
use Rattle.fields.specs.Order.{first_of, codes, at, First}
use Rattle.fields.specs.declared.refusal.Refusal.{Refusal}
use Rattle.fields.specs.declared.refusal.Refusal.TheVariants.{FigureOutOfRange, NotSlender, MomentTooLarge}
use Rattle.fields.proofs.OrderLaws.{first_cons, first_code_lem, reply_code, reply_value, reply_given_holds, reply_refused_exactly, reply_given_exactly}
use Rattle.slender.specs.declared.tank.SlenderTank.{SlenderTank}
use Rattle.slender.specs.declared.tank.Accelerations.{Accelerations}
use Rattle.slender.specs.Weights.{is_slender}
use Rattle.slender.specs.Moments.{moment_of}
use Rattle.slender.specs.Question.{contents_in, load_in, accelerations_in, in_ranges, most_moment, out_of_range, not_slender, too_large, moment_order, earthquake_moment, moment_code, earthquake_moment_code, MomentJustified, ReplyJustified}
use Rattle.slender.specs.Bounds.{TankIn, AccelerationsIn}
use Rattle.slender.proofs.RangeLaws.{load_is, accelerations_are, slender_is}
use Rattle.slender.proofs.WeightLaws.{impulsive_rounded, convective_rounded}
use Rattle.slender.proofs.MomentLaws.{impulsive_moment_rounded, convective_moment_rounded, moment_root, moment_near}

module _ (t : SlenderTank) (g : Accelerations) where
  -- what has passed 40 and 44
  module _ (e : in_ranges t g ≡ true) (slender : is_slender t.contents ≡ true) where
    parts : T (contents_in t.contents) × T (load_in t.shell) × T (load_in t.roof) × T (accelerations_in g)
    parts =
        let h = and_yes (contents_in t.contents && load_in t.shell && load_in t.roof) (accelerations_in g) (subst T (sym e) tt) in
        let k = three_yes (contents_in t.contents) (load_in t.shell) (load_in t.roof) h.0 in
        (k.0, k.1, k.2, h.1)

    pub tank_in : TankIn t
    tank_in = record { contents = slender_is t.contents parts.0 slender; shell = load_is t.shell parts.1; roof = load_is t.roof parts.2 }

    pub accelerations_in_ranges : AccelerationsIn g
    accelerations_in_ranges = accelerations_are g parts.3

    pub justified : moment_of t g ≤ most_moment → MomentJustified t g (moment_of t g)
    justified most =
        record {
          near_unrounded = moment_near t tank_in g accelerations_in_ranges;
          impulsive_weight_rounded = impulsive_rounded t.contents tank_in.contents;
          convective_weight_rounded = convective_rounded t.contents tank_in.contents;
          impulsive_moment_rounded = impulsive_moment_rounded t tank_in g.impulsive accelerations_in_ranges.impulsive;
          convective_moment_rounded = convective_moment_rounded t.contents tank_in.contents g.convective accelerations_in_ranges.convective;
          root_rounded = moment_root t tank_in g accelerations_in_ranges;
          moment_in_range = (zero-le, omega (arith, most));
        }

  -- ---- the answer

  -- the documents' numbers, in their order
  pub moment_order_lem : codes (moment_order t g) ≡ plain 40 ∷ plain 44 ∷ plain 45 ∷ []
  moment_order_lem = refl

  -- each exactly under its condition with none before it
  pub moment_exactly : (r : Refusal) → (earthquake_moment t g ≡ Err r) ↔ First (moment_order t g) r
  unfolding earthquake_moment
  moment_exactly = reply_refused_exactly (moment_of t g) (moment_order t g)

  -- and a moment exactly where no condition applies
  pub given_exactly : (earthquake_moment t g ≡ Ok (moment_of t g))
      ↔ ((j : ℕ) → j < length (moment_order t g) → (at (moment_order t g) j).applies ≡ false)
  unfolding earthquake_moment
  given_exactly = reply_given_exactly (moment_of t g) (moment_order t g)

  moment_code_lem : moment_code (earthquake_moment t g) ≡ earthquake_moment_code t g
  unfolding earthquake_moment earthquake_moment_code
  moment_code_lem =
      let order = moment_order t g in
      let M = moment_of t g in
      rw (reply_value M 0 (first_of order), reply_code M (first_of order), first_code_lem order)

  reply_justified : ReplyJustified t g (earthquake_moment t g)
  unfolding earthquake_moment
  reply_justified = reply_given_holds (moment_of t g) (MomentJustified t g) (first_of (moment_order t g)) accepted
    where
      accepted : first_of (moment_order t g) ≡ Ok tt → MomentJustified t g (moment_of t g)
      accepted e =
          let h = first_cons (out_of_range t g) (not_slender t ∷ too_large t g ∷ []) e in
          let k = first_cons (not_slender t) (too_large t g ∷ []) h.1 in
          let l = first_cons (too_large t g) [] k.1 in
          justified (not-false (in_ranges t g) h.0) (not-false (is_slender t.contents) k.0) (ltb-false most_moment (moment_of t g) l.0)

  -- the further clauses of what answers as the definition does
  pub moment_clauses : {r : Result ℕ Refusal} → r ≡ earthquake_moment t g
      → record { value : r ≡ earthquake_moment t g; code : moment_code r ≡ earthquake_moment_code t g; reply_justified : ReplyJustified t g r }
  moment_clauses e =
      record {
        value = e;
        code = ap moment_code e ∙ moment_code_lem;
        reply_justified = subst (ReplyJustified t g) (sym e) reply_justified;
      }

  -- ---- the code's steps

  pub outside : in_ranges t g ≡ false → Err FigureOutOfRange ≡ earthquake_moment t g
  unfolding earthquake_moment
  outside h = rw h refl

  module _ (inside : in_ranges t g ≡ true) where
    pub other : is_slender t.contents ≡ false → Err NotSlender ≡ earthquake_moment t g
    unfolding earthquake_moment
    other h = rw (inside, h) refl

    module _ (slender : is_slender t.contents ≡ true) where
      pub too_large_moment : most_moment < moment_of t g → Err MomentTooLarge ≡ earthquake_moment t g
      unfolding earthquake_moment
      too_large_moment h = rw (inside, slender, lt-ltb most_moment (moment_of t g) h) refl

      pub given : moment_of t g ≤ most_moment → Ok (moment_of t g) ≡ earthquake_moment t g
      unfolding earthquake_moment
      given h = rw (inside, slender, le-ltb most_moment (moment_of t g) h) refl
