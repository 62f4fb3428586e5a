-- The laws of ground motion, stated once over the chart.
-- Assumes nothing.
use Rattle.std.specs.Prelude.{Result, Ok, Err}
use mathlib.Core.Path.{◌≡◌, refl, sym, ap, ◌∙◌, subst}
use mathlib.Core.Bool.{Bool, false, true}
use mathlib.Core.List.{[], ◌∷◌}
use mathlib.Core.Logic.{◌↔◌}
use Prim.Native.Nat.{ℕ, suc, ◌+◌, ◌-◌, ◌*◌, ◌/◌, ◌≤◌, ◌<◌}
use native.Mathlib.Nat.{mul-div_cancel}
use native.Mathlib.Omega.{arith}
use lib.Dec.{T, leb, ltb, leb→le}
use lib.ListN.{length}
use borrow.Author.Tests.{leb-true, ltb-false, not-false, lt-ltb, le-ltb}
use Rattle.lists.proofs.BoolLaws.{both_hold, both_fail}
use Rattle.exact.proofs.Table.{every, at_each}
use Rattle.exact.proofs.QuotientLaws.{up_least, rounded_up}
use Rattle.fields.specs.declared.refusal.Refusal.TheVariants.{FigureOutOfRange, BadSiteClass}
use Rattle.fields.specs.Order.{first_of, codes, at, First}
use Rattle.fields.specs.Refusal.{plain}
use Rattle.fields.specs.declared.refusal.Refusal.{Refusal}
use Rattle.fields.proofs.OrderLaws.{first_cons, first_code_lem, reply_code, reply_value, reply_given_holds, reply_refused_exactly, reply_given_exactly}
use Rattle.ground.specs.Chart.{Chart, fa, fv, row_of, interpolated, coefficient_of}
use Rattle.std.proofs.lemmas.Result.{MatchResult-at_ok, MatchResult-at_err}
use Rattle.ground.specs.declared.motion.DesignValues.{DesignValues}
use Rattle.ground.specs.declared.class.SiteClass.{SiteClass}
use Rattle.ground.specs.declared.class.SiteClass.TheVariants.{A, B, C, D, E}
use Rattle.ground.specs.Class.{is_class, letter_of, Classed}
use Rattle.ground.specs.Motion.{most_mapped, design_exact, over, design_of, sds_den, sd1_den, sds_of, sd1_of, vertical_exact, vertical_of, values_of, other_class, too_large, motion_order, ground_motion, no_values, motion_code, ground_motion_code, WithoutLoss, greatest, ValuesJustified, ReplyJustified}
use Rattle.ground.proofs.ChartLaws.{interpolates, interpolation_unique}

-- ---- the figures

module _ (c : Chart) (F S : ℕ) (p : 0 < c.step) where
  -- F is over 10 × step and S over 1,000, so two thirds of F × S are over 15,000 × step just F × S,
  over_product : over (15000 * c.step) (design_exact c F S) ≡ F * S
  over_product =
      let n : 2 * (F * S) * (15000 * c.step) ≡ F * S * (3 * (10 * c.step * 1000)) = omega arith in
      ap (λ (x : ℕ). x / (3 * (10 * c.step * 1000))) n ∙ mul-div_cancel (F * S) (omega arith)

  -- and nothing is lost
  kept : over (15000 * c.step) (design_exact c F S) * (design_exact c F S).den ≡ (design_exact c F S).num * (15000 * c.step)
  kept = rw over_product (omega arith)

without_loss : (c : Chart) (class S : ℕ) → 0 < c.step → WithoutLoss c (15000 * c.step) class S (design_of c (15000 * c.step) class S)
without_loss c class S p =
    record {
      lines = interpolates c.step (row_of c class) p;
      exact = λ f i. rw (interpolation_unique c.step (row_of c class) p f i S) (kept c (coefficient_of c class S) S p);
    }

-- so for both charts
sds_product : (class Ss : ℕ) → sds_of class Ss ≡ coefficient_of fa class Ss * Ss
unfolding sds_of
sds_product class Ss = over_product fa (coefficient_of fa class Ss) Ss (omega arith)

sd1_product : (class S1 : ℕ) → sd1_of class S1 ≡ coefficient_of fv class S1 * S1
unfolding sd1_of
sd1_product class S1 = over_product fv (coefficient_of fv class S1) S1 (omega arith)

-- whether no design value of a class, and of all classes, is above this at the map values that are answered
abbrev class_bounded : Chart → ℕ → ℕ → ℕ → Bool
class_bounded c den most class = every (λ x. leb (design_of c den class x) most) (suc most_mapped)

abbrev all_bounded : Chart → ℕ → ℕ → Bool
all_bounded c den most = every (λ j. class_bounded c den most (65 + j)) 5

-- computed by the checker, for both charts
tested : T (all_bounded fa sds_den greatest.sds) × T (all_bounded fv sd1_den greatest.sd1)
unfolding interpolated
tested = (tt, tt)

module _ (class : ℕ) (first : 65 ≤ class) (last : class ≤ 69) where
  at_most : (c : Chart) (den most : ℕ) → T (all_bounded c den most) → (S : ℕ) → S ≤ most_mapped → design_of c den class S ≤ most
  at_most c den most t S mapped =
      let e : 65 + (class - 65) ≡ class = omega arith in
      let row = subst (λ (n : ℕ). T (class_bounded c den most n)) e (at_each (λ j. class_bounded c den most (65 + j)) 5 t (class - 65) (omega arith)) in
      leb→le _ most (at_each (λ x. leb (design_of c den class x) most) (suc most_mapped) row S (omega arith))

  sds_at_most : (Ss : ℕ) → Ss ≤ most_mapped → sds_of class Ss ≤ greatest.sds
  unfolding sds_of
  sds_at_most = at_most fa sds_den greatest.sds tested.0

  sd1_at_most : (S1 : ℕ) → S1 ≤ most_mapped → sd1_of class S1 ≤ greatest.sd1
  unfolding sd1_of
  sd1_at_most = at_most fv sd1_den greatest.sd1 tested.1

vertical_at_most : (sds : ℕ) → sds ≤ greatest.sds → vertical_of sds ≤ greatest.vertical
unfolding vertical_of
vertical_at_most sds h = up_least (vertical_exact sds).num (vertical_exact sds).den (omega arith) greatest.vertical (omega arith)

pub values_justified : (class Ss S1 : ℕ) → 65 ≤ class → class ≤ 69 → Ss ≤ most_mapped → S1 ≤ most_mapped
    → ValuesJustified class Ss S1 (values_of class Ss S1)
unfolding values_of sds_of sd1_of vertical_of
values_justified class Ss S1 first last ss-mapped s1-mapped =
    let sds = sds_at_most class first last Ss ss-mapped in
    let vertical = vertical_at_most (sds_of class Ss) sds in
    record {
      sds_exact = without_loss fa class Ss (omega arith);
      sd1_exact = without_loss fv class S1 (omega arith);
      vertical_rounded = rounded_up (vertical_exact (sds_of class Ss)) (omega arith);
      sds_most = sds;
      sd1_most = sd1_at_most class first last S1 s1-mapped;
      vertical_most = vertical;
      vertical_in_range = (omega arith, omega (arith, vertical));
    }

-- the figures as they are worked out
pub worked_out : (class Ss S1 : ℕ) {a b v : ℕ} → a ≡ coefficient_of fa class Ss * Ss
    → b ≡ coefficient_of fv class S1 * S1 → v ≡ vertical_of a → record { sds = a; sd1 = b; vertical = v } ≡ values_of class Ss S1
unfolding values_of
worked_out class Ss S1 e f g = rw (g, e, f, sds_product class Ss, sd1_product class S1)

-- ---- the answer

module _ (class Ss S1 : ℕ) where
  -- the documents' numbers, in their order
  pub motion_order_lem : codes (motion_order class Ss S1) ≡ plain 41 ∷ plain 40 ∷ []
  motion_order_lem = refl

  -- each exactly under its condition with none before it
  pub motion_exactly : (r : Refusal) → (ground_motion class Ss S1 ≡ Err r) ↔ First (motion_order class Ss S1) r
  unfolding ground_motion
  motion_exactly = reply_refused_exactly (values_of class Ss S1) (motion_order class Ss S1)

  -- and values exactly where no condition applies
  pub given_exactly : (ground_motion class Ss S1 ≡ Ok (values_of class Ss S1))
      ↔ ((j : ℕ) → j < length (motion_order class Ss S1) → (at (motion_order class Ss S1) j).applies ≡ false)
  unfolding ground_motion
  given_exactly = reply_given_exactly (values_of class Ss S1) (motion_order class Ss S1)

  motion_code_lem : motion_code (ground_motion class Ss S1) ≡ ground_motion_code class Ss S1
  unfolding ground_motion ground_motion_code
  motion_code_lem =
      let order = motion_order class Ss S1 in
      let v = values_of class Ss S1 in
      rw (reply_value v no_values (first_of order), reply_code v (first_of order), first_code_lem order)

  reply_justified : ReplyJustified class Ss S1 (ground_motion class Ss S1)
  unfolding ground_motion
  reply_justified = reply_given_holds (values_of class Ss S1) (ValuesJustified class Ss S1) (first_of (motion_order class Ss S1)) accepted
    where
      accepted : first_of (motion_order class Ss S1) ≡ Ok tt → ValuesJustified class Ss S1 (values_of class Ss S1)
      accepted e =
          let h = first_cons (other_class class) (too_large Ss S1 ∷ []) e in
          let known = both_hold (leb 65 class) (leb class 69) (not-false (is_class class) h.0) in
          let mapped = both_fail (ltb most_mapped Ss) (ltb most_mapped S1) (first_cons (too_large Ss S1) [] h.1).0 in
          values_justified class Ss S1 (leb-true 65 class known.0) (leb-true class 69 known.1)
          (ltb-false most_mapped Ss mapped.0) (ltb-false most_mapped S1 mapped.1)

  -- the further clauses of what answers as the definition does
  pub motion_clauses : {r : Result DesignValues Refusal} → r ≡ ground_motion class Ss S1
      → record { value : r ≡ ground_motion class Ss S1; code : motion_code r ≡ ground_motion_code class Ss S1; reply_justified : ReplyJustified class Ss S1 r }
  motion_clauses e =
      record {
        value = e;
        code = ap motion_code e ∙ motion_code_lem;
        reply_justified = subst (ReplyJustified class Ss S1) (sym e) reply_justified;
      }

-- a class by its letter
class_letter : (k : SiteClass) → is_class (letter_of k) ≡ true
class_letter A = refl
class_letter B = refl
class_letter C = refl
class_letter D = refl
class_letter E = refl

module _ (class Ss S1 : ℕ) {y : Result SiteClass Refusal} (classed : Classed class y) where
  pub no_class : {r : Refusal} → y ≡ Err r → Err r ≡ ground_motion class Ss S1
  unfolding ground_motion
  no_class {r} e =
      let h = MatchResult-at_err (λ k. letter_of k ≡ class) (λ q. (q ≡ BadSiteClass) × (is_class class ≡ false)) r e classed in
      rw (h.0, h.1) refl

  module _ {k : SiteClass} (e : y ≡ Ok k) where
    pub letter_is : letter_of k ≡ class
    letter_is = MatchResult-at_ok (λ k. letter_of k ≡ class) (λ q. (q ≡ BadSiteClass) × (is_class class ≡ false)) k e classed

    known : is_class class ≡ true
    known = ap is_class (sym letter_is) ∙ class_letter k

    pub ss_above : most_mapped < Ss → Err FigureOutOfRange ≡ ground_motion class Ss S1
    unfolding ground_motion
    ss_above h = rw (known, lt-ltb most_mapped Ss h) refl

    pub s1_above : Ss ≤ most_mapped → most_mapped < S1 → Err FigureOutOfRange ≡ ground_motion class Ss S1
    unfolding ground_motion
    s1_above h i = rw (known, le-ltb most_mapped Ss h, lt-ltb most_mapped S1 i) refl

    pub given_values : Ss ≤ most_mapped → S1 ≤ most_mapped → Ok (values_of (letter_of k) Ss S1) ≡ ground_motion class Ss S1
    unfolding ground_motion
    given_values h i = rw (letter_is, known, le-ltb most_mapped Ss h, le-ltb most_mapped S1 i) refl
