-- The laws of what judging and writing ask of a sheet first: what the answer comes to, what a complete sheet holds, and the orders that go
-- on from there.
-- Assumes nothing.
use Rattle.std.specs.Prelude.{Option, Some, None, is_none, Result, Ok, Err}
use Rattle.std.specs.Result.{result_and}
use mathlib.Core.Path.{◌≡◌, refl, sym, ap, ◌∙◌, subst}
use mathlib.Core.Bool.{Bool, true, false, not, cond}
use mathlib.Core.List.{List, [], ◌∷◌, ◌++◌}
use native.Mathlib.Omega.{arith}
use lib.Dec.{T, eqb}
use lib.ListN.{length}
use lib.Seq.{length-take-le}
use borrow.Author.Tests.{ne_eqb, eqb-false, not-false}
use Rattle.fields.specs.declared.refusal.Code.{Code}
use Rattle.fields.specs.declared.refusal.Refusal.{Refusal}
use Rattle.fields.specs.declared.refusal.Refusal.TheVariants.{Unreachable, NoTank, NoCourse, NoSite, AnchorsUnstated}
use Rattle.fields.proofs.RefusalLaws.{never_zero}
use Rattle.fields.specs.Order.{Answer, Condition, ◌when◌, first_of, reply_unless, clear, answer_code, first_code}
use Rattle.fields.proofs.OrderLaws.{clash, reply_given, none_exactly, first_cons, first_then, first_code_lem}
use Rattle.flaws.specs.Flaws.{tank_of, site_of, anchors_of, tank_flaws, site_flaws, anchor_flaws}
use Rattle.entries.specs.declared.sheet.Tank.{Tank}
use Rattle.entries.specs.declared.sheet.Site.{Site}
use Rattle.entries.specs.declared.sheet.Anchors.{Anchors}
use Rattle.entries.specs.declared.sheet.Sheet.{Sheet}
use Rattle.flaws.proofs.FieldLaws.{blank_flawed}
use Rattle.parts.specs.Parts.{site_clear, anchors_clear}
use Rattle.sheet.specs.Steps.{reachable, unreachable}
use Rattle.sheet.specs.Complete.{incomplete, complete_order, entries_of, courses_of, completed_of, completed_code, code_with, sheet_code, is_thirty, order_after, Valid}
use Rattle.entries.specs.declared.complete.Entries.{Entries}
use Rattle.sheet.proofs.ReachLaws.{reach_halves, reach_slots, parts_held, held_some}

-- ---- what the answer comes to

-- a sheet whose entries are given
abbrev pub IsComplete : Sheet → Type 0
IsComplete s = completed_of s ≡ Ok (entries_of s)

-- where some are, no condition applies, and they are the sheet's
pub given : (s : Sheet) {e : Entries} → completed_of s ≡ Ok e → (first_of (complete_order s [] []) ≡ Ok tt) × (e ≡ entries_of s)
unfolding completed_of
given s q = reply_given (entries_of s) (first_of (complete_order s [] [])) q

pub complete_held : (s : Sheet) → reachable s ≡ true → (t : Tank) → s.tank ≡ Some t → (s.count ≡ 0 → ⊥) → (x : Site) → s.site ≡ Some x
    → (a : Anchors) → s.anchors ≡ Some a → IsComplete s
unfolding completed_of
complete_held s r t e n x f a g = rw (r, e, ne_eqb s.count 0 n, f, g) refl

-- ---- an order that goes on from there: 30, the conditions between, 32, 35, 36, 38, and those after

pub not_thirty : (r : Refusal) → (r ≡ Unreachable → ⊥) → is_thirty r ≡ false
not_thirty Unreachable h = absurd (h refl)
not_thirty _ h = refl

none_thirty : (s : Sheet) (r : Refusal) → first_of (incomplete s) ≡ Err r → is_thirty r ≡ false
none_thirty s r e = go (is_none s.tank) (eqb s.count 0) (is_none s.site) (is_none s.anchors) e
  where
    by : (q : Refusal) → is_thirty q ≡ false → q ≡ r → is_thirty r ≡ false
    by q h e = subst (λ (p : Refusal). is_thirty p ≡ false) e h

    go : (t n x a : Bool)
        → first_of ((NoTank when t) ∷ (NoCourse when n) ∷ (NoSite when x) ∷ (AnchorsUnstated when a) ∷ []) ≡ Err r
        → is_thirty r ≡ false
    go true n x a e = by NoTank refl cc
    go false true x a e = by NoCourse refl cc
    go false false true a e = by NoSite refl cc
    go false false false true e = by AnchorsUnstated refl cc
    go false false false false e = clash (sym e)

pub complete_first : (s : Sheet) (between after : List Condition)
    → first_of (complete_order s between after) ≡ first_of (order_after (completed_of s) between after)
unfolding completed_of
complete_first s between after =
    go (reachable s) (first_of (incomplete s)) (none_thirty s)
    (first_then between (incomplete s ++ after) ∙ ap (λ (a : Answer). result_and (first_of between) a) (first_then (incomplete s) after))
  where
    go : (b : Bool) (a : Answer) → ((r : Refusal) → a ≡ Err r → is_thirty r ≡ false)
        → first_of (between ++ (incomplete s ++ after)) ≡ result_and (first_of between) (result_and a (first_of after))
        → cond (not b) (Err Unreachable) (first_of (between ++ (incomplete s ++ after)))
        ≡ first_of (order_after (reply_unless (cond (not b) (Err Unreachable) a) (entries_of s)) between after)
    go true (Ok u) n e = e ∙ sym (first_then between after)
    go true (Err r) n e = rw (n r refl) (e ∙ sym (first_then between ((r when true) ∷ [])))
    go false a n e = refl

-- ---- what a complete sheet holds

pub record CompleteSheet (s : Sheet) : Type 0 where
  pub reach : T (reachable s)
  pub tank : s.tank ≡ Some (tank_of s.tank)
  pub site : s.site ≡ Some (site_of s.site)
  pub anchors : s.anchors ≡ Some (anchors_of s.anchors)
  pub course : s.count ≡ 0 → ⊥

module _ (s : Sheet) (o : IsComplete s) where
  -- the answer says which tests were passed
  passed : (not (reachable s) ≡ false) × (first_of (incomplete s) ≡ Ok tt)
  passed = first_cons (unreachable s) (incomplete s) (given s o).0

  pub complete_sheet : CompleteSheet s
  complete_sheet =
      let no = (none_exactly (incomplete s)).0 passed.1 in
      let t = held_some s.tank (no 0 (omega arith)) in
      let x = held_some s.site (no 2 (omega arith)) in
      let y = held_some s.anchors (no 3 (omega arith)) in
      record {
        reach = subst T (sym (not-false (reachable s) passed.0)) tt;
        tank = t.is ∙ ap Some (ap tank_of (sym t.is));
        site = x.is ∙ ap Some (ap site_of (sym x.is));
        anchors = y.is ∙ ap Some (ap anchors_of (sym y.is));
        course = eqb-false s.count 0 (no 1 (omega arith));
      }

  pub valid : Valid (entries_of s)
  valid =
      let w = complete_sheet in
      let p = parts_held s (reach_halves s w.reach).0 (record { entry = tank_of s.tank; is = w.tank }) in
      let k = reach_slots s w.reach in
      record {
        tank = p.0;
        site = subst (λ (y : Option Site). T (site_clear y)) w.site p.1;
        anchors = subst (λ (y : Option Anchors). T (anchors_clear (tank_of s.tank).diameter y)) w.anchors p.2;
        courses = k.clear;
        some = omega (arith, w.course);
        few = k.few;
        slots = k.twelve;
        high = refl;
        low = k.low;
      }

-- and no other sheet has such entries: what stands where nothing was stated has a flaw
pub valid_complete : (s : Sheet) → reachable s ≡ true → Valid (entries_of s) → IsComplete s
valid_complete s r v = go s.tank refl s.site refl s.anchors refl
  where
    go : (t : Option Tank) → s.tank ≡ t → (x : Option Site) → s.site ≡ x → (a : Option Anchors) → s.anchors ≡ a → IsComplete s
    go None e x f a g =
        absurd (blank_flawed.0 (subst (λ (t : Option Tank). T (clear (tank_flaws (tank_of t)))) e v.tank))
    go (Some t) e None f a g =
        absurd (blank_flawed.1 (subst (λ (x : Option Site). T (clear (site_flaws (site_of x)))) f v.site))
    go (Some t) e (Some x) f None g =
        let D = (tank_of s.tank).diameter in
        absurd (blank_flawed.2 D (subst (λ (a : Option Anchors). T (clear (anchor_flaws D (anchors_of a)))) g v.anchors))
    go (Some t) e (Some x) f (Some a) g = complete_held s r t e (λ z. omega (arith, z, v.some)) x f a g

-- of an answer that is at hand
module _ (s : Sheet) {y : Result Entries Refusal} (q : y ≡ completed_of s) {e : Entries} (k : y ≡ Ok e) where
  pub entries_are : e ≡ entries_of s
  entries_are = (given s (sym q ∙ k)).1

  pub complete_is : IsComplete s
  complete_is = sym q ∙ k ∙ ap Ok entries_are

  pub completed_valid : Valid e
  completed_valid = subst Valid (sym entries_are) (valid s complete_is)

-- ---- the clauses of the contract

pub complete_code : (s : Sheet) → completed_code (completed_of s) ≡ sheet_code s
unfolding completed_of sheet_code
complete_code s = go (first_of (complete_order s [] [])) (first_code_lem (complete_order s [] []))
  where
    go : (a : Answer) {p : Code} → answer_code a ≡ p → completed_code (reply_unless a (entries_of s)) ≡ code_with p (entries_of s)
    go (Ok u) e = rw (← e)
    go (Err r) e = rw (← e, never_zero r)

pub sheet_code_lem : (s : Sheet) → sheet_code s ≡ code_with (first_code (complete_order s [] [])) (entries_of s)
unfolding sheet_code
sheet_code_lem s = refl

pub complete_clauses : (s : Sheet) {y : Result Entries Refusal} → y ≡ completed_of s → (y ≡ completed_of s) × (completed_code y ≡ sheet_code s)
complete_clauses s e = (e, ap completed_code e ∙ complete_code s)

-- as many courses as are counted
pub courses_length : (e : Entries) → Valid e → length (courses_of e) ≡ e.count
courses_length e v = length-take-le e.count e.courses (omega (arith, v.few, v.slots))
