-- What the answers say: each order in the documents' numbers; which refusal a step, reading and writing answer, and when; refusal 30 by the
-- runs; the sheets that steps give back.
-- Assumes nothing.
use Rattle.std.specs.Prelude.{Result, Ok, Err}
use mathlib.Core.Path.{◌≡◌, refl, sym, ap, ◌∙◌, subst}
use mathlib.Core.Bool.{Bool, true, false, not, cond}
use mathlib.Core.List.{List, [], ◌∷◌, ◌++◌}
use mathlib.Core.Logic.{◌⊎◌, inl, inr, ◌↔◌}
use Prim.Native.Nat.{ℕ}
use native.Mathlib.Omega.{arith}
use lib.Dec.{T, eqb}
use lib.ListN.{length}
use mir.Facts.{and_yes}
use borrow.Author.Tests.{eq-eqb}
use Rattle.fields.specs.Refusal.{plain, code_of}
use Rattle.fields.specs.declared.refusal.Code.{Code}
use Rattle.fields.specs.declared.refusal.Refusal.{Refusal}
use Rattle.fields.specs.declared.refusal.Refusal.TheVariants.{Unreachable}
use Rattle.fields.proofs.RefusalLaws.{never_zero}
use Rattle.fields.specs.Order.{Answer, Condition, first_of, First, answer_code, first_code, codes, sixteen}
use Rattle.fields.proofs.OrderLaws.{reply_code, clash, first_exactly, first_code_lem}
use Rattle.entries.specs.Sheet.{empty_sheet}
use Rattle.layout.specs.declared.version.Version.{Version}
use Rattle.layout.specs.declared.version.Version.TheVariants.{One, Two}
use Rattle.flaws.specs.Flaws.{tank_flaws, site_flaws, anchor_flaws, course_flaws}
use Rattle.sheet.specs.Steps.{order_of, applied, anchors_after, reachable, unreachable, stated, unless, in_turn}
use Rattle.sheet.specs.Runs.{LeftByRun}
use Rattle.sheet.specs.declared.steps.Step.{Step}
use Rattle.sheet.specs.declared.steps.Step.TheVariants.{StateTank, StateSite, StateAnchors, AddCourse}
use Rattle.sheet.specs.Complete.{incomplete, entries_of}
use Rattle.sheet.specs.Writing.{size_of, entries_order, write_order, write_reply, written, write_code, written_code}
use Rattle.sheet.specs.Reading.{steps_in, read_in, reading, with_height, unless_code, turn_code, read_code}
use Rattle.entries.specs.declared.sheet.Tank.{Tank}
use Rattle.entries.specs.declared.sheet.Site.{Site}
use Rattle.entries.specs.declared.sheet.Anchors.{Anchors}
use Rattle.entries.specs.declared.sheet.Course.{Course}
use Rattle.entries.specs.declared.sheet.Sheet.{Sheet}
use Rattle.entries.specs.declared.complete.Entries.{Entries}
use Rattle.sheet.specs.declared.reading.Reading.{Reading}
use Rattle.sheet.specs.declared.steps.Reply.{Reply}
use Rattle.std.specs.List.{list_all}
use Rattle.layout.specs.Header.{version_in, read_order}
use Rattle.sheet.proofs.StepLaws.{anchors_after_lem}
use Rattle.sheet.proofs.RunLaws.{left_exactly}

-- ---- THE SIX ORDERS IN THE DOCUMENTS' NUMBERS, that of anchors in version 1 too

module _ (s : Sheet) where
  pub tank_order : (v : Version) (t : Tank) → codes (unreachable s ∷ order_of v s (StateTank t))
      ≡ plain 30 ∷ plain 31 ∷ sixteen 1 ∷ sixteen 2 ∷ sixteen 3 ∷ sixteen 4 ∷ sixteen 5 ∷ sixteen 6 ∷ sixteen 20 ∷ plain 17 ∷ []
  unfolding tank_flaws
  tank_order v t = refl

  pub site_order : (v : Version) (x : Site) → codes (unreachable s ∷ order_of v s (StateSite x))
      ≡ plain 30 ∷ plain 32 ∷ sixteen 7 ∷ sixteen 8 ∷ sixteen 9 ∷ sixteen 10 ∷ sixteen 11 ∷ []
  unfolding site_flaws
  site_order v x = refl

  pub anchors_order : (a : Anchors) → codes (unreachable s ∷ order_of Two s (StateAnchors a))
      ≡ plain 30 ∷ plain 32 ∷ sixteen 12 ∷ sixteen 13 ∷ sixteen 14 ∷ plain 18 ∷ plain 39 ∷ []
  unfolding anchor_flaws
  anchors_order a = refl

  pub old_anchors_order : (a : Anchors) → codes (order_of One s (StateAnchors a))
      ≡ plain 32 ∷ sixteen 12 ∷ sixteen 13 ∷ sixteen 14 ∷ plain 18 ∷ []
  unfolding anchor_flaws
  old_anchors_order a = refl

  pub course_order : (v : Version) (c : Course) → codes (unreachable s ∷ order_of v s (AddCourse c))
      ≡ plain 30 ∷ plain 32 ∷ plain 33 ∷ sixteen 15 ∷ sixteen 16 ∷ sixteen 17 ∷ sixteen 18 ∷ sixteen 19 ∷ plain 17 ∷ plain 34 ∷ []
  unfolding course_flaws
  course_order v c = refl

  pub write_order_lem : (room : ℕ) → codes (write_order s room) ≡ plain 30 ∷ plain 32 ∷ plain 35 ∷ plain 36 ∷ plain 38 ∷ plain 39 ∷ plain 19 ∷ []
  write_order_lem room = refl

pub read_order_lem : (b : List ℕ) → codes (read_order b) ≡ plain 11 ∷ plain 13 ∷ plain 11 ∷ plain 12 ∷ plain 14 ∷ plain 15 ∷ []
read_order_lem b = refl

-- ---- the codes of the answers

unless_code_lem : (a : Answer) (y : Reply) → answer_code (unless a y).answer ≡ unless_code (answer_code a) (answer_code y.answer)
unless_code_lem (Ok u) y = refl
unless_code_lem (Err r) y = rw (never_zero r)

turn_code_lem : (v : Version) (xs : List Step) (s : Sheet) → answer_code (in_turn v s xs).answer ≡ turn_code v s xs
unfolding applied
turn_code_lem v [] s = refl
turn_code_lem v (x ∷ xs) s =
    let next = (applied v s x).sheet in
    unless_code_lem (first_of (order_of v s x)) (in_turn v next xs)
    ∙ ap (λ (p : Code). unless_code p (answer_code (in_turn v next xs).answer)) (first_code_lem (order_of v s x))
    ∙ ap (λ (p : Code). unless_code (first_code (order_of v s x)) p) (turn_code_lem v xs next)

-- what the steps in these bytes come to
abbrev pub turned : List ℕ → Reply
turned b = in_turn (version_in b) empty_sheet (steps_in (version_in b) b)

pub read_code_lem : (b : List ℕ) → answer_code (read_in b).answer ≡ read_code b
unfolding read_in read_code
read_code_lem b =
    let y = turned b in
    unless_code_lem (first_of (read_order b)) y
    ∙ ap (λ (p : Code). unless_code p (answer_code y.answer)) (first_code_lem (read_order b))
    ∙ ap (λ (p : Code). unless_code (first_code (read_order b)) p) (turn_code_lem (version_in b) (steps_in (version_in b) b) empty_sheet)

pub write_code_lem : (s : Sheet) (buf : List ℕ) → write_code (written s buf).answer ≡ written_code s (length buf)
unfolding written written_code
write_code_lem s buf = go (first_of (write_order s (length buf))) (first_code_lem (write_order s (length buf)))
  where
    go : (a : Answer) {p : Code} → answer_code a ≡ p
        → write_code (write_reply a (entries_of s) buf).answer ≡ record { code = p; bytes = cond (eqb p.number 0) (size_of (entries_of s)) 0 }
    go (Ok u) e = rw (← e)
    go (Err r) e = rw (← e, never_zero r)

-- ---- WHICH REFUSAL IS ANSWERED, AND WHEN: the law of every order, at the answers of the public functions

pub stated_exactly : (s : Sheet) (x : Step) (r : Refusal) → ((stated s x).answer ≡ Err r) ↔ First (unreachable s ∷ order_of Two s x) r
unfolding stated
stated_exactly s x r = first_exactly (unreachable s ∷ order_of Two s x) r

written_as : (a : Answer) (e : Entries) (buf : List ℕ) (r : Refusal)
    → ((write_reply a e buf).answer ≡ Err r) ↔ (a ≡ Err r)
written_as (Ok u) e buf r =
    ((λ e. absurd (let z : ◌≡◌ {A = ℕ} 0 1 = cc in omega arith)), λ e. clash (sym e))
written_as (Err q) e buf r = ((λ e. let k : q ≡ r = cc in ap Err k), λ e. let k : q ≡ r = cc in ap Err k)

pub written_exactly : (s : Sheet) (buf : List ℕ) (r : Refusal)
    → ((written s buf).answer ≡ Err r) ↔ First (write_order s (length buf)) r
unfolding written
written_exactly s buf r =
    let w = written_as (first_of (write_order s (length buf))) (entries_of s) buf r in
    let f = first_exactly (write_order s (length buf)) r in
    (λ e. f.0 (w.0 e), λ k. w.1 (f.1 k))

pub read_exactly : (b : List ℕ) (r : Refusal)
    → ((read_in b).answer ≡ Err r)
    ↔ (First (read_order b) r ⊎ ((first_of (read_order b) ≡ Ok tt) × ((turned b).answer ≡ Err r)))
unfolding read_in
read_exactly b r = go (first_of (read_order b)) refl
  where
    go : (a : Answer) → first_of (read_order b) ≡ a
        → ((unless a (turned b)).answer ≡ Err r) ↔ (First (read_order b) r ⊎ ((first_of (read_order b) ≡ Ok tt) × ((turned b).answer ≡ Err r)))
    go (Ok u) e = ((λ f. inr (e, f)), back)
      where
        back : First (read_order b) r ⊎ ((first_of (read_order b) ≡ Ok tt) × ((turned b).answer ≡ Err r)) → (turned b).answer ≡ Err r
        back (inl f) = clash (sym ((first_exactly (read_order b) r).1 f) ∙ e)
        back (inr f) = f.1
    go (Err q) e = ((λ f. inl ((first_exactly (read_order b) r).0 (e ∙ f))), back)
      where
        back : First (read_order b) r ⊎ ((first_of (read_order b) ≡ Ok tt) × ((turned b).answer ≡ Err r)) → ◌≡◌ {A = Answer} (Err q) (Err r)
        back (inl f) = sym e ∙ (first_exactly (read_order b) r).1 f
        back (inr f) = clash (sym e ∙ f.0)

-- ---- REFUSAL 30: exactly where no run leaves the sheet that is handed in

-- an order that does not have a refusal never answers it
abbrev pub other_than : Refusal → Condition → Bool
other_than r c = not (eqb (code_of c.refusal).number (code_of r).number)

pub never_answered : (r : Refusal) (cs : List Condition) → T (list_all (other_than r) cs) → first_of cs ≡ Err r → ⊥
never_answered r [] h e = clash (sym e)
never_answered r (c ∷ cs) h e = go c.applies (and_yes (other_than r c) (list_all (other_than r) cs) h) (never_answered r cs) e
  where
    go : (b : Bool) → T (other_than r c) × T (list_all (other_than r) cs) → (T (list_all (other_than r) cs) → first_of cs ≡ Err r → ⊥)
        → cond b (Err c.refusal) (first_of cs) ≡ Err r → ⊥
    go true h f e =
        let k : c.refusal ≡ r = cc in
        subst T (ap not (eq-eqb (code_of r).number (code_of r).number refl)) (subst (λ (q : Refusal). T (not (eqb (code_of q).number (code_of r).number))) k h.0)
    go false h f e = f h.1 e

pub thirty_first : (s : Sheet) (cs : List Condition) → T (list_all (other_than Unreachable) cs) → (first_of (unreachable s ∷ cs) ≡ Err Unreachable) ↔ (LeftByRun s → ⊥)
thirty_first s cs h = go (reachable s) refl
  where
    go : (b : Bool) → reachable s ≡ b → (cond (not b) (Err Unreachable) (first_of cs) ≡ Err Unreachable) ↔ (LeftByRun s → ⊥)
    go true e = ((λ f. absurd (never_answered Unreachable cs h f)), λ n. absurd (n ((left_exactly s).0 (subst T (sym e) tt))))
    go false e = ((λ f l. subst T e ((left_exactly s).1 l)), λ n. refl)

step_others : (s : Sheet) (x : Step) → T (list_all (other_than Unreachable) (order_of Two s x))
unfolding tank_flaws site_flaws anchor_flaws course_flaws
step_others s (StateTank t) = tt
step_others s (StateSite x) = tt
step_others s (StateAnchors a) = tt
step_others s (AddCourse c) = tt

pub thirty_exactly : (s : Sheet) (x : Step) → ((stated s x).answer ≡ Err Unreachable) ↔ (LeftByRun s → ⊥)
unfolding stated
thirty_exactly s x = thirty_first s (order_of Two s x) (step_others s x)

pub thirty_written : (s : Sheet) (buf : List ℕ) → ((written s buf).answer ≡ Err Unreachable) ↔ (LeftByRun s → ⊥)
unfolding written
thirty_written s buf =
    let w = written_as (first_of (write_order s (length buf))) (entries_of s) buf Unreachable in
    let f = thirty_first s (incomplete s ++ entries_order (entries_of s) (length buf)) tt in
    (λ e. f.0 (w.0 e), λ n. w.1 (f.1 n))

-- ---- the clauses of the contracts of reading with the height, and of a step

pub height_clauses : (b : List ℕ) {y : Result Reading Refusal} → y ≡ with_height (read_in b)
    → (y ≡ with_height (read_in b)) × (answer_code y ≡ read_code b)
height_clauses b e = (e, ap answer_code e ∙ reply_code (reading (read_in b).sheet) (read_in b).answer ∙ read_code_lem b)

pub stated_clauses : (s : Sheet) (x : Step) {y : Reply} → y ≡ stated s x
    → (y ≡ stated s x)
    × ((answer_code y.answer ≡ first_code (unreachable s ∷ order_of Two s x)) × (y.sheet.anchors ≡ anchors_after s.anchors x y.answer))
unfolding stated
stated_clauses s x e = (
  e,
  (
    ap (λ (z : Reply). answer_code z.answer) e ∙ first_code_lem (unreachable s ∷ order_of Two s x),
    ap (λ (z : Reply). z.sheet.anchors) e
        ∙ anchors_after_lem s x (first_of (unreachable s ∷ order_of Two s x))
        ∙ ap (λ (z : Reply). anchors_after s.anchors x z.answer) (sym e),
  ),
)
