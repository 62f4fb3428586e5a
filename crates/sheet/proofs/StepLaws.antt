-- The laws of the steps: what each comes to, by what the sheet holds; steps in turn; and the anchors that a step leaves.
-- Assumes nothing.
use Rattle.std.specs.Prelude.{Some, None, Ok, Err}
use mathlib.Core.Path.{◌≡◌, refl, sym, ap, ◌∙◌}
use mathlib.Core.Bool.{true}
use mathlib.Core.List.{List, [], ◌∷◌, ◌++◌, map}
use Prim.Native.Nat.{◌<◌}
use borrow.Author.Tests.{lt-leb}
use Rattle.fields.specs.declared.refusal.Refusal.{Refusal}
use Rattle.fields.proofs.OrderLaws.{reply_given, reply_refused}
use Rattle.fields.specs.Order.{Answer, first_of, reply_unless}
use Rattle.entries.specs.Sheet.{empty_sheet, held, height_of}
use Rattle.flaws.specs.Flaws.{too_high, tank_flaws, site_flaws, anchor_flaws, course_flaws}
use Rattle.layout.specs.declared.version.Version.{Version}
use Rattle.layout.specs.declared.version.Version.TheVariants.{Two}
use Rattle.sheet.specs.Steps.{size_flaws, order_of, filled, refused, replied, applied, anchors_after, stated, reachable, unless, in_turn, unreachable, accepted}
use Rattle.sheet.specs.declared.steps.Step.{Step}
use Rattle.sheet.specs.declared.steps.Step.TheVariants.{StateTank, StateSite, StateAnchors, AddCourse}
use Rattle.entries.specs.declared.sheet.Tank.{Tank}
use Rattle.entries.specs.declared.sheet.Site.{Site}
use Rattle.entries.specs.declared.sheet.Anchors.{Anchors}
use Rattle.entries.specs.declared.sheet.Course.{Course}
use Rattle.entries.specs.declared.sheet.Sheet.{Sheet}
use Rattle.sheet.specs.declared.steps.Reply.{Reply}

module _ (v : Version) (s : Sheet) where
  -- before the tank
  pub tank_applied : s.tank ≡ None → (t : Tank) → applied v s (StateTank t) ≡ replied (first_of (tank_flaws t)) s (filled s (StateTank t))
  unfolding applied
  tank_applied b t = rw b refl

  -- and after it
  module _ (d : Tank) (f : s.tank ≡ Some d) where
    pub site_applied : (x : Site) → applied v s (StateSite x) ≡ replied (first_of (site_flaws x)) s (filled s (StateSite x))
    unfolding applied
    site_applied x = rw f refl

    pub anchors_applied : (a : Anchors)
        → applied v s (StateAnchors a) ≡ replied (first_of (anchor_flaws d.diameter a ++ size_flaws v a)) s (filled s (StateAnchors a))
    unfolding applied
    anchors_applied a = rw f refl

    pub course_applied : (c : Course) → s.count < 12
        → applied v s (AddCourse c)
        ≡ replied (first_of (course_flaws c ++ too_high (height_of (held s)) c ∷ [])) s (filled s (AddCourse c))
    unfolding applied
    course_applied c h = rw (f, lt-leb 12 s.count h) refl

-- on a sheet that is handed in and passes the test, the step's own order
pub stated_applied : (s : Sheet) (x : Step) → reachable s ≡ true → stated s x ≡ applied Two s x
unfolding stated applied
stated_applied s x e = rw e

-- the reply to a step, by the sheet that it leaves or its refusal
module _ (s : Sheet) (x : Step) where
  pub left_reply : {t : Sheet} → reply_unless (first_of (unreachable s ∷ order_of Two s x)) (filled s x) ≡ Ok t
      → record { answer = Ok tt; sheet = t } ≡ stated s x
  unfolding stated
  left_reply e =
      let k = reply_given (filled s x) (first_of (unreachable s ∷ order_of Two s x)) e in
      ap accepted k.1 ∙ sym (ap (λ (a : Answer). replied a s (filled s x)) k.0)

  pub refused_reply : {r : Refusal} → reply_unless (first_of (unreachable s ∷ order_of Two s x)) (filled s x) ≡ Err r
      → refused r s ≡ stated s x
  unfolding stated
  refused_reply {r} e =
      sym (ap (λ (a : Answer). replied a s (filled s x)) ((reply_refused (filled s x) (first_of (unreachable s ∷ order_of Two s x)) r).0 e))

-- steps in turn, after the first of them was given this reply
pub turn : (v : Version) (s : Sheet) (x : Step) (xs : List Step) {y : Reply} → applied v s x ≡ y
    → in_turn v s (x ∷ xs) ≡ unless y.answer (in_turn v y.sheet xs)
turn v s x xs e = ap (λ (y : Reply). unless y.answer (in_turn v y.sheet xs)) e

-- or this answer
module _ (v : Version) (s : Sheet) (x : Step) (xs : List Step) {a : Answer} (e : applied v s x ≡ replied a s (filled s x)) where
  pub turn_refused : {r : Refusal} → a ≡ Err r → in_turn v s (x ∷ xs) ≡ refused r empty_sheet
  turn_refused h = turn v s x xs e ∙ rw h

  pub turn_accepted : a ≡ Ok tt → in_turn v s (x ∷ xs) ≡ in_turn v (filled s x) xs
  turn_accepted h = turn v s x xs e ∙ rw h

-- the anchors held after it

pub anchors_after_lem : (s : Sheet) (x : Step) (y : Answer) → (replied y s (filled s x)).sheet.anchors ≡ anchors_after s.anchors x y
anchors_after_lem s (StateTank t) (Ok u) = refl
anchors_after_lem s (StateTank t) (Err r) = refl
anchors_after_lem s (StateSite x) (Ok u) = refl
anchors_after_lem s (StateSite x) (Err r) = refl
anchors_after_lem s (StateAnchors a) (Ok u) = refl
anchors_after_lem s (StateAnchors a) (Err r) = refl
anchors_after_lem s (AddCourse c) (Ok u) = refl
anchors_after_lem s (AddCourse c) (Err r) = refl

-- only the anchors' order goes by the version
pub courses_in_turn : (v : Version) (cs : List Course) (s : Sheet) → in_turn v s (map AddCourse cs) ≡ in_turn Two s (map AddCourse cs)
unfolding applied
courses_in_turn v [] s = refl
courses_in_turn v (c ∷ cs) s = ap (unless (applied v s (AddCourse c)).answer) (courses_in_turn v cs (applied v s (AddCourse c)).sheet)
