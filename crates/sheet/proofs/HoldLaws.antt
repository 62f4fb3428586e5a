-- What bytes that are read leave: the tank, the site, the anchors and the courses that they hold (`read_holds`), and a sheet that passes the
-- test for 30 (`read_sheet_reachable`).
-- Assumes nothing.
use Rattle.std.specs.Prelude.{Option, Some, Ok, Err}
use mathlib.Core.Path.{◌≡◌, refl, sym, ap, ◌∙◌, subst}
use mathlib.Core.Bool.{Bool, true, false, not, ◌||◌}
use mathlib.Core.List.{List, [], ◌∷◌, ◌++◌, map, append-nil}
use Prim.Native.Nat.{ℕ}
use native.Mathlib.Omega.{arith}
use lib.Dec.{T}
use lib.ListN.{length, get_or, drop}
use lib.Seq.{append_snoc}
use Rattle.fields.specs.Bolt.{discontinued}
use Rattle.fields.specs.declared.refusal.Refusal.{Refusal}
use Rattle.fields.specs.Order.{Answer, first_of}
use Rattle.fields.proofs.OrderLaws.{clash}
use Rattle.entries.specs.Sheet.{empty_sheet, held}
use Rattle.entries.specs.declared.sheet.Tank.{Tank}
use Rattle.entries.specs.declared.sheet.Site.{Site}
use Rattle.entries.specs.declared.sheet.Anchors.{Anchors}
use Rattle.entries.specs.declared.sheet.Course.{Course}
use Rattle.entries.specs.declared.sheet.Sheet.{Sheet}
use Rattle.layout.specs.Numbers.{two_in}
use Rattle.layout.specs.declared.version.Version.{Version}
use Rattle.layout.specs.declared.version.Version.TheVariants.{One, Two}
use Rattle.layout.specs.Layout.{version_number}
use Rattle.layout.specs.Header.{tank_in, site_in, anchors_in, courses_in, tail_in, count_of, version_in, read_order, Header}
use Rattle.layout.proofs.HeaderLaws.{header, count_of_length}
use Rattle.layout.proofs.BackLaws.{courses_in_length}
use Rattle.sheet.specs.Steps.{size_flaws, order_of, filled, accepted, refused, applied, consistent, fits_version_1, size_reachable, reachable, unless, in_turn}
use Rattle.sheet.specs.declared.steps.Step.{Step}
use Rattle.sheet.specs.declared.steps.Step.TheVariants.{StateTank, StateSite, StateAnchors, AddCourse}
use Rattle.sheet.specs.declared.steps.Reply.{Reply}
use Rattle.sheet.specs.Reading.{from_courses, from_anchors, from_site, steps_in, read_in}
use Rattle.sheet.proofs.ReachLaws.{applied_accepted, anchors_taken, filled_consistent, held_next, empty_reachable, reach_halves, halves_reach, of_fits, size_current}
use Rattle.sheet.proofs.RebuildLaws.{held_length}

-- ---- steps that were all accepted

pub refused_accepted : (r : Refusal) (s t : Sheet) → refused r s ≡ accepted t → ⊥
refused_accepted r s t e = clash (ap (λ (y : Reply). y.answer) e)

pub in_turn_split : (v : Version) (s t : Sheet) (x : Step) (xs : List Step) → in_turn v s (x ∷ xs) ≡ accepted t
    → (first_of (order_of v s x) ≡ Ok tt) × (in_turn v (filled s x) xs ≡ accepted t)
in_turn_split v s t x xs e = go (applied v s x).answer refl e
  where
    go : (a : Answer) → (applied v s x).answer ≡ a → unless a (in_turn v (applied v s x).sheet xs) ≡ accepted t
        → (first_of (order_of v s x) ≡ Ok tt) × (in_turn v (filled s x) xs ≡ accepted t)
    go (Ok u) f e = let o = applied_accepted v s x f in (o.0, subst (λ (z : Sheet). in_turn v z xs ≡ accepted t) o.1 e)
    go (Err r) f e = absurd (refused_accepted r empty_sheet t e)

-- the tank, the site, the anchors and the courses that a sheet holds, which is consistent
pub record Holds (s : Sheet) (t : Option Tank) (x : Option Site) (a : Option Anchors) (cs : List Course) : Type 0 where
  pub tank : s.tank ≡ t
  pub site : s.site ≡ x
  pub anchors : s.anchors ≡ a
  pub courses : held s ≡ cs
  pub fits : T (consistent s)

courses_left : (v : Version) (cs : List Course) (s t : Sheet) → T (consistent s) → in_turn v s (map AddCourse cs) ≡ accepted t
    → Holds t s.tank s.site s.anchors (held s ++ cs)
courses_left v [] s t r e =
    let f : s ≡ t = ap (λ (y : Reply). y.sheet) e in
    record {
      tank = ap (λ (z : Sheet). z.tank) (sym f);
      site = ap (λ (z : Sheet). z.site) (sym f);
      anchors = ap (λ (z : Sheet). z.anchors) (sym f);
      courses = ap held (sym f) ∙ sym (append-nil (held s));
      fits = subst (λ (z : Sheet). T (consistent z)) f r;
    }
courses_left v (c ∷ cs) s t r e =
    let o = in_turn_split v s t (AddCourse c) (map AddCourse cs) e in
    let h = courses_left v cs (filled s (AddCourse c)) t (filled_consistent s r v (AddCourse c) o.0) o.1 in
    record {
      tank = h.tank;
      site = h.site;
      anchors = h.anchors;
      courses = h.courses ∙ ap (λ (l : List Course). l ++ cs) (held_next s r v c o.0) ∙ append_snoc (held s) c cs;
      fits = h.fits;
    }

-- ---- of bytes

-- what it takes to be read
pub record Read (v : Version) (b : List ℕ) (s : Sheet) : Type 0 where
  pub head : Header v b
  pub steps : in_turn v empty_sheet (steps_in v b) ≡ accepted s

pub read_split : (b : List ℕ) (s : Sheet) → read_in b ≡ accepted s → Read (version_in b) b s
unfolding read_in
read_split b s e = go (first_of (read_order b)) refl e
  where
    go : (a : Answer) → first_of (read_order b) ≡ a → unless a (in_turn (version_in b) empty_sheet (steps_in (version_in b) b)) ≡ accepted s
        → Read (version_in b) b s
    go (Ok u) f e = record { head = header b f; steps = e }
    go (Err r) f e = absurd (refused_accepted r empty_sheet s e)

-- by the version that they say
pub read_version : (v : Version) (b : List ℕ) (s : Sheet) → get_or b 2 0 ≡ version_number v → read_in b ≡ accepted s → Read v b s
read_version v b s x e = go v (version_in b) (read_split b s e) x
  where
    go : (v w : Version) → Read w b s → get_or b 2 0 ≡ version_number v → Read v b s
    go One One r x = r
    go One Two r x = absurd (omega (arith, r.head.version, x))
    go Two One r x = absurd (omega (arith, r.head.version, x))
    go Two Two r x = r

module _ (v : Version) (b : List ℕ) (s : Sheet) (r : Read v b s) where
  abbrev tail : List ℕ
  tail = tail_in v b

  -- READING LEAVES WHAT THE BYTES HOLD, of a size that the version may have
  pub record Left : Type 0 where
    pub holds : Holds s (Some (tank_in v (drop 3 b))) (Some (site_in tail)) (Some (anchors_in (drop 20 tail))) (courses_in r.head.n (drop 33 tail))
    pub size : first_of (size_flaws v (anchors_in (drop 20 tail))) ≡ Ok tt

  pub read_holds : Left
  unfolding steps_in
  read_holds =
      let n = count_of v (two_in b) in
      let t = tank_in v (drop 3 b) in
      let a = anchors_in (drop 20 tail) in
      let x1 = StateTank t in
      let x2 = StateSite (site_in tail) in
      let x3 = StateAnchors a in
      let o1 = in_turn_split v empty_sheet s x1 (from_site n tail) r.steps in
      let s1 = filled empty_sheet x1 in
      let r1 = filled_consistent empty_sheet (reach_halves empty_sheet empty_reachable).0 v x1 o1.0 in
      let o2 = in_turn_split v s1 s x2 (from_anchors n tail) o1.1 in
      let s2 = filled s1 x2 in
      let r2 = filled_consistent s1 r1 v x2 o2.0 in
      let o3 = in_turn_split v s2 s x3 (from_courses n tail) o2.1 in
      let s3 = filled s2 x3 in
      let r3 = filled_consistent s2 r2 v x3 o3.0 in
      let m : n ≡ r.head.n = ap (count_of v) r.head.body ∙ count_of_length v r.head.n in
      let p = courses_left v (courses_in n (drop 33 tail)) s3 s r3 o3.1 in
      record {
        holds = record {
          tank = p.tank;
          site = p.site;
          anchors = p.anchors;
          courses = p.courses ∙ ap (λ (k : ℕ). courses_in k (drop 33 tail)) m;
          fits = p.fits;
        };
        size = (anchors_taken v s2 (record { entry = t; is = refl }) a o3.0).1;
      }

  pub read_count : s.count ≡ r.head.n
  read_count =
      let h = read_holds.holds in
      sym (held_length s h.fits) ∙ ap length h.courses ∙ courses_in_length r.head.n (drop 33 tail)

  -- so it has one course at least
  pub read_some : s.count ≡ 0 → ⊥
  read_some z = omega (arith, z, read_count, r.head.some)

-- version 1 gives what a discontinued size has beside it, and version 2 has none
read_size : (v : Version) (b : List ℕ) (s : Sheet) → Read v b s → T (size_reachable s.tank s.site s.anchors s.count)
read_size One b s r =
    let h = (read_holds One b s r).holds in
    let t = tank_in One (drop 3 b) in
    let g = of_fits t s.site s.count (record { water = refl; site = record { entry = site_in (tail_in One b); is = h.site }; course = read_some One b s r }) in
    let a = anchors_in (drop 20 (tail_in One b)) in
    rw (h.tank, h.anchors) (either (not (discontinued a.size)) (fits_version_1 (Some t) s.site s.count) g)
  where
    either : (d c : Bool) → T c → T (d || c)
    either true c t = tt
    either false c t = t
read_size Two b s r =
    let l = read_holds Two b s r in
    let a = anchors_in (drop 20 (tail_in Two b)) in
    rw (l.holds.anchors, size_current a l.size) tt

read_reachable : (v : Version) (b : List ℕ) (s : Sheet) → Read v b s → T (reachable s)
read_reachable v b s r = halves_reach s (read_holds v b s r).holds.fits (read_size v b s r)

-- ---- beside a refusal the sheet is empty

unless_empty : (a : Answer) (y : Reply) {r : Refusal} → (y.answer ≡ Err r → y ≡ refused r empty_sheet)
    → (unless a y).answer ≡ Err r → unless a y ≡ refused r empty_sheet
unless_empty (Ok u) y f e = f e
unless_empty (Err q) y {r} f e = let k : q ≡ r = cc in ap (λ (r : Refusal). refused r empty_sheet) k

turn_empty : (v : Version) (xs : List Step) (s : Sheet) {r : Refusal} → (in_turn v s xs).answer ≡ Err r → in_turn v s xs ≡ refused r empty_sheet
turn_empty v [] s e = clash (sym e)
turn_empty v (x ∷ xs) s e = unless_empty (applied v s x).answer (in_turn v (applied v s x).sheet xs) (turn_empty v xs (applied v s x).sheet) e

module _ (b : List ℕ) where
  pub read_empty : {r : Refusal} → (read_in b).answer ≡ Err r → read_in b ≡ refused r empty_sheet
  unfolding read_in
  read_empty e =
      let v = version_in b in
      unless_empty (first_of (read_order b)) (in_turn v empty_sheet (steps_in v b)) (turn_empty v (steps_in v b) empty_sheet) e

  pub read_accepted_is : (read_in b).answer ≡ Ok tt → read_in b ≡ accepted (read_in b).sheet
  read_accepted_is e = ap (λ (a : Answer). record { answer = a; sheet = (read_in b).sheet }) e

  -- WHAT READING GIVES PASSES THE TEST
  pub read_sheet_reachable : T (reachable (read_in b).sheet)
  read_sheet_reachable = go (read_in b).answer refl
    where
      go : (a : Answer) → (read_in b).answer ≡ a → T (reachable (read_in b).sheet)
      go (Ok u) e = read_reachable (version_in b) b (read_in b).sheet (read_split b (read_in b).sheet (read_accepted_is e))
      go (Err r) e = subst (λ (y : Reply). T (reachable y.sheet)) (sym (read_empty e)) empty_reachable
