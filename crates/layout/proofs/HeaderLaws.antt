-- The laws of reading before the steps: which refusal the bytes get, and what bytes that get none are like.
-- Assumes nothing.
use Rattle.std.specs.Prelude.{Ok, Err}
use mathlib.Core.Path.{◌≡◌, refl, sym, ap, ◌∙◌, subst}
use mathlib.Core.Bool.{Bool, true, false, not, cond, ◌&&◌, ◌||◌}
use mathlib.Core.List.{List, ◌∷◌}
use mathlib.Core.Logic.{◌↔◌}
use Prim.Native.Nat.{ℕ, suc, ◌+◌, ◌*◌, ◌-◌, ◌≤◌, ◌<◌}
use native.Mathlib.Omega.{arith}
use lib.Dec.{T, leb, eqb}
use lib.ListN.{length, get_or, take, drop, length-drop}
use lib.Seq.{get_or-drop, drop-drop, take_all}
use mir.Facts.{leb_yes, eqb_yes, yes_leb, yes_eqb}
use Rattle.std.proofs.lemmas.Bool.{false_from_ne_true}
use borrow.Author.Tests.{lt-ltb, le-ltb, eq-eqb, ltb-false, not-false, eqb-true}
use Rattle.fields.specs.declared.refusal.Refusal.TheVariants.{TooManyBytes, BadLength}
use Rattle.fields.specs.Order.{first_of, at}
use Rattle.fields.proofs.OrderLaws.{none_exactly}
use Rattle.layout.specs.Numbers.{two_in}
use Rattle.layout.specs.declared.version.Version.{Version}
use Rattle.layout.specs.declared.version.Version.TheVariants.{One, Two}
use Rattle.layout.specs.Layout.{version_number, prefix_length, body_length}
use Rattle.layout.specs.Header.{course_in, courses_in, tail_in, count_of, is_length, version_for, version_in, read_order, Header}
use Rattle.layout.proofs.LayoutLaws.{whole_parts}
use Rattle.lists.proofs.BoolLaws.{T_true, three_yes, yes_three}

-- L is a version's length exactly where it is that of an n from 1 to 12, and then that is the n it gives
pub record Length (v : Version) (L : ℕ) : Type 0 where
  pub n : ℕ
  pub some : 1 ≤ n
  pub few : n ≤ 12
  pub is : L ≡ body_length v n

pub count_of_length : (v : Version) (n : ℕ) → count_of v (body_length v n) ≡ n
count_of_length v n = omega arith

pub length_exactly : (v : Version) (L : ℕ) → T (is_length v L) ↔ Length v L
unfolding is_length
length_exactly v L = (there, back)
  where
    there : T (is_length v L) → Length v L
    there t =
        let a = three_yes (leb 1 (count_of v L)) (leb (count_of v L) 12) (eqb L (body_length v (count_of v L))) t in
        record { n = count_of v L; some = leb_yes a.0; few = leb_yes a.1; is = eqb_yes a.2 }

    back : Length v L → T (is_length v L)
    back l =
        let e : count_of v L ≡ l.n = omega (arith, l.is) in
        let x : 1 ≤ count_of v L = omega (arith, e, l.some) in
        let y : count_of v L ≤ 12 = omega (arith, e, l.few) in
        let z : L ≡ body_length v (count_of v L) = omega (arith, e, l.is) in
        yes_three (leb 1 (count_of v L)) (leb (count_of v L) 12) (eqb L (body_length v (count_of v L))) (yes_leb x) (yes_leb y) (yes_eqb z)

pub is_length_lem : (v : Version) (n : ℕ) → 1 ≤ n → n ≤ 12 → is_length v (body_length v n) ≡ true
is_length_lem v n l m = T_true (is_length v (body_length v n)) ((length_exactly v (body_length v n)).1 (record { n = n; some = l; few = m; is = refl }))

pub length_of : (v : Version) (L : ℕ) → is_length v L ≡ true → Length v L
length_of v L e = (length_exactly v L).0 (subst T (sym e) tt)

-- no length is of both versions
not_both : (L : ℕ) → is_length One L ≡ true → is_length Two L ≡ true → ⊥
not_both L d e = let k = length_of One L d in let l = length_of Two L e in omega (arith, k.is, l.is)

pub version_is : (v : Version) (L : ℕ) → is_length v L ≡ true → version_for L ≡ v
unfolding version_for
version_is One L e = rw e
version_is Two L e = rw (false_from_ne_true (is_length One L) (λ d. not_both L d e))

-- the test of the version that L belongs to is that of both
pub either_length : (L : ℕ) → is_length (version_for L) L ≡ (is_length One L || is_length Two L)
unfolding version_for
either_length L = go (is_length One L) refl
  where
    go : (b : Bool) → is_length One L ≡ b → is_length (cond b One Two) L ≡ (b || is_length Two L)
    go true e = e
    go false e = refl

-- the bytes have their count, and all before the courses
pub tail_inside : (v : Version) (L : ℕ) → is_length v L ≡ true → prefix_length v + 53 ≤ 2 + L
tail_inside v L e = let l = length_of v L e in omega (arith, l.some, l.is, whole_parts v l.n)

-- 14 as the documents have it: where L is a length, it applies but for a version byte of 1 or 2 whose version has this length
pub bad_version : (b : List ℕ) → is_length (version_in b) (two_in b) ≡ true
    → (at (read_order b) 4).applies ≡ not ((eqb (get_or b 2 0) 1 && is_length One (two_in b)) || (eqb (get_or b 2 0) 2 && is_length Two (two_in b)))
bad_version b e = go (version_in b) e
  where
    x : ℕ
    x = get_or b 2 0

    one : (a b : Bool) → not a ≡ not ((a && true) || (b && false))
    one true b = refl
    one false true = refl
    one false false = refl

    two : (a b : Bool) → not b ≡ not ((a && false) || (b && true))
    two true true = refl
    two true false = refl
    two false true = refl
    two false false = refl

    go : (v : Version) → is_length v (two_in b) ≡ true
        → not (eqb x (version_number v)) ≡ not ((eqb x 1 && is_length One (two_in b)) || (eqb x 2 && is_length Two (two_in b)))
    go One e = rw (e, false_from_ne_true (is_length Two (two_in b)) (not_both (two_in b) e)) (one (eqb x 1) (eqb x 2))
    go Two e = rw (e, false_from_ne_true (is_length One (two_in b)) (λ d. not_both (two_in b) d e)) (two (eqb x 1) (eqb x 2))

module _ (b : List ℕ) (h : 2 ≤ length b) where
  -- where L is no length,
  pub no_length : is_length (version_in b) (two_in b) ≡ false → Err BadLength ≡ first_of (read_order b)
  no_length k = rw (le-ltb _ _ h, ← either_length (two_in b), k)

  -- where it is one, and there are more bytes than it has,
  pub too_many : is_length (version_in b) (two_in b) ≡ true → 2 + two_in b < length b → Err TooManyBytes ≡ first_of (read_order b)
  too_many k l = rw (le-ltb _ _ h, ← either_length (two_in b), k, le-ltb (length b) (2 + two_in b) (omega arith), lt-ltb (2 + two_in b) (length b) l)

  -- and where nothing is wrong
  no_flaw : is_length (version_in b) (two_in b) ≡ true → length b ≡ 2 + two_in b → get_or b 2 0 ≡ version_number (version_in b)
      → get_or b (prefix_length (version_in b) + 32) 0 ≡ count_of (version_in b) (two_in b) → Ok tt ≡ first_of (read_order b)
  no_flaw k l x n =
      rw (le-ltb _ _ h, ← either_length (two_in b), k, le-ltb (2 + two_in b) (length b) (omega (arith, l)), le-ltb (length b) (2 + two_in b) (omega (arith, l)), eq-eqb _ _ x, get_or-drop (prefix_length (version_in b)) b 32 0, eq-eqb _ _ n)

-- bytes that come to the steps
pub header : (b : List ℕ) → first_of (read_order b) ≡ Ok tt → Header (version_in b) b
header b e =
    let L = two_in b in
    let v = version_in b in
    let no = (none_exactly (read_order b)).0 e in
    let l = length_of v L (either_length L ∙ not-false (is_length One L || is_length Two L) (no 1 (omega arith))) in
    let lo = ltb-false (length b) (2 + L) (no 2 (omega arith)) in
    let hi = ltb-false (2 + L) (length b) (no 3 (omega arith)) in
    record {
      n = l.n;
      some = l.some;
      few = l.few;
      whole = omega (arith, l.is, lo, hi);
      body = l.is;
      version = eqb-true (get_or b 2 0) (version_number v) (not-false (eqb (get_or b 2 0) (version_number v)) (no 4 (omega arith)));
      count = eqb-true (get_or (tail_in v b) 32 0) (count_of v L) (not-false (eqb (get_or (tail_in v b) 32 0) (count_of v L)) (no 5 (omega arith)))
          ∙ ap (count_of v) l.is ∙ count_of_length v l.n;
    }

-- and back, of the version that they say
pub headed_version : (v : Version) (b : List ℕ) → Header v b → version_in b ≡ v
headed_version v b h = ap version_for h.body ∙ version_is v (body_length v h.n) (is_length_lem v h.n h.some h.few)

pub headed : (v : Version) (b : List ℕ) → Header v b → first_of (read_order b) ≡ Ok tt
headed v b h =
    let e = headed_version v b h in
    let L = two_in b in
    let k : is_length (version_in b) L ≡ true = ap (λ (w : Version). is_length w L) e ∙ ap (is_length v) h.body ∙ is_length_lem v h.n h.some h.few in
    let n : get_or b (prefix_length (version_in b) + 32) 0 ≡ count_of (version_in b) L
    = ap (λ (w : Version). get_or b (prefix_length w + 32) 0) e
    ∙ sym (get_or-drop (prefix_length v) b 32 0) ∙ h.count ∙ sym (count_of_length v h.n)
    ∙ ap (count_of v) (sym h.body) ∙ ap (λ (w : Version). count_of w L) (sym e) in
    sym (no_flaw b (omega (arith, h.whole)) k (omega (arith, h.body, h.whole)) (h.version ∙ ap version_number (sym e)) n)

-- the courses of a tail, one after the other
pub courses_next : (tail : List ℕ) (n i : ℕ) → i < n
    → courses_in (n - i) (drop (33 + 20 * i) tail) ≡ course_in (drop (33 + 20 * i) tail) ∷ courses_in (n - (i + 1)) (drop (33 + 20 * (i + 1)) tail)
courses_next tail n i h =
    let e : n - i ≡ suc (n - (i + 1)) = omega arith in
    let f : 33 + 20 * i + 20 ≡ 33 + 20 * (i + 1) = omega arith in
    ap (λ (k : ℕ). courses_in k (drop (33 + 20 * i) tail)) e
    ∙ ap (λ (l : List ℕ). course_in (drop (33 + 20 * i) tail) ∷ courses_in (n - (i + 1)) l)
    (drop-drop 20 (33 + 20 * i) tail ∙ ap (λ (k : ℕ). drop k tail) f)

-- the tail as a part of the bytes
pub tail_part : (v : Version) (b : List ℕ) {p : ℕ} → p ≡ prefix_length v → take (length b - p) (drop p b) ≡ tail_in v b
tail_part v b {p} e = take_all (length b - p) (drop p b) (omega (arith, length-drop p b)) ∙ ap (λ (q : ℕ). drop q b) e
