-- A sheet's bytes come back, by the layout alone: figures that are read and laid out again are the same bytes (`same_bytes`), and figures
-- that are laid out are bytes and are read again (`small_of` and what follows it).
-- Assumes nothing.
use mathlib.Core.Path.{◌≡◌, refl, sym, ap, ◌∙◌}
use mathlib.Core.List.{List, [], ◌∷◌, ◌++◌, append_assoc}
use Prim.Native.Nat.{ℕ, zero, suc, ◌+◌, ◌*◌, ◌≤◌, ◌<◌}
use native.Mathlib.Omega.{arith}
use lib.ListN.{length, get_or, take, drop, take-append-drop, length-drop}
use lib.Seq.{drop-drop, take-add, take_all, drop-cons}
use Rattle.fields.proofs.RangeLaws.{within_most}
use Rattle.fields.specs.Order.{Figure, values}
use Rattle.entries.specs.Sheet.{tank_figures, site_figures, anchor_figures, course_figures, tank_with, site_with, anchors_with, course_with}
use Rattle.entries.specs.declared.sheet.Tank.{Tank}
use Rattle.entries.specs.declared.sheet.Site.{Site}
use Rattle.entries.specs.declared.sheet.Anchors.{Anchors}
use Rattle.entries.specs.declared.sheet.Course.{Course}
use Rattle.flaws.proofs.FieldLaws.{Pass}
use Rattle.layout.specs.Numbers.{AllBytes, two, four, fours, two_in, four_in, figures_from, figures_in}
use Rattle.layout.specs.declared.version.Version.{Version}
use Rattle.layout.specs.declared.version.Version.TheVariants.{One, Two}
use Rattle.layout.specs.Layout.{version_number, tank_count, prefix_length, tail_length, body_length, prefix_of, tail_head, courses_figures, tail_of, layout}
use Rattle.layout.specs.Header.{tank_in, site_in, anchors_in, course_in, courses_in, tail_in, renewed, Header}
use Rattle.layout.proofs.NumberLaws.{fours_append, four_back, two_back, back_two, bytes_drop, bytes_cons, bytes_append, bytes_two, bytes_fours, figures_back}
use Rattle.layout.proofs.LayoutLaws.{whole_parts, layout_length}

-- ---- read, then laid out

courses_back : (n : ℕ) (b : List ℕ) → AllBytes b → 20 * n ≤ length b → fours (courses_figures (courses_in n b)) ≡ take (20 * n) b
courses_back zero b k h = refl
courses_back (suc n) b k h =
    let e : 20 * suc n ≡ 20 + 20 * n = omega arith in
    fours_append (course_figures (course_in b)) (courses_figures (courses_in n (drop 20 b)))
    ∙ ap (λ (l : List ℕ). l ++ fours (courses_figures (courses_in n (drop 20 b)))) (figures_back 5 0 b k (omega arith))
    ∙ ap (λ (l : List ℕ). take 20 b ++ l) (courses_back n (drop 20 b) (bytes_drop b 20 k) (omega (arith, length-drop 20 b)))
    ∙ sym (ap (λ (m : ℕ). take m b) e ∙ take-add 20 (20 * n) b)

-- bytes are their parts
cut : (k i : ℕ) (b : List ℕ) → drop i b ≡ take k (drop i b) ++ drop (i + k) b
cut k i b = sym (take-append-drop k (drop i b)) ∙ ap (λ (l : List ℕ). take k (drop i b) ++ l) (drop-drop k i b)

pub courses_in_length : (n : ℕ) (b : List ℕ) → length (courses_in n b) ≡ n
courses_in_length zero b = refl
courses_in_length (suc n) b = ap suc (courses_in_length n (drop 20 b))

-- the tail, by its own places
tail_same : (n : ℕ) (l : List ℕ) → AllBytes l → length l ≡ tail_length n → get_or l 32 0 ≡ n
    → tail_of (site_in l) (anchors_in (drop 20 l)) (courses_in n (drop 33 l)) ≡ l
unfolding tail_head
tail_same n l k h e =
    let cs = courses_in n (drop 33 l) in
    let x = fours (site_figures (site_in l)) in
    let a = fours (anchor_figures (anchors_in (drop 20 l))) in
    let f = fours (courses_figures cs) in
    let m : length cs ≡ get_or l 32 0 = courses_in_length n (drop 33 l) ∙ sym e in
    let all : take (20 * n) (drop 33 l) ≡ drop 33 l = take_all (20 * n) (drop 33 l) (omega (arith, length-drop 33 l)) in
    append_assoc x (a ++ (length cs ∷ [])) f
    ∙ ap (λ (z : List ℕ). x ++ z) (append_assoc a (length cs ∷ []) f)
    ∙ ap (λ (z : List ℕ). z ++ (a ++ (length cs ∷ f))) (figures_back 5 0 l k (omega arith))
    ∙ ap (λ (z : List ℕ). take 20 l ++ (z ++ (length cs ∷ f))) (figures_back 3 0 (drop 20 l) (bytes_drop l 20 k) (omega (arith, length-drop 20 l)))
    ∙ ap (λ (z : ℕ). take 20 l ++ (take 12 (drop 20 l) ++ (z ∷ f))) m
    ∙ ap (λ (z : List ℕ). take 20 l ++ (take 12 (drop 20 l) ++ (get_or l 32 0 ∷ z))) (courses_back n (drop 33 l) (bytes_drop l 33 k) (omega (arith, length-drop 33 l)) ∙ all)
    ∙ sym (cut 20 0 l ∙ ap (λ (z : List ℕ). take 20 l ++ z) (cut 12 20 l ∙ ap (λ (z : List ℕ). take 12 (drop 20 l) ++ z) (drop-cons l 32 0 (omega arith))))

-- the prefix: the figures that a version has
tank_kept : (v : Version) (b : List ℕ) → take (tank_count v) (tank_figures (tank_in v b)) ≡ figures_in (tank_count v) b
tank_kept One b = refl
tank_kept Two b = refl

prefix_same : (v : Version) (n : ℕ) (b : List ℕ) → AllBytes b → prefix_length v ≤ length b → two_in b ≡ body_length v n → get_or b 2 0 ≡ version_number v
    → prefix_of v n (tank_in v (drop 3 b)) ≡ take (prefix_length v) b
unfolding prefix_of
prefix_same v n b k h e m =
    let x = version_number v in
    let c = tank_count v in
    let t = fours (take c (tank_figures (tank_in v (drop 3 b)))) in
    let i : prefix_length v ≡ 2 + suc (4 * c) = omega arith in
    ap (λ (z : ℕ). two z ++ (x ∷ t)) (sym e)
    ∙ ap (λ (z : List ℕ). z ++ (x ∷ t)) (back_two b k (omega arith))
    ∙ ap (λ (z : List ℕ). take 2 b ++ (x ∷ fours z)) (tank_kept v (drop 3 b))
    ∙ ap (λ (z : List ℕ). take 2 b ++ (x ∷ z)) (figures_back c 0 (drop 3 b) (bytes_drop b 3 k) (omega (arith, length-drop 3 b)))
    ∙ ap (λ (z : ℕ). take 2 b ++ (z ∷ take (4 * c) (drop 3 b))) (sym m)
    ∙ sym (ap (λ (z : ℕ). take z b) i ∙ take-add 2 (suc (4 * c)) b ∙ ap (λ (z : List ℕ). take 2 b ++ take (suc (4 * c)) z) (drop-cons b 2 0 (omega arith)))

module _ (v : Version) (b : List ℕ) (h : Header v b) where
  abbrev pub tail : List ℕ
  tail = tail_in v b

  -- FIGURES THAT ARE READ AND LAID OUT AGAIN ARE THE SAME BYTES
  pub same_bytes : AllBytes b
      → layout v (tank_in v (drop 3 b)) (site_in tail) (anchors_in (drop 20 tail)) (courses_in h.n (drop 33 tail)) ≡ b
  same_bytes k =
      let p = prefix_length v in
      let rest = tail_of (site_in tail) (anchors_in (drop 20 tail)) (courses_in h.n (drop 33 tail)) in
      let whole = h.whole ∙ whole_parts v h.n in
      ap (λ (m : ℕ). prefix_of v m (tank_in v (drop 3 b)) ++ rest) (courses_in_length h.n (drop 33 tail))
      ∙ ap (λ (z : List ℕ). z ++ rest) (prefix_same v h.n b k (omega (arith, whole)) h.body h.version)
      ∙ ap (λ (z : List ℕ). take p b ++ z) (tail_same h.n tail (bytes_drop b p k) (omega (arith, length-drop p b, whole)) h.count)
      ∙ take-append-drop p b

-- and those of version 1, laid out as version 2, are renewed
pub renewed_bytes : (b : List ℕ) (h : Header One b) → AllBytes b
    → layout Two (tank_in One (drop 3 b)) (site_in (tail One b h)) (anchors_in (drop 20 (tail One b h))) (courses_in h.n (drop 33 (tail One b h))) ≡ renewed b
unfolding prefix_of
renewed_bytes b h k =
    let t = tail One b h in
    let cs = courses_in h.n (drop 33 t) in
    let rest = tail_of (site_in t) (anchors_in (drop 20 t)) cs in
    let xs = figures_in 6 (drop 3 b) in
    let n : body_length Two (length cs) ≡ two_in b + 4 = omega (arith, courses_in_length h.n (drop 33 t), h.body) in
    let whole = h.whole ∙ whole_parts One h.n in
    ap (λ (z : ℕ). (two z ++ (2 ∷ fours (xs ++ (1000 ∷ [])))) ++ rest) n
    ∙ ap (λ (z : List ℕ). (two (two_in b + 4) ++ (2 ∷ z)) ++ rest) (fours_append xs (1000 ∷ []))
    ∙ ap (λ (z : List ℕ). (two (two_in b + 4) ++ (2 ∷ (z ++ four 1000))) ++ rest) (figures_back 6 0 (drop 3 b) (bytes_drop b 3 k) (omega (arith, length-drop 3 b, whole)))
    ∙ ap (λ (z : List ℕ). two (two_in b + 4) ++ (2 ∷ z)) (append_assoc (take 24 (drop 3 b)) (four 1000) rest)
    ∙ ap (λ (z : List ℕ). two (two_in b + 4) ++ (2 ∷ (take 24 (drop 3 b) ++ (four 1000 ++ z)))) (tail_same h.n t (bytes_drop b 27 k) (omega (arith, length-drop 27 b, whole)) h.count)

-- ---- laid out, then read

-- figures that fit four bytes, as those do that pass the test of their fields
abbrev pub Small : List ℕ → Type 0
Small [] = Unit {0}
Small (x ∷ xs) = (x < 4294967296) × Small xs

small_take : (n : ℕ) (xs : List ℕ) → Small xs → Small (take n xs)
small_take zero xs h = tt
small_take (suc n) [] h = tt
small_take (suc n) (x ∷ xs) h = (h.0, small_take n xs h.1)

pub small_of : (fs : List Figure) → Pass fs → Small (values fs)
small_of [] p = tt
small_of (f ∷ fs) p = (omega (arith, within_most f.field f.value p.0), small_of fs p.1)

-- figures that are laid out are read again
pub figures_read : (xs : List ℕ) (i : ℕ) (b c : List ℕ) → drop i b ≡ fours xs ++ c → Small xs → figures_from i (length xs) b ≡ xs
figures_read [] i b c e h = refl
figures_read (x ∷ xs) i b c e h =
    ap (λ (y : ℕ). y ∷ figures_from (i + 4) (length xs) b) (ap four_in e ∙ four_back x (fours xs ++ c) h.0)
    ∙ ap (λ (ys : List ℕ). x ∷ ys) (figures_read xs (i + 4) b c (sym (drop-drop 4 i b) ∙ ap (λ (l : List ℕ). drop 4 l) e) h.1)

course_back : (c : Course) (b : List ℕ) → Small (course_figures c) → course_in (fours (course_figures c) ++ b) ≡ c
course_back c b h = ap course_with (figures_read (course_figures c) 0 (fours (course_figures c) ++ b) b refl h)

pub data SmallCourses : List Course → Type 0 where
  none : SmallCourses []
  one : {c : Course} {cs : List Course} → Small (course_figures c) → SmallCourses cs → SmallCourses (c ∷ cs)

courses_read : {cs : List Course} → SmallCourses cs → courses_in (length cs) (fours (courses_figures cs)) ≡ cs
courses_read none = refl
courses_read (one {c} {cs} h k) =
    ap (λ (l : List ℕ). courses_in (suc (length cs)) l) (fours_append (course_figures c) (courses_figures cs))
    ∙ ap (λ (y : Course). y ∷ courses_in (length cs) (fours (courses_figures cs))) (course_back c (fours (courses_figures cs)) h)
    ∙ ap (λ (l : List Course). c ∷ l) (courses_read k)

-- the parts of the tail come back
module _ (x : Site) (a : Anchors) (cs : List Course) where
  abbrev tail_laid : List ℕ
  tail_laid = tail_of x a cs

  pub site_back : Small (site_figures x) → site_in tail_laid ≡ x
  unfolding tail_head
  site_back h = ap site_with (figures_read (site_figures x) 0 tail_laid (drop 20 tail_laid) refl h)

  pub anchors_back : Small (anchor_figures a) → anchors_in (drop 20 tail_laid) ≡ a
  unfolding tail_head
  anchors_back h = ap anchors_with (figures_read (anchor_figures a) 0 (drop 20 tail_laid) (drop 32 tail_laid) refl h)

  courses_laid : drop 33 tail_laid ≡ fours (courses_figures cs)
  unfolding tail_head
  courses_laid = refl

  pub courses_back_again : SmallCourses cs → courses_in (length cs) (drop 33 tail_laid) ≡ cs
  courses_back_again h = ap (λ (l : List ℕ). courses_in (length cs) l) courses_laid ∙ courses_read h

-- a version tells a tank where it has all its figures
abbrev pub Tells : Version → Tank → Type 0
Tells One t = t.gravity ≡ 1000
Tells Two t = Unit {0}

-- and so do those of the prefix, of a tank that the version tells
module _ (v : Version) (t : Tank) (x : Site) (a : Anchors) (cs : List Course) where
  abbrev pub laid : List ℕ
  laid = layout v t x a cs

pub tank_back : (v : Version) (t : Tank) (x : Site) (a : Anchors) (cs : List Course) → Tells v t → Small (tank_figures t)
    → tank_in v (drop 3 (laid v t x a cs)) ≡ t
unfolding prefix_of
tank_back One t x a cs e h =
    let six = take 6 (tank_figures t) in
    ap (λ (xs : List ℕ). tank_with (xs ++ (1000 ∷ []))) (figures_read six 0 (drop 3 (laid One t x a cs)) (tail_of x a cs) refl (small_take 6 (tank_figures t) h))
    ∙ ap (λ (g : ℕ). tank_with (six ++ (g ∷ []))) (sym e)
tank_back Two t x a cs e h = ap tank_with (figures_read (tank_figures t) 0 (drop 3 (laid Two t x a cs)) (tail_of x a cs) refl h)

pub tail_back : (v : Version) (t : Tank) (x : Site) (a : Anchors) (cs : List Course) → tail_in v (laid v t x a cs) ≡ tail_of x a cs
unfolding prefix_of
tail_back One t x a cs = refl
tail_back Two t x a cs = refl

pub laid_version : (v : Version) (t : Tank) (x : Site) (a : Anchors) (cs : List Course) → get_or (laid v t x a cs) 2 0 ≡ version_number v
unfolding prefix_of
laid_version v t x a cs = refl

module _ (v : Version) (t : Tank) (x : Site) (a : Anchors) (cs : List Course) (m : length cs ≤ 12) where
  pub laid_length : two_in (laid v t x a cs) ≡ body_length v (length cs)
  unfolding prefix_of
  laid_length = two_back (body_length v (length cs)) (drop 2 (laid v t x a cs)) (go v)
    where
      go : (v : Version) → body_length v (length cs) < 65536
      go One = omega (arith, m)
      go Two = omega (arith, m)

  pub laid_header : 1 ≤ length cs → Header v (laid v t x a cs)
  unfolding prefix_of tail_head
  laid_header l =
      record {
        n = length cs;
        some = l;
        few = m;
        whole = layout_length v t x a cs;
        body = laid_length;
        version = laid_version v t x a cs;
        count = ap (λ (b : List ℕ). get_or b 32 0) (tail_back v t x a cs);
      }

  pub laid_bytes : AllBytes (laid v t x a cs)
  unfolding prefix_of tail_head
  laid_bytes =
      let n = length cs in
      let p = fours (take (tank_count v) (tank_figures t)) in
      let f = fours (courses_figures cs) in
      let l = bytes_append (fours (site_figures x)) (fours (anchor_figures a) ++ (n ∷ [])) (bytes_fours (site_figures x))
      (bytes_append (fours (anchor_figures a)) (n ∷ []) (bytes_fours (anchor_figures a)) (bytes_cons n [] (omega (arith, m)) (bytes_fours []))) in
      bytes_append (two (body_length v n) ++ (version_number v ∷ p)) (tail_of x a cs)
      (bytes_append (two (body_length v n)) (version_number v ∷ p) (bytes_two (body_length v n)) (bytes_cons (version_number v) p (go v) (bytes_fours (take (tank_count v) (tank_figures t)))))
      (bytes_append (tail_head x a n) f l (bytes_fours (courses_figures cs)))
    where
      go : (v : Version) → version_number v < 256
      go One = omega arith
      go Two = omega arith
