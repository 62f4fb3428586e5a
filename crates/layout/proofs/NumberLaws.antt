-- The laws of numbers in bytes, big-endian, both ways.
-- Assumes nothing.
use mathlib.Core.Path.{◌≡◌, refl, sym, ap, ◌∙◌, subst}
use mathlib.Core.List.{List, [], ◌∷◌, ◌++◌}
use Prim.Native.Nat.{ℕ, zero, suc, ◌+◌, ◌*◌, ◌/◌, ◌%◌, ◌≤◌, ◌<◌}
use native.Mathlib.Nat.{add-zero}
use native.Mathlib.Omega.{arith}
use native.Mathlib.Numerals.{add-one}
use lib.ListN.{length, get_or, take, drop, length-drop}
use lib.Seq.{sets, get_or-drop, drop-drop, take-suc, take-add, length-take-le}
use Rattle.lists.proofs.SetsLaws.{sets_append}
use Rattle.std.specs.Int.{from_be_bytes, to_be_bytes}
use mir.Syntax.{w32}
use Rattle.layout.specs.Numbers.{AllBytes, two, four, fours, two_in, four_in, figures_from}

-- at a place of the bytes
pub four_at : (b : List ℕ) (i : ℕ) → four_in (drop i b) ≡ 16777216 * get_or b i 0 + 65536 * get_or b (i + 1) 0 + 256 * get_or b (i + 2) 0 + get_or b (i + 3) 0
unfolding four_in
four_at b i =
    let z : get_or (drop i b) 0 0 ≡ get_or b i 0 = get_or-drop i b 0 0 ∙ ap (λ (k : ℕ). get_or b k 0) (add-zero i) in
    omega (arith, z, get_or-drop i b 1 0, get_or-drop i b 2 0, get_or-drop i b 3 0)

-- by the library's methods
pub from_bytes : (b : List ℕ) (i : ℕ)
    → from_be_bytes w32 (get_or b i 0 ∷ get_or b (i + 1) 0 ∷ get_or b (i + 2) 0 ∷ get_or b (i + 3) 0 ∷ []) ≡ four_in (drop i b)
from_bytes b i = omega (arith, four_at b i)

pub to_bytes : (x : ℕ) → to_be_bytes w32 x ≡ four x
to_bytes x = refl

-- one figure more
pub figures_next : (n i : ℕ) (b : List ℕ) → figures_from i (n + 1) b ≡ figures_from i n b ++ (four_in (drop (i + 4 * n) b) ∷ [])
figures_next zero i b = ap (λ (k : ℕ). four_in (drop k b) ∷ []) (sym (add-zero i))
figures_next (suc n) i b =
    let e : i + 4 + 4 * n ≡ i + 4 * suc n = omega arith in
    ap (λ (k : ℕ). figures_from i k b) (add-one (suc n))
    ∙ ap (λ (l : List ℕ). four_in (drop i b) ∷ l) (ap (λ (k : ℕ). figures_from (i + 4) k b) (sym (add-one n)) ∙ figures_next n (i + 4) b)
    ∙ ap (λ (k : ℕ). four_in (drop i b) ∷ (figures_from (i + 4) n b ++ (four_in (drop k b) ∷ []))) e

pub four_on : (b : List ℕ) (i k : ℕ) → four_in (drop k (drop i b)) ≡ four_in (drop (i + k) b)
four_on b i k = ap four_in (drop-drop k i b)

pub fours_length : (xs : List ℕ) → length (fours xs) ≡ 4 * length xs
fours_length [] = refl
fours_length (x ∷ xs) = omega (arith, fours_length xs)

pub fours_append : (xs ys : List ℕ) → fours (xs ++ ys) ≡ fours xs ++ fours ys
fours_append [] ys = refl
fours_append (x ∷ xs) ys = ap (λ (l : List ℕ). four x ++ l) (fours_append xs ys)

-- stored one figure after the other
pub fours_next : (l xs : List ℕ) (at i : ℕ) → i < length xs
    → sets (sets l at (fours (take i xs))) (at + 4 * i) (four (get_or xs i 0)) ≡ sets l at (fours (take (i + 1) xs))
fours_next l xs at i h =
    let n : at + length (fours (take i xs)) ≡ at + 4 * i = omega (arith, fours_length (take i xs), length-take-le i xs (omega arith)) in
    let e : take (i + 1) xs ≡ take i xs ++ (get_or xs i 0 ∷ []) = rw (add-one i) (take-suc xs i 0 h) in
    ap (λ (k : ℕ). sets (sets l at (fours (take i xs))) k (four (get_or xs i 0))) (sym n)
    ∙ sym (sets_append (fours (take i xs)) (four (get_or xs i 0)) l at)
    ∙ ap (λ (z : List ℕ). sets l at z) (sym (ap fours e ∙ fours_append (take i xs) (get_or xs i 0 ∷ [])))

-- ---- a number below 2^32 comes back from its four bytes, one below 2^16 from its two

joined : (x p q r a b c : ℕ) → x ≡ 256 * p + a → p ≡ 256 * q + b → q ≡ 256 * r + c → 16777216 * r + 65536 * c + 256 * b + a ≡ x
joined x p q r a b c e f g = omega arith

pub four_back : (x : ℕ) (b : List ℕ) → x < 4294967296 → four_in (four x ++ b) ≡ x
unfolding four_in
four_back x b h =
    let e : x / 65536 ≡ x / 256 / 256 = omega arith in
    let f : x / 16777216 ≡ x / 256 / 256 / 256 = omega arith in
    let g : x / 256 / 256 / 256 % 256 ≡ x / 256 / 256 / 256 = omega arith in
    let h : x ≡ 256 * (x / 256) + x % 256 = omega arith in
    let i : x / 256 ≡ 256 * (x / 256 / 256) + x / 256 % 256 = omega arith in
    let j : x / 256 / 256 ≡ 256 * (x / 256 / 256 / 256) + x / 256 / 256 % 256 = omega arith in
    rw (e, f, g) (joined x (x / 256) (x / 256 / 256) (x / 256 / 256 / 256) (x % 256) (x / 256 % 256) (x / 256 / 256 % 256) h i j)

pub two_back : (x : ℕ) (b : List ℕ) → x < 65536 → two_in (two x ++ b) ≡ x
two_back x b h = omega arith

-- ---- bytes come back from their number

digits : (a b c d : ℕ) → a < 256 → b < 256 → c < 256 → d < 256 → four (16777216 * a + 65536 * b + 256 * c + d) ≡ a ∷ b ∷ c ∷ d ∷ []
digits a b c d h i j k =
    let n = 16777216 * a + 65536 * b + 256 * c + d in
    let w : n / 16777216 % 256 ≡ a = omega arith in
    let x : n / 65536 % 256 ≡ b = omega arith in
    let y : n / 256 % 256 ≡ c = omega arith in
    let z : n % 256 ≡ d = omega arith in
    rw (w, x, y, z)

pub back_four : (b : List ℕ) → AllBytes b → 4 ≤ length b → four (four_in b) ≡ take 4 b
unfolding four_in
back_four [] k h = absurd (omega arith)
back_four (a ∷ []) k h = absurd (omega arith)
back_four (a ∷ b ∷ []) k h = absurd (omega arith)
back_four (a ∷ b ∷ c ∷ []) k h = absurd (omega arith)
back_four (a ∷ b ∷ c ∷ d ∷ l) k h = digits a b c d (k.below 0) (k.below 1) (k.below 2) (k.below 3)

pub back_two : (b : List ℕ) → AllBytes b → 2 ≤ length b → two (two_in b) ≡ take 2 b
back_two [] k h = absurd (omega arith)
back_two (a ∷ []) k h = absurd (omega arith)
back_two (a ∷ b ∷ l) k h =
    let f : a < 256 = k.below 0 in
    let g : b < 256 = k.below 1 in
    let x : (256 * a + b) / 256 % 256 ≡ a = omega arith in
    let y : (256 * a + b) % 256 ≡ b = omega arith in
    rw (x, y)

pub bytes_drop : (b : List ℕ) (i : ℕ) → AllBytes b → AllBytes (drop i b)
bytes_drop b i k = record { below = λ j. subst (λ (x : ℕ). x < 256) (sym (get_or-drop i b j 0)) (k.below (i + j)) }

-- ---- what is laid out are bytes

bytes_none : AllBytes []
bytes_none = record { below = λ i. omega arith }

pub bytes_cons : (x : ℕ) (b : List ℕ) → x < 256 → AllBytes b → AllBytes (x ∷ b)
bytes_cons x b h k = record { below = go }
  where
    go : (i : ℕ) → get_or (x ∷ b) i 0 < 256
    go zero = h
    go (suc i) = k.below i

pub bytes_append : (a b : List ℕ) → AllBytes a → AllBytes b → AllBytes (a ++ b)
bytes_append [] b k l = l
bytes_append (x ∷ a) b k l = bytes_cons x (a ++ b) (k.below 0) (bytes_append a b (bytes_drop (x ∷ a) 1 k) l)

pub bytes_two : (x : ℕ) → AllBytes (two x)
bytes_two x = bytes_cons (x / 256 % 256) ((x % 256) ∷ []) (omega arith) (bytes_cons (x % 256) [] (omega arith) bytes_none)

bytes_four : (x : ℕ) → AllBytes (four x)
bytes_four x =
    bytes_cons (x / 16777216 % 256) ((x / 65536 % 256) ∷ two x) (omega arith) (bytes_cons (x / 65536 % 256) (two x) (omega arith) (bytes_two x))

pub bytes_fours : (xs : List ℕ) → AllBytes (fours xs)
bytes_fours [] = bytes_none
bytes_fours (x ∷ xs) = bytes_append (four x) (fours xs) (bytes_four x) (bytes_fours xs)

pub figures_back : (n i : ℕ) (b : List ℕ) → AllBytes b → i + 4 * n ≤ length b → fours (figures_from i n b) ≡ take (4 * n) (drop i b)
figures_back zero i b k h = refl
figures_back (suc n) i b k h =
    let e : 4 * suc n ≡ 4 + 4 * n = omega arith in
    ap (λ (l : List ℕ). l ++ fours (figures_from (i + 4) n b)) (back_four (drop i b) (bytes_drop b i k) (omega (arith, length-drop i b)))
    ∙ ap (λ (l : List ℕ). take 4 (drop i b) ++ l) (figures_back n (i + 4) b k (omega arith) ∙ ap (λ (l : List ℕ). take (4 * n) l) (sym (drop-drop 4 i b)))
    ∙ sym (ap (λ (m : ℕ). take m (drop i b)) e ∙ take-add 4 (4 * n) (drop i b))
