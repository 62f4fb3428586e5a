-- The laws of numbers as text.
-- Assumes nothing.
use mathlib.Core.Path.{◌≡◌, refl, sym, ap, ◌∙◌}
use mathlib.Core.Bool.{true, cond}
use mathlib.Core.List.{List, [], ◌∷◌, ◌++◌, append_assoc}
use Prim.Native.Nat.{ℕ, zero, suc, ◌+◌, ◌*◌, ◌-◌, ◌/◌, ◌%◌, ◌^◌, ◌≤◌, ◌<◌}
use native.Mathlib.Nat.{lt_of_not-le, pow-suc}
use native.Mathlib.Decide.{dec_le}
use native.Mathlib.Omega.{arith}
use lib.Dec.{ltb}
use lib.ListN.{length, get_or, length-append, get_or-append}
use lib.IntN.{ℤ, pos, nat_abs}
use lib.Signed.{lt_z}
use mir.Syntax.{w64}
use mir.Val.{SFits, to_z, of_z}
use mir.Facts.{to_z-of_z}
use borrow.Author.Tests.{lt-ltb, le-ltb}
use Rattle.exact.proofs.SignedLaws.{below_zero}
use Rattle.words.specs.Decimal.{digit, two_digits, decimal_in, decimal, signed, value_after}
use Rattle.words.specs.Stored.{Appends}
use Rattle.words.specs.declared.store.Text.{Text}

-- any number of turns from n on gives the same digits
turns : (j k n : ℕ) → n ≤ j → n ≤ k → decimal_in j n ≡ decimal_in k n
turns zero zero n p q = refl
turns zero (suc k) n p q = rw (lt-ltb n 10 (omega arith))
turns (suc j) zero n p q = rw (lt-ltb n 10 (omega arith))
turns (suc j) (suc k) n p q =
    ap (λ (l : List ℕ). cond (ltb n 10) (digit n ∷ []) (l ++ (digit (n % 10) ∷ []))) (turns j k (n / 10) (omega arith) (omega arith))

pub decimal_below : (n : ℕ) → n < 10 → decimal n ≡ digit n ∷ []
unfolding decimal
decimal_below n h = turns n 10 n (omega arith) (omega arith) ∙ rw (lt-ltb n 10 h)

pub decimal_next : (n : ℕ) → 10 ≤ n → decimal n ≡ decimal (n / 10) ++ (digit (n % 10) ∷ [])
unfolding decimal
decimal_next n h =
    turns n (suc n) n (omega arith) (omega arith)
    ∙ rw (le-ltb n 10 h) (ap (λ (l : List ℕ). l ++ (digit (n % 10) ∷ [])) (turns n (n / 10) (n / 10) (omega arith) (omega arith)))

pub next_long : (n : ℕ) → 10 ≤ n → length (decimal n) ≡ length (decimal (n / 10)) + 1
next_long n h = ap length (decimal_next n h) ∙ length-append (decimal (n / 10)) (digit (n % 10) ∷ [])

-- two digits at once
pub decimal_two : (n : ℕ) → 10 ≤ n → n < 100 → decimal n ≡ two_digits n
decimal_two n h l = decimal_next n h ∙ ap (λ (ds : List ℕ). ds ++ (digit (n % 10) ∷ [])) (decimal_below (n / 10) (omega arith))

pub decimal_hundreds : (n : ℕ) → 100 ≤ n → decimal n ≡ decimal (n / 100) ++ two_digits (n % 100)
decimal_hundreds n h =
    let q : n / 10 / 10 ≡ n / 100 = omega arith in
    let d : n / 10 % 10 ≡ n % 100 / 10 = omega arith in
    let e : n % 10 ≡ n % 100 % 10 = omega arith in
    rw (decimal_next n (omega arith), decimal_next (n / 10) (omega arith), q, d, e)
    (append_assoc (decimal (n / 100)) (digit (n % 100 / 10) ∷ []) (digit (n % 100 % 10) ∷ []))

pub hundreds_long : (n : ℕ) → 100 ≤ n → length (decimal n) ≡ length (decimal (n / 100)) + 2
hundreds_long n h = ap length (decimal_hundreds n h) ∙ length-append (decimal (n / 100)) (two_digits (n % 100))

-- and four
pub decimal_thousands : (n : ℕ) → 10000 ≤ n
    → decimal n ≡ decimal (n / 10000) ++ (two_digits (n % 10000 / 100) ++ two_digits (n % 10000 % 100))
decimal_thousands n h =
    let q : n / 100 / 100 ≡ n / 10000 = omega arith in
    let d : n / 100 % 100 ≡ n % 10000 / 100 = omega arith in
    let e : n % 100 ≡ n % 10000 % 100 = omega arith in
    rw (decimal_hundreds n (omega arith), decimal_hundreds (n / 100) (omega arith), q, d, e)
    (append_assoc (decimal (n / 10000)) (two_digits (n % 10000 / 100)) (two_digits (n % 10000 % 100)))

pub thousands_long : (n : ℕ) → 10000 ≤ n → length (decimal n) ≡ length (decimal (n / 10000)) + 4
thousands_long n h =
    ap length (decimal_thousands n h)
    ∙ length-append (decimal (n / 10000)) (two_digits (n % 10000 / 100) ++ two_digits (n % 10000 % 100))

-- ---- the value of the digits is the number, and the first is 0 in 0 alone

after_append : (n : ℕ) (xs ys : List ℕ) → value_after n (xs ++ ys) ≡ value_after (value_after n xs) ys
after_append n [] ys = refl
after_append n (x ∷ xs) ys = after_append (10 * n + (x - digit 0)) xs ys

record Digits (n : ℕ) (ds : List ℕ) : Type 0 where
  value : value_after 0 ds ≡ n
  first : get_or ds 0 0 ≡ digit 0 → n ≡ 0
  some : 0 < length ds

-- with one digit, and with one more
one : (n : ℕ) → Digits n (digit n ∷ [])
one n = record { value = omega arith; first = λ e. omega (arith, e); some = omega arith }

next : (n : ℕ) (ds : List ℕ) → 10 ≤ n → Digits (n / 10) ds → Digits n (ds ++ (digit (n % 10) ∷ []))
next n ds l s =
    let d = digit (n % 10) ∷ [] in
    record {
      value = after_append 0 ds d ∙ omega (arith, s.value);
      first = λ e. omega (arith, s.first (sym (get_or-append ds d 0 0 s.some) ∙ e));
      some = omega (arith, length-append ds d);
    }

pick : (n : ℕ) (ds : List ℕ) → Dec (10 ≤ n) → Digits (n / 10) ds → Digits n (cond (ltb n 10) (digit n ∷ []) (ds ++ (digit (n % 10) ∷ [])))
pick n ds (yes l) s = rw (le-ltb n 10 l) (next n ds l s)
pick n ds (no f) s = rw (lt-ltb n 10 (lt_of_not-le f)) (one n)

digits : (k n : ℕ) → n ≤ k → Digits n (decimal_in k n)
digits zero n h = one n
digits (suc k) n h = pick n (decimal_in k (n / 10)) (dec_le 10 n) (digits k (n / 10) (omega arith))

pub decimal_value : (n : ℕ) → value_after 0 (decimal n) ≡ n
unfolding decimal
decimal_value n = (digits n n (omega arith)).value

pub decimal_no_zero : (n : ℕ) → get_or (decimal n) 0 0 ≡ digit 0 → n ≡ 0
unfolding decimal
decimal_no_zero n e = (digits n n (omega arith)).first e

-- ---- how many there are

longer : (n k : ℕ) → Dec (10 ≤ n) → length (decimal (n / 10)) ≤ k → length (decimal n) ≤ suc k
longer n k (yes l) h = omega (arith, next_long n l)
longer n k (no f) h = omega (arith, ap length (decimal_below n (lt_of_not-le f)))

-- a number below a power of ten has no more digits than that
most : (k n : ℕ) → n < 10 ^ suc k → length (decimal n) ≤ suc k
most zero n h = omega (arith, ap length (decimal_below n h))
most (suc k) n h = longer n (suc k) (dec_le 10 n) (most k (n / 10) (omega (arith, pow-suc 10 (suc k))))

-- twenty digits hold every u64
pub decimal_most : (n : ℕ) → n < 2 ^ 64 → length (decimal n) ≤ 20
decimal_most n h = most 19 n (omega arith)

-- by the machine's test and its size
pub signed_below : (z : ℤ) → SFits w64 z → lt_z (to_z w64 (of_z w64 z)) (pos 0) ≡ true
    → signed z ≡ 0x2d ∷ decimal (nat_abs (to_z w64 (of_z w64 z)))
signed_below z f t = rw (to_z-of_z f, (below_zero z (rw (to_z-of_z f) at t)).1)

-- a number handed on
pub signed_same : {n : ℕ} {a b : Text} (z : ℤ) → SFits w64 z → Appends n a (0x20 ∷ signed (to_z w64 (of_z w64 z))) b → Appends n a (0x20 ∷ signed z) b
signed_same z f p = rw (to_z-of_z f) at p
