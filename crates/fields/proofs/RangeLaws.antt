-- The laws of the ranges: what a test of a figure says of it, and which ranges are empty or have 0 beside them.
-- Assumes nothing.
use mathlib.Core.Path.{◌≡◌, refl, sym, ap, ◌∙◌, subst}
use mathlib.Core.Bool.{Bool, true, false, not, ◌&&◌, ◌||◌}
use mathlib.Core.List.{[], ◌∷◌, map}
use mathlib.Core.Logic.{◌⊎◌, inl, inr}
use Prim.Native.Nat.{ℕ, zero, suc, ◌≤◌, ◌<◌, zero-le}
use native.Mathlib.Nat.{lt_of_not-le, le_of_suc-le-suc}
use native.Mathlib.Decide.{dec_le}
use native.Mathlib.Omega.{arith}
use lib.Dec.{T, leb, eqb, leb→le, eqb→eq}
use lib.ListN.{get_or-eq_default}
use mir.Facts.{and_yes, or_yes}
use borrow.Author.Tests.{leb-true, le-leb, lt-leb, ne_eqb}
use Rattle.exact.proofs.Table.{at_each}
use Rattle.fields.specs.Range.{Range, ranges, range, ◌to◌, between, within, In}

pub none_past : (k : ℕ) → 20 < k → range k ≡ (1 to 0)
none_past zero h = refl
none_past (suc k) h = get_or-eq_default ranges (1 to 0) (le_of_suc-le-suc h)

-- N alone may also be 0: one test over the fields, and no number past them has a range
abbrev only_n : ℕ → Bool
only_n k = eqb k 12 || not (range k).or_zero

pub no_zero : (k : ℕ) → (k ≡ 12 → ⊥) → (range k).or_zero ≡ false
no_zero k h = go (dec_le k 20)
  where
    pick : (b o : Bool) → b ≡ false → T (b || not o) → o ≡ false
    pick false true e t = absurd t
    pick false false e t = refl
    pick true o e t = absurd (subst T e tt)

    go : Dec (k ≤ 20) → (range k).or_zero ≡ false
    go (yes l) = pick (eqb k 12) (range k).or_zero (ne_eqb k 12 h) (at_each only_n 21 tt k (omega arith))
    go (no f) = ap (λ (r : Range). r.or_zero) (none_past k (lt_of_not-le f))

-- a figure that passed the test is between the ends
pub in_of_between : (k x : ℕ) → T (between (range k) x) → In k x
unfolding between
in_of_between k x t =
    let both = and_yes (leb (range k).least x) (leb x (range k).greatest) t in
    (leb→le (range k).least x both.0, leb→le x (range k).greatest both.1)

-- where a figure lies decides the test
pub below : (r : Range) (x : ℕ) → x < r.least → false ≡ between r x
unfolding between
below r x h = rw (lt-leb _ _ h)

pub above : (r : Range) (x : ℕ) → r.greatest < x → false ≡ between r x
unfolding between
above r x h = go (leb r.least x)
  where
    go : (a : Bool) → false ≡ (a && leb x r.greatest)
    go true = rw (lt-leb _ _ h)
    go false = refl

pub inside : (r : Range) (x : ℕ) → r.least ≤ x → x ≤ r.greatest → true ≡ between r x
unfolding between
inside r x h k = rw (le-leb _ _ h, le-leb _ _ k)

pub nowhere : (k x : ℕ) → 20 < k → false ≡ between (range k) x
nowhere k x h = subst (λ (r : Range). false ≡ between r x) (sym (none_past k h)) (go x)
  where
    go : (x : ℕ) → false ≡ between (1 to 0) x
    go zero = below (1 to 0) 0 (omega arith)
    go (suc x) = above (1 to 0) (suc x) (omega arith)

-- a figure other than 0, and any figure of a field other than N, is in the range where it is between the ends; N may be 0
pub within_plain : (k x : ℕ) → (k ≡ 12 → ⊥) → between (range k) x ≡ within (range k) x
unfolding within
within_plain k x h = rw (no_zero k h)

pub within_some : (k x : ℕ) → (x ≡ 0 → ⊥) → between (range k) x ≡ within (range k) x
unfolding within
within_some k x h = go (range k).or_zero
  where
    go : (o : Bool) → between (range k) x ≡ ((o && eqb x 0) || between (range k) x)
    go true = rw (ne_eqb x 0 h)
    go false = refl

pub within_none : (k x : ℕ) → k ≡ 12 → x ≡ 0 → true ≡ within (range k) x
unfolding within
within_none k x e z = rw (e, z)

-- a figure that is in the range of a field other than N is between its ends
pub in_of_within : (k x : ℕ) → (k ≡ 12 → ⊥) → within (range k) x ≡ true → In k x
in_of_within k x h e = in_of_between k x (subst T (sym (within_plain k x h ∙ e)) tt)

-- a range from 0 is one test
pub within_up_to : (n x : ℕ) → within (0 to n) x ≡ leb x n
unfolding within between
within_up_to n x = rw (le-leb 0 x zero-le)

pub most_of_within : (n x : ℕ) → within (0 to n) x ≡ true → x ≤ n
most_of_within n x e = leb-true x n (sym (within_up_to n x) ∙ e)

-- Field 20 at either end and one past it: bounds alone would let another end through, in definition and code alike.
pub gravity_ends : map (within (range 20)) (999 ∷ 1000 ∷ 1300 ∷ 1301 ∷ []) ≡ false ∷ true ∷ true ∷ false ∷ []
unfolding within between
gravity_ends = refl

-- no figure that is in a range is above the greatest of them all
abbrev at_most : ℕ → Bool
at_most k = leb (range k).greatest 1000000000

pub within_most : (k x : ℕ) → within (range k) x ≡ true → x ≤ 1000000000
unfolding within
within_most k x e = go (or_yes ((range k).or_zero && eqb x 0) (between (range k) x) (subst T (sym e) tt))
  where
    top : Dec (k ≤ 20) → (range k).greatest ≤ 1000000000
    top (yes l) = leb→le (range k).greatest 1000000000 (at_each at_most 21 tt k (omega arith))
    top (no f) = subst (λ (r : Range). r.greatest ≤ 1000000000) (sym (none_past k (lt_of_not-le f))) (omega arith)

    go : T ((range k).or_zero && eqb x 0) ⊎ T (between (range k) x) → x ≤ 1000000000
    go (inl z) = omega (arith, eqb→eq x 0 (and_yes (range k).or_zero (eqb x 0) z).1)
    go (inr b) = omega (arith, (in_of_between k x b).1, top (dec_le k 20))
