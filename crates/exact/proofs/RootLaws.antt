-- The root found bit by bit is the greatest: its square is at most the number, and the next one's is above it. Rounded up it is the least.
-- Assumes nothing.
use mathlib.Core.Path.{◌≡◌, refl, sym, ap, subst, ◌∙◌}
use mathlib.Core.Bool.{Bool, true, false}
use Prim.Native.Nat.{ℕ, ◌+◌, ◌-◌, ◌*◌, ◌/◌, ◌^◌, ◌≤◌, ◌<◌}
use native.Mathlib.Nat.{div-le_self, le_antisymm, le-div_iff_mul-le, le_trans, lt_of_le_of_lt, lt_of_not-le, mul-le-mul, not-le_of_lt, two-pow-succ}
use native.Mathlib.Decide.{dec_le}
use native.Mathlib.Omega.{arith}
use lib.Dec.{not_T, ltb, le→leb, leb→le}
use borrow.Author.Tests.{ltb-true, ltb-false, lt-ltb, le-ltb}
use Rattle.exact.specs.Greatest.{Greatest}
use Rattle.exact.specs.Root.{square_within, root_of, root_up, LeastRoot}
use Rattle.exact.proofs.GreatestLaws.{greatest_found, greatest_unique}

-- of the smaller square the smaller root
pub root_lt : (m n : ℕ) → m * m < n * n → m < n
root_lt m n l = decided (dec_le n m)
  where
    decided : Dec (n ≤ m) → m < n
    decided (yes h) = absurd (not-le_of_lt l (mul-le-mul h h))
    decided (no f) = lt_of_not-le f

root_le : (n r : ℕ) → n * n < (r + 1) * (r + 1) → n ≤ r
root_le n r l = omega (arith, root_lt n (r + 1) l)

module _ (factor most : ℕ) (h : 0 < factor) (fits : most < 2 ^ 64) where
  abbrev s : ℕ
  s = most / factor

  root_is : Greatest (square_within s) (root_of factor most)
  unfolding root_of
  root_is =
      greatest_found 32 (square_within s) (λ m n l t. le→leb (m * m) s (le_trans (mul-le-mul l l) (leb→le (n * n) s t)))
      (le→leb 0 s (omega arith))
      (not_T (square_within s (2 ^ 32)) (λ t. not-le_of_lt (lt_of_le_of_lt (div-le_self most factor) fits) (leb→le (2 ^ 32 * 2 ^ 32) s t)))

  -- A number whose square is within s and whose successor's is not is the greatest.
  pub root_unique : (r : ℕ) → r * r ≤ s → s < (r + 1) * (r + 1) → r ≡ root_of factor most
  root_unique r l m =
      greatest_unique (square_within s) r (root_of factor most)
      (record { fits = le→leb (r * r) s l; most = λ n t. root_le n r (lt_of_le_of_lt (leb→le (n * n) s t) m) }) root_is

  -- factor * n * n is at most most exactly when n * n is at most the quotient rounded down
  pub root_safe : factor * root_of factor most * root_of factor most ≤ most
  root_safe =
      let r = root_of factor most in
      omega (arith, (le-div_iff_mul-le {x = r * r} {y = most} h).0 (leb→le (r * r) s root_is.fits))

  pub root_greatest : (n : ℕ) → factor * n * n ≤ most → n ≤ root_of factor most
  root_greatest n l = root_is.most n (le→leb (n * n) s ((le-div_iff_mul-le {x = n * n} {y = most} h).1 (omega (arith, l))))

  pub root_near : most < factor * (root_of factor most + 1) * (root_of factor most + 1)
  root_near = above (dec_le (factor * (r + 1) * (r + 1)) most)
    where
      r : ℕ
      r = root_of factor most

      above : Dec (factor * (r + 1) * (r + 1) ≤ most) → most < factor * (r + 1) * (r + 1)
      above (yes k) = absurd (omega (arith, root_greatest (r + 1) k))
      above (no f) = lt_of_not-le f

-- The root rounded up is the least number whose square is at least s.
module _ (s : ℕ) (fits : s < 2 ^ 64) where
  abbrev below : ℕ
  below = root_of 1 s

  within : below * below ≤ s
  within = omega (arith, root_safe 1 s (omega arith) fits)

  pub root_up_is : LeastRoot s (root_up s)
  unfolding root_up
  root_up_is = go (ltb (below * below) s) refl
    where
      go : (b : Bool) → ltb (below * below) s ≡ b → LeastRoot s (root_up s)
      go true e =
          rw e (record {
            safe = omega (arith, root_near 1 s (omega arith) fits);
            least = λ n h. root_lt below n (omega (arith, ltb-true (below * below) s e));
          })
      go false e =
          rw e (record {
            safe = ltb-false (below * below) s e;
            least = λ n h. root_le below n (omega (arith, within, ltb-false (below * below) s e));
          })

  -- and no other number is
  pub root_up_only : (r : ℕ) → LeastRoot s r → r ≡ root_up s
  root_up_only r h = le_antisymm (h.least (root_up s) root_up_is.safe) (root_up_is.least r h.safe)

  -- what the code needs
  module _ (n : ℕ) (e : n ≡ below) where
    pub square_fits : n * n < 2 ^ 64
    square_fits = rw e (lt_of_le_of_lt within fits)

    pub root_cut : n * n < s → n + 1 ≡ root_up s
    unfolding root_up
    root_cut h = rw (← e, lt-ltb (n * n) s h) (omega arith)

    pub root_whole : s ≤ n * n → n ≡ root_up s
    unfolding root_up
    root_whole h = rw (← e, le-ltb (n * n) s h)

pub halves : (k : ℕ) → 0 < k → 2 ^ (k - 1) + 2 ^ (k - 1) ≡ 2 ^ k
halves k h = sym (ap (λ (x : ℕ). 2 ^ x) (omega arith) ∙ two-pow-succ (k - 1))

-- what the code needs: a bit that is tried is half of the range that is left
pub bit_tried : (s n k : ℕ) → 0 < k → s < (n + 2 ^ k) * (n + 2 ^ k) → s < (n + 2 ^ (k - 1) + 2 ^ (k - 1)) * (n + 2 ^ (k - 1) + 2 ^ (k - 1))
bit_tried s n k h l = subst (λ (x : ℕ). s < x * x) (omega (arith, halves k h)) l

pub ruleset root_laws = (root_unique, halves, bit_tried)

-- the definition computes by bits, at the size that document 01 has
computes : root_of 12000000 404416800000000000 ≡ 183579
unfolding root_of
computes = refl
