-- The digits are those that the library's `{}` writes.
-- Assumes nothing.
use mathlib.Core.Path.{◌≡◌, sym, ap, ◌∙◌}
use mathlib.Core.List.{List, [], ◌∷◌, ◌++◌}
use Prim.Native.Nat.{ℕ, zero, suc, ◌/◌, ◌%◌, ◌^◌, ◌≤◌, ◌<◌}
use native.Mathlib.Nat.{lt_of_not-le}
use native.Mathlib.Decide.{dec_le}
use native.Mathlib.Omega.{arith}
use Rattle.std.specs.Fmt.{decimal as written}
use Rattle.std.proofs.lemmas.Fmt.{decimal_step, decimal_digit}
use Rattle.words.specs.Decimal.{digit, decimal}
use Rattle.words.proofs.DecimalLaws.{decimal_below, decimal_next}

one : (n : ℕ) → n < 10 → decimal n ≡ written n
one n h = decimal_below n h ∙ sym (decimal_digit n h)

next : (n : ℕ) → n < 2 ^ 64 → Dec (10 ≤ n) → decimal (n / 10) ≡ written (n / 10) → decimal n ≡ written n
next n h (no f) e = one n (lt_of_not-le f)
next n h (yes l) e = decimal_next n l ∙ ap (λ (ds : List ℕ). ds ++ (digit (n % 10) ∷ [])) e ∙ sym (decimal_step n l h)

all : (k n : ℕ) → n ≤ k → n < 2 ^ 64 → decimal n ≡ written n
all zero n p h = one n (omega arith)
all (suc k) n p h = next n h (dec_le 10 n) (all k (n / 10) (omega arith) (omega arith))

pub decimal_printed : (n : ℕ) → n < 2 ^ 64 → decimal n ≡ written n
decimal_printed n = all n n (omega arith)
