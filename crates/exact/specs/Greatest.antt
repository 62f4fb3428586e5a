-- The greatest number that passes a test, found bit by bit: where a number passes, so do the smaller ones.
-- `proofs/GreatestLaws.antt` shows that it is the greatest.
use Rattle.std.specs.Prelude.{Bool, cond, ℕ, zero, suc, ◌+◌, ◌^◌, ◌≤◌, T}

-- n is the greatest number that passes
pub record Greatest (passes : ℕ → Bool) (n : ℕ) : Type 0 where
  pub fits : T (passes n)
  pub most : (k : ℕ) → T (passes k) → k ≤ n

-- n with the bit 2 ^ k added where it still passes then
unfoldable pub tried : ℕ → (ℕ → Bool) → ℕ → ℕ
tried k passes n = cond (passes (n + 2 ^ k)) (n + 2 ^ k) n

-- n after its k lowest bits were tried, from the highest of them down
unfoldable pub low_bits : ℕ → (ℕ → Bool) → ℕ → ℕ
unfolding tried
low_bits zero passes n = n
low_bits (suc k) passes n = low_bits k passes (tried k passes n)

-- the greatest below 2 ^ k that passes
unfoldable pub greatest_below : ℕ → (ℕ → Bool) → ℕ
unfolding low_bits
greatest_below k passes = low_bits k passes 0
