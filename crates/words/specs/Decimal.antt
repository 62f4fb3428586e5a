-- Numbers as text: in decimal, without leading zeros, and with a minus sign only below zero.
use Rattle.std.specs.Prelude.{cond, List, [], ◌∷◌, ◌++◌, ℕ, zero, suc, ◌+◌, ◌*◌, ◌-◌, ◌/◌, ◌%◌, ltb, ℤ, pos, negsuc}
use Rattle.lists.specs.Ascii.{ascii}

-- the code of the digit 0, 1 .. 9
abbrev pub digit : ℕ → ℕ
digit d = 0x30 + d

-- those of a number below 100
abbrev pub two_digits : ℕ → List ℕ
two_digits n = digit (n / 10) ∷ digit (n % 10) ∷ []

-- All digits but the last, then the last one. The number n has at most n + 1 digits, so n turns are enough (`decimal_below`,
-- `decimal_next`).
abbrev pub decimal_in : ℕ → ℕ → List ℕ
decimal_in zero n = digit n ∷ []
decimal_in (suc turns) n = cond (ltb n 10) (digit n ∷ []) (decimal_in turns (n / 10) ++ (digit (n % 10) ∷ []))

unfoldable pub decimal : ℕ → List ℕ
decimal n = decimal_in n n

-- the value of digits, read after those of n (`decimal_value`; and `decimal_no_zero`)
abbrev pub value_after : ℕ → List ℕ → ℕ
value_after n [] = n
value_after n (d ∷ ds) = value_after (10 * n + (d - digit 0)) ds

abbrev pub signed : ℤ → List ℕ
signed (pos n) = decimal n
signed (negsuc n) = ascii "-" ++ decimal (suc n)
