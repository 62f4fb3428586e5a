-- The laws of a text that is stored part by part.
-- Assumes nothing.
use mathlib.Core.Path.{◌≡◌, sym, ap, ◌∙◌}
use mathlib.Core.List.{List, [], ◌∷◌, ◌++◌}
use Prim.Native.Nat.{ℕ, ◌+◌, ◌/◌, ◌%◌, ◌≤◌, ◌<◌}
use native.Mathlib.Omega.{arith}
use lib.ListN.{length, get_or, set, take, length-append}
use lib.Seq.{sets, length-take-le}
use Rattle.std.proofs.lemmas.List.{take_more}
use Rattle.lists.proofs.SetsLaws.{sets_append}
use Rattle.words.specs.Decimal.{two_digits, decimal}
use Rattle.words.proofs.DecimalLaws.{decimal_hundreds, hundreds_long, decimal_thousands, thousands_long}
use Rattle.words.specs.Stored.{Stored, Appends}
use Rattle.words.specs.declared.store.Text.{Text}

-- one byte more
pub stored_more : (buf part : List ℕ) (at i : ℕ) {b : List ℕ} → i < length part → b ≡ sets buf at (take i part)
    → set b (at + i) (get_or part i 0) ≡ sets buf at (take (i + 1) part)
stored_more buf part at i h e =
    let n = length-take-le i part (omega arith) in
    rw (take_more part i 0 h, sets_append (take i part) (get_or part i 0 ∷ []) buf at, n)
    (ap (λ (x : List ℕ). set x (at + i) (get_or part i 0)) e)

-- one part, and then the next
pub stored_then : {buf p b q b' : List ℕ} {at i j : ℕ} → Stored buf at p b i → Stored b i q b' j → Stored buf at (p ++ q) b' j
stored_then {buf} {p} {b} {q} {b'} {at} {i} f g =
    record {
      stored = g.stored ∙ ap (λ (k : ℕ). sets b k q) f.after ∙ ap (λ (x : List ℕ). sets x (at + length p) q) f.stored ∙ sym (sets_append p q buf at);
      after = omega (arith, f.after, g.after, length-append p q);
    }

pub then : {m n : ℕ} {a b c : Text} {p q : List ℕ} → Appends m a p b → Appends n b q c → Appends (m + n) a (p ++ q) c
then f g =
    record {
      same_buffer = g.same_buffer ∙ f.same_buffer;
      same_length = g.same_length ∙ f.same_length;
      stored = stored_then f.stored g.stored;
      within = omega (arith, f.within, g.within);
    }

-- a bound that is larger
pub at_most : {m n : ℕ} {a b : Text} {p : List ℕ} → Appends m a p b → m ≤ n → Appends n a p b
at_most f h = record { same_buffer = f.same_buffer; same_length = f.same_length; stored = f.stored; within = omega (arith, h, f.within) }

-- the last two digits of a number, and the last four
pub two_more : {a b c : Text} (n : ℕ) → 100 ≤ n → Appends (length (decimal (n / 100))) a (decimal (n / 100)) b → Appends 2 b (two_digits (n % 100)) c
    → Appends (length (decimal n)) a (decimal n) c
two_more n h f g =
    let l = hundreds_long n h in
    at_most (rw (← decimal_hundreds n h) at (then f g)) (omega (arith, l))

pub four_more : {a b c : Text} (n : ℕ) → 10000 ≤ n → Appends (length (decimal (n / 10000))) a (decimal (n / 10000)) b
    → Appends 4 b (two_digits (n % 10000 / 100) ++ two_digits (n % 10000 % 100)) c → Appends (length (decimal n)) a (decimal n) c
four_more n h f g =
    let l = thousands_long n h in
    at_most (rw (← decimal_thousands n h) at (then f g)) (omega (arith, l))
