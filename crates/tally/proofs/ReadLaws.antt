-- What the promise about reads comes to, for a reader whose bytes are known: behind the 10,000th sheet, or a length that no sheet has, less than a
-- buffer more is taken.
-- Assumes nothing.
use Rattle.std.specs.Prelude.{Option, Some, None}
use mathlib.Core.Path.{◌≡◌, sym, ap, ◌∙◌}
use mathlib.Core.Bool.{false}
use mathlib.Core.List.{List, ◌++◌, append_assoc}
use Prim.Native.Nat.{ℕ, ◌+◌, ◌≤◌, ◌<◌}
use native.Mathlib.Nat.{lt_of_not-le}
use native.Mathlib.Decide.{dec_le}
use native.Mathlib.Omega.{arith}
use lib.ListN.{length, take, drop, length-append, take-append-drop}
use lib.Seq.{take-append-le, take-append_seam}
use Rattle.std.specs.List.{concat}
use Rattle.std.specs.Io.KnownBytes.{Consumes}
use Rattle.layout.specs.Numbers.{two_in}
use Rattle.tally.specs.Parts.{is_usable}
use Rattle.tally.specs.Files.{EachWhole}
use Rattle.tally.specs.Stream.{after_bytes, given_by, Reads}
use Rattle.tally.proofs.CutLaws.{same_two}
use Rattle.tally.proofs.FileLaws.{enough_at_the_most, enough_at_a_bad_length}

-- a list that reaches as far as the start of another with the same bytes begins with it
begins_with : (before rest b r : List ℕ) → before ++ rest ≡ b ++ r → length b ≤ length before → b ++ drop (length b) before ≡ before
begins_with before rest b r e h =
    let same : take (length b) before ≡ b = sym (take-append-le (length b) before rest h) ∙ ap (take (length b)) e ∙ take-append_seam b r in
    sym (ap (λ (xs : List ℕ). xs ++ drop (length b) before) same) ∙ take-append-drop (length b) before

module _ {most : ℕ} {file : List ℕ} {new : Option (List ℕ)} (reads : Reads most (Some file) new) where
  -- behind bytes that are enough, whatever follows them
  behind_enough : (b r : List ℕ) → file ≡ b ++ r → ((s : List ℕ) → (after_bytes (b ++ s)).progress.room ≡ 0)
      → length (given_by reads) < length b + most
  behind_enough b r e enough = go new reads.consumed (dec_le (length b) (length reads.before))
    where
      go : (n : Option (List ℕ)) → Consumes (Some file) n (given_by reads) → Dec (length b ≤ length reads.before) → length (given_by reads) < length b + most
      go None c d = absurd c
      go (Some y) c (no f) = omega (arith, length-append reads.before reads.last, reads.few, lt_of_not-le f)
      go (Some y) c (yes h) =
          let s = drop (length b) reads.before in
          let i : b ++ s ≡ reads.before = begins_with reads.before (reads.last ++ y) b r (sym (append_assoc reads.before reads.last y) ∙ sym c ∙ e) h in
          absurd (omega (arith, reads.needed, sym (ap (λ (x : List ℕ). (after_bytes x).progress.room) i) ∙ enough s))

  pub behind_the_most : (bs : List (List ℕ)) (r : List ℕ) → file ≡ concat bs ++ r → EachWhole bs → length bs ≡ 10000
      → length (given_by reads) < length (concat bs) + most
  behind_the_most bs r e w h = behind_enough (concat bs) r e (λ s. enough_at_the_most bs s w h)

  pub behind_a_bad_length : (bs : List (List ℕ)) (l r : List ℕ) → file ≡ (concat bs ++ l) ++ r → EachWhole bs → length bs < 10000
      → length l ≡ 2 → is_usable (two_in l) ≡ false → length (given_by reads) < length (concat bs) + 2 + most
  behind_a_bad_length bs l r e w h two u =
      omega (arith, length-append (concat bs) l, two, behind_enough (concat bs ++ l) r e enough)
    where
      enough : (s : List ℕ) → (after_bytes ((concat bs ++ l) ++ s)).progress.room ≡ 0
      enough s =
          ap (λ (x : List ℕ). (after_bytes x).progress.room) (append_assoc (concat bs) l s)
          ∙ enough_at_a_bad_length bs (l ++ s) w h (omega (arith, two, length-append l s)) (ap is_usable (same_two l s (omega (arith, two))) ∙ u)
