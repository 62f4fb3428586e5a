-- The laws of a text in a buffer.
-- Assumes nothing.
use mathlib.Core.Path.{◌≡◌, refl, sym, ap, ◌∙◌}
use mathlib.Core.List.{List, ◌++◌}
use Prim.Native.Nat.{ℕ, ◌≤◌, ◌<◌}
use native.Mathlib.Omega.{arith}
use lib.ListN.{length, take, drop}
use lib.Seq.{take_at}
use borrow.Author.Tests.{le-leb, lt-leb}
use Rattle.lists.proofs.SetsLaws.{all_stored}
use Rattle.lines.specs.Text.{most_text}
use Rattle.text.specs.Printing.{Copies, Prints, printed, sizes_of, printed_sizes}
use Rattle.words.specs.Stored.{Stored}
use Rattle.std.proofs.Common.{Ok, Err}

module _ (t buf : List ℕ) where
  -- the text, and after it what stood there
  pub copied_in : {n : ℕ} → n ≡ length t → n ≤ length buf → Copies t buf (Ok n) (t ++ drop n buf)
  unfolding printed printed_sizes
  copied_in e room =
      let f = le-leb (length t) (length buf) (omega arith) in
      rw f (ap Ok e, (ap (λ (k : ℕ). t ++ drop k buf) e, ap (λ (k : ℕ). record { bytes = k; long = k }) e))

  pub whole : {buf' : List ℕ} {n : ℕ} → length t ≤ length buf → n ≤ most_text → Stored buf 0 t buf' n → Prints t buf (Ok n) buf'
  whole {n = n} room most p =
      let e : n ≡ length t = omega (arith, p.after) in
      let b : t ++ drop n buf ≡ _ = ap (λ (k : ℕ). t ++ drop k buf) e ∙ sym (p.stored ∙ all_stored buf t room) in
      (rw b at (copied_in e (omega arith)), omega arith)

  pub no_room_lem : {n : ℕ} → n ≡ length t → length buf < n → Copies t buf (Err (record { needed = n })) buf
  unfolding printed printed_sizes
  no_room_lem e room =
      let f = lt-leb (length t) (length buf) (omega arith) in
      rw f (ap (λ (k : ℕ). Err (record { needed = k })) e, (refl, ap (λ (k : ℕ). record { bytes = 0; long = k }) e))

  -- the first bytes are the text
  pub take_text : {buf' : List ℕ} {n : ℕ} → length t ≤ length buf → Stored buf 0 t buf' n → take n buf' ≡ t
  take_text {n = n} room p =
      let e : n ≡ length t = omega (arith, p.after) in
      ap (λ (b : List ℕ). take n b) (p.stored ∙ all_stored buf t room) ∙ take_at t (drop (length t) buf) n (sym e)

  -- what `text_in` gives of the buffer
  pub text_back : length t ≤ length buf → take (sizes_of (printed t buf).answer).bytes (printed t buf).buffer ≡ t
  unfolding printed
  text_back room = rw (le-leb (length t) (length buf) room) (take_at t (drop (length t) buf) (length t) refl)
