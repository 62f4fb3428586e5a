-- The laws of writing: what it comes to, by what the sheet holds, its bolts among it, and how much room there is.
-- Assumes nothing.
use Rattle.std.specs.Prelude.{Result, Ok, Err}
use Rattle.std.specs.Result.{result_and}
use mathlib.Core.Path.{◌≡◌, sym, ap, ◌∙◌, refl}
use mathlib.Core.Bool.{Bool, true, false, cond}
use mathlib.Core.List.{List, [], ◌∷◌, ◌++◌}
use Prim.Native.Nat.{ℕ, ◌+◌, ◌*◌, ◌≤◌, ◌<◌}
use native.Mathlib.Omega.{arith}
use lib.ListN.{length, drop}
use lib.Seq.{sets}
use borrow.Author.Tests.{lt-ltb, le-ltb}
use Rattle.fields.specs.declared.refusal.Refusal.{Refusal}
use Rattle.fields.specs.Bolt.{discontinued}
use Rattle.fields.specs.declared.refusal.Refusal.TheVariants.{BufferTooShort, SizeDiscontinued}
use Rattle.fields.specs.Order.{Answer, ◌when◌, first_of}
use Rattle.fields.proofs.OrderLaws.{first_cons, first_then}
use Rattle.flaws.specs.Flaws.{size_discontinued}
use Rattle.entries.specs.declared.sheet.Sheet.{Sheet}
use Rattle.layout.specs.Numbers.{fours}
use Rattle.layout.specs.declared.version.Version.TheVariants.{Two}
use Rattle.layout.specs.Layout.{whole_length, prefix_of, tail_head, courses_figures, layout}
use Rattle.layout.proofs.LayoutLaws.{whole_of_two, layout_stored}
use Rattle.sheet.specs.Complete.{entries_of, courses_of, completed_of, is_thirty, order_after, Valid}
use Rattle.sheet.specs.Writing.{bytes_of, size_of, no_room, entries_order, WriteReply, write_reply, written, written_entries}
use Rattle.entries.specs.declared.complete.Entries.{Entries}
use Rattle.sheet.proofs.CompleteLaws.{complete_first, entries_are, courses_length}

abbrev pub denied : Refusal → List ℕ → WriteReply
denied r buf = record { answer = Err r; buffer = buf }

-- ---- by the answer to what is asked first

module _ (s : Sheet) (buf : List ℕ) {y : Result Entries Refusal} (q : y ≡ completed_of s) where
  by_answer : written s buf ≡ write_reply (first_of (order_after y [] (entries_order (entries_of s) (length buf)))) (entries_of s) buf
  unfolding written
  by_answer =
      let after = entries_order (entries_of s) (length buf) in
      ap (λ (a : Answer). write_reply a (entries_of s) buf) (complete_first s [] after)
      ∙ ap (λ (y : Result Entries Refusal). write_reply (first_of (order_after y [] after)) (entries_of s) buf) (sym q)

  pub write_refused : {r : Refusal} → y ≡ Err r → written s buf ≡ denied r buf
  write_refused {r} k = by_answer ∙ rw k (go (is_thirty r))
    where
      go : (b : Bool) → write_reply (first_of (cond b [] [] ++ (r when true) ∷ [])) (entries_of s) buf ≡ denied r buf
      go true = refl
      go false = refl

  pub write_complete : {e : Entries} → y ≡ Ok e → written s buf ≡ written_entries e buf
  unfolding written_entries
  write_complete k = by_answer ∙ rw (k, entries_are s q k)

-- ---- of the entries of a complete sheet

module _ (e : Entries) (buf : List ℕ) where
  pub size_denied : discontinued e.anchors.size ≡ true → written_entries e buf ≡ denied SizeDiscontinued buf
  unfolding written_entries
  size_denied d = rw d

  pub no_room_lem : discontinued e.anchors.size ≡ false → length buf < size_of e → written_entries e buf ≡ denied BufferTooShort buf
  unfolding written_entries
  no_room_lem d l = rw (d, lt-ltb _ _ l)

  pub done : discontinued e.anchors.size ≡ false → size_of e ≤ length buf
      → written_entries e buf ≡ record { answer = Ok (size_of e); buffer = bytes_of e ++ drop (size_of e) buf }
  unfolding written_entries
  done d l = rw (d, le-ltb _ _ l)

  pub entries_stored : {p q r : List ℕ} → Valid e → size_of e ≤ length buf
      → p ≡ sets buf 0 (prefix_of Two e.count e.tank) → q ≡ sets p 31 (tail_head e.site e.anchors e.count)
      → r ≡ sets q 64 (fours (courses_figures (courses_of e))) → r ≡ bytes_of e ++ drop (size_of e) buf
  unfolding bytes_of
  entries_stored {p} v l i j k =
      let n = courses_length e v in
      layout_stored e.tank e.site e.anchors (courses_of e) buf (omega (arith, n))
      (i ∙ ap (λ (m : ℕ). sets buf 0 (prefix_of Two m e.tank)) (sym n))
      (j ∙ ap (λ (m : ℕ). sets p 31 (tail_head e.site e.anchors m)) (sym n))
      k
      ∙ ap (λ (m : ℕ). layout Two e.tank e.site e.anchors (courses_of e) ++ drop (whole_length Two m) buf) n

  -- and so after the stores
  pub stored_done : {p q r : List ℕ} → Valid e → discontinued e.anchors.size ≡ false → 64 + 20 * e.count ≤ length buf
      → p ≡ sets buf 0 (prefix_of Two e.count e.tank) → q ≡ sets p 31 (tail_head e.site e.anchors e.count)
      → r ≡ sets q 64 (fours (courses_figures (courses_of e)))
      → written_entries e buf ≡ record { answer = Ok (64 + 20 * e.count); buffer = r }
  stored_done {r = r} v d l i j k =
      let m : size_of e ≤ length buf = omega arith in
      done d m
      ∙ ap (λ (b : List ℕ). record { answer = Ok (size_of e); buffer = b }) (sym (entries_stored v m i j k))
      ∙ ap (λ (n : ℕ). record { answer = Ok n; buffer = r }) (whole_of_two e.count)

-- by the answer for the size
module _ (e : Entries) (buf : List ℕ) {y : Answer} (q : y ≡ first_of (size_discontinued e.anchors ∷ [])) where
  pub size_refused : {r : Refusal} → y ≡ Err r → written_entries e buf ≡ denied r buf
  unfolding written_entries
  size_refused k =
      let room = no_room e (length buf) ∷ [] in
      ap (λ (a : Answer). write_reply a e buf) (first_then (size_discontinued e.anchors ∷ []) room ∙ ap (λ (a : Answer). result_and a (first_of room)) (sym q ∙ k))

  pub size_passed : y ≡ Ok tt → discontinued e.anchors.size ≡ false
  size_passed k = (first_cons (size_discontinued e.anchors) [] (sym q ∙ k)).0

pub entries_clauses : {v w : WriteReply} → v ≡ w → (w.answer ≡ v.answer) × (w.buffer ≡ v.buffer)
entries_clauses e = (ap (λ (z : WriteReply). z.answer) (sym e), ap (λ (z : WriteReply). z.buffer) (sym e))

pub reply_is : {v : WriteReply} {w : Result ℕ Refusal} {b : List ℕ} → w ≡ v.answer → b ≡ v.buffer → v ≡ record { answer = w; buffer = b }
reply_is e f = rw (e, f)
