-- The round trips: bytes of version 2 that are read and written again are the same bytes, and those of version 1 come out as version 2 with
-- the same meaning, but for size 6, which is not written (`writes_back`); a complete sheet that is written and read again is the same sheet
-- (`reads_back`).
-- Assumes nothing.
use Rattle.entries.specs.declared.complete.Entries.{Entries}
use Rattle.std.specs.Prelude.{Option, Some, Result, Ok, Err}
use mathlib.Core.Path.{◌≡◌, refl, sym, ap, ◌∙◌, subst}
use mathlib.Core.Bool.{Bool, true, false}
use mathlib.Core.List.{List, [], ◌++◌}
use Prim.Native.Nat.{ℕ, ◌≤◌}
use native.Mathlib.Nat.{lt_of_not-le}
use native.Mathlib.Decide.{dec_le}
use native.Mathlib.Omega.{arith}
use lib.Dec.{T}
use lib.ListN.{length, get_or, take, drop}
use lib.Seq.{take_at}
use borrow.Author.Tests.{eq-eqb, ne_eqb}
use Rattle.fields.specs.Bolt.{discontinued}
use Rattle.fields.specs.Refusal.{plain}
use Rattle.fields.specs.declared.refusal.Refusal.{Refusal}
use Rattle.fields.specs.declared.refusal.Refusal.TheVariants.{BufferTooShort, SizeDiscontinued}
use Rattle.fields.proofs.RefusalLaws.{never_zero}
use Rattle.lists.proofs.BoolLaws.{T_true}
use Rattle.fields.specs.Order.{Answer, first_of, answer_code, first_code}
use Rattle.fields.proofs.OrderLaws.{clash, first_then, accepted_code, clear_accepted, reply_given, reply_refused}
use Rattle.entries.specs.Sheet.{empty_sheet, held, height_of}
use Rattle.flaws.specs.Flaws.{anchors_of, anchor_flaws}
use Rattle.entries.specs.declared.sheet.Anchors.{Anchors}
use Rattle.entries.specs.declared.sheet.Sheet.{Sheet}
use Rattle.layout.specs.Numbers.{AllBytes}
use Rattle.layout.specs.declared.version.Version.{Version}
use Rattle.layout.specs.declared.version.Version.TheVariants.{One, Two}
use Rattle.layout.specs.Layout.{whole_length, layout}
use Rattle.layout.specs.Header.{tank_in, site_in, anchors_in, courses_in, tail_in, version_in, renewed}
use Rattle.layout.proofs.LayoutLaws.{layout_length}
use Rattle.layout.proofs.BackLaws.{same_bytes, renewed_bytes, Tells, laid}
use Rattle.sheet.specs.Steps.{accepted, size_flaws, reachable, refused}
use Rattle.sheet.specs.Complete.{complete_order, entries_of, courses_of, completed_of, completed_code, code_with}
use Rattle.sheet.specs.Writing.{bytes_of, size_of, WriteReply, written, write_code, written_code}
use Rattle.sheet.specs.Reading.{read_in, reading, with_height, unless_code, read_code, completed_from, read_completed, bytes_code, WrittenAs, bolt_size, NotWritten, WritesBack, ReadsBack}
use Rattle.sheet.specs.declared.reading.Reading.{Reading}
use Rattle.sheet.specs.declared.steps.Reply.{Reply}
use Rattle.sheet.proofs.AnswerLaws.{read_code_lem, write_code_lem}
use Rattle.sheet.proofs.CompleteLaws.{IsComplete, complete_is, complete_held, complete_sheet, valid, courses_length, complete_code, sheet_code_lem}
use Rattle.sheet.proofs.ReachLaws.{reach_halves, size_current}
use Rattle.sheet.proofs.LaidLaws.{laid_read}
use Rattle.sheet.proofs.HoldLaws.{Holds, Read, read_split, read_version, read_holds, read_some, read_empty, read_accepted_is, read_sheet_reachable}
use Rattle.sheet.proofs.WriteLaws.{write_refused, write_complete, size_denied, no_room_lem, done}

-- ---- written, then read

-- bolts of a size that is not discontinued, and those that are
abbrev pub Current : Sheet → Type 0
Current s = discontinued (bolt_size s) ≡ false

current_of : (s : Sheet) → (bolt_size s ≡ 6 → ⊥) → Current s
current_of s h = ne_eqb (bolt_size s) 6 h

module _ (s : Sheet) (o : IsComplete s) where
  abbrev e : Entries
  e = entries_of s

  -- in any version that takes its anchors, its tank being told
  laid_again : (v : Version) → Tells v e.tank → first_of (size_flaws v e.anchors) ≡ Ok tt
      → read_in (laid v e.tank e.site e.anchors (held s)) ≡ accepted s
  laid_again v k q =
      let w = complete_sheet s o in
      laid_read v s (reach_halves s w.reach).0 e.tank w.tank e.site w.site e.anchors w.anchors w.course k
      (rw (first_then (anchor_flaws e.tank.diameter e.anchors) (size_flaws v e.anchors), clear_accepted (anchor_flaws e.tank.diameter e.anchors) (valid s o).anchors) q)

  bytes_read : Current s → read_in (bytes_of e) ≡ accepted s
  unfolding bytes_of
  bytes_read d = laid_again Two tt (rw d refl)

bytes_length : (s : Sheet) → IsComplete s → length (bytes_of (entries_of s)) ≡ size_of (entries_of s)
unfolding bytes_of
bytes_length s o =
    let e = entries_of s in
    layout_length Two e.tank e.site e.anchors (courses_of e) ∙ ap (whole_length Two) (courses_length e (valid s o))

-- A COMPLETE SHEET THAT IS WRITTEN AND READ AGAIN IS THE SAME SHEET, whatever the rest of the buffer held
write_read : (s : Sheet) → IsComplete s → Current s → (buf : List ℕ)
    → read_in (take (size_of (entries_of s)) (bytes_of (entries_of s) ++ drop (size_of (entries_of s)) buf)) ≡ accepted s
write_read s o d buf =
    let e = entries_of s in
    ap read_in (take_at (bytes_of e) (drop (size_of e) buf) (size_of e) (bytes_length s o)) ∙ bytes_read s o d

-- ---- read, then written

module _ (v : Version) (b : List ℕ) (s : Sheet) (e : read_in b ≡ accepted s) (r : Read v b s) where
  abbrev tail : List ℕ
  tail = tail_in v b

  holds : Holds s (Some (tank_in v (drop 3 b))) (Some (site_in tail)) (Some (anchors_in (drop 20 tail))) (courses_in r.head.n (drop 33 tail))
  holds = (read_holds v b s r).holds

  read_complete : IsComplete s
  read_complete =
      let reached = subst (λ (y : Reply). T (reachable y.sheet)) e (read_sheet_reachable b) in
      complete_held s (T_true (reachable s) reached) (tank_in v (drop 3 b)) holds.tank (read_some v b s r) (site_in tail) holds.site (anchors_in (drop 20 tail)) holds.anchors

  read_laid : bytes_of (entries_of s) ≡ layout Two (tank_in v (drop 3 b)) (site_in tail) (anchors_in (drop 20 tail)) (courses_in r.head.n (drop 33 tail))
  unfolding bytes_of
  read_laid = rw (holds.tank, holds.site, holds.anchors, holds.courses)

-- a complete sheet is written as its bytes
complete_written : (s : Sheet) → IsComplete s → Current s → {b : List ℕ} → bytes_of (entries_of s) ≡ b → WrittenAs s b
complete_written s o d {b} q buf l =
    let m : size_of (entries_of s) ≡ length b = sym (bytes_length s o) ∙ ap length q in
    write_complete s buf refl o
    ∙ done (entries_of s) buf d (omega (arith, m))
    ∙ ap (λ (z : List ℕ). record { answer = Ok (size_of (entries_of s)); buffer = z ++ drop (size_of (entries_of s)) buf }) q
    ∙ ap (λ (i : ℕ). record { answer = Ok i; buffer = b ++ drop i buf }) m

-- BYTES OF VERSION 2 THAT ARE READ AND WRITTEN AGAIN ARE THE SAME BYTES, AND THOSE OF VERSION 1 COME OUT AS VERSION 2 WITH THE SAME MEANING,
-- BUT FOR A SIZE THAT IS NOT WRITTEN
module _ (b : List ℕ) (k : AllBytes b) (c : answer_code (read_in b).answer ≡ plain 0) where
  abbrev s : Sheet
  s = (read_in b).sheet

  read_as_sheet : read_in b ≡ accepted s
  read_as_sheet = read_accepted_is b (accepted_code (read_in b).answer c)

  complete : IsComplete s
  complete = read_complete (version_in b) b s read_as_sheet (read_split b s read_as_sheet)

  leaves_same : get_or b 2 0 ≡ 2 → WrittenAs s b
  leaves_same x =
      let r = read_version Two b s x read_as_sheet in
      let l = read_holds Two b s r in
      let d : Current s = ap (λ (a : Option Anchors). discontinued (anchors_of a).size) l.holds.anchors ∙ size_current (anchors_in (drop 20 (tail_in Two b))) l.size in
      complete_written s complete d (read_laid Two b s read_as_sheet r ∙ same_bytes Two b r.head k)

  module _ (x : get_or b 2 0 ≡ 1) (d : Current s) where
    renewed_are : bytes_of (entries_of s) ≡ renewed b
    renewed_are = let r = read_version One b s x read_as_sheet in read_laid One b s read_as_sheet r ∙ renewed_bytes b r.head k

    leaves_renewed : WrittenAs s (renewed b)
    leaves_renewed = complete_written s complete d renewed_are

    same_meaning : read_in (renewed b) ≡ read_in b
    same_meaning = ap read_in (sym renewed_are) ∙ bytes_read s complete d ∙ sym read_as_sheet

  leaves_none : bolt_size s ≡ 6 → NotWritten s
  leaves_none d buf = write_complete s buf refl complete ∙ size_denied (entries_of s) buf (eq-eqb (bolt_size s) 6 d)

pub writes_back : (b : List ℕ) → AllBytes b → WritesBack b (read_in b)
writes_back b k =
    let s = (read_in b).sheet in
    record {
      same = leaves_same b k;
      renews = λ c x h. leaves_renewed b k c x (current_of s h);
      meaning = λ c x h. same_meaning b k c x (current_of s h);
      not_written = leaves_none b k;
    }

-- ---- the clauses of the contracts

pub read_clauses : (b : List ℕ) → AllBytes b → {y : Reply} → y ≡ read_in b
    → (y ≡ read_in b) × ((answer_code y.answer ≡ read_code b) × WritesBack b y)
read_clauses b k e = (e, (ap (λ (z : Reply). answer_code z.answer) e ∙ read_code_lem b, subst (WritesBack b) (sym e) (writes_back b k)))

-- a refusal has no code 0, and after it there is nothing to read
refused_back : (s : Sheet) (r : Refusal) (buf : List ℕ) → ReadsBack s (Err r) buf
refused_back s r buf = record { same = λ c. clash (accepted_code (Err r) c) }

reads_back : (s : Sheet) (buf : List ℕ) → ReadsBack s (written s buf).answer (written s buf).buffer
reads_back s buf = go (completed_of s) refl
  where
    by : {w : WriteReply} → written s buf ≡ w → ReadsBack s w.answer w.buffer → ReadsBack s (written s buf).answer (written s buf).buffer
    by e r = subst (λ (w : WriteReply). ReadsBack s w.answer w.buffer) (sym e) r

    room : IsComplete s → Current s → Dec (size_of (entries_of s) ≤ length buf) → ReadsBack s (written s buf).answer (written s buf).buffer
    room o d (yes l) = by (write_complete s buf refl o ∙ done (entries_of s) buf d l) (record { same = λ c. write_read s o d buf })
    room o d (no l) = by (write_complete s buf refl o ∙ no_room_lem (entries_of s) buf d (lt_of_not-le l)) (refused_back s BufferTooShort buf)

    size : IsComplete s → (b : Bool) → discontinued (bolt_size s) ≡ b → ReadsBack s (written s buf).answer (written s buf).buffer
    size o true d = by (write_complete s buf refl o ∙ size_denied (entries_of s) buf d) (refused_back s SizeDiscontinued buf)
    size o false d = room o d (dec_le (size_of (entries_of s)) (length buf))

    go : (y : Result Entries Refusal) → completed_of s ≡ y → ReadsBack s (written s buf).answer (written s buf).buffer
    go (Err r) o = by (write_refused s buf refl o) (refused_back s r buf)
    go (Ok e) o = size (complete_is s refl o) (discontinued (bolt_size s)) refl

-- what is promised of the reply v
pub record Written (s : Sheet) (buf : List ℕ) (v : WriteReply) : Type 0 where
  pub value : v.answer ≡ (written s buf).answer
  pub buffer : v.buffer ≡ (written s buf).buffer
  pub code : write_code v.answer ≡ written_code s (length buf)
  pub reads_back : ReadsBack s v.answer v.buffer

pub written_clauses : (s : Sheet) (buf : List ℕ) {v : WriteReply} → written s buf ≡ v → Written s buf v
written_clauses s buf e =
    record {
      value = sym (ap (λ (z : WriteReply). z.answer) e);
      buffer = sym (ap (λ (z : WriteReply). z.buffer) e);
      code = sym (ap (λ (z : WriteReply). write_code z.answer) e) ∙ write_code_lem s buf;
      reads_back = subst (λ (z : WriteReply). ReadsBack s z.answer z.buffer) e (reads_back s buf);
    }

-- ---- the sheet that bytes are, and its entries

module _ (b : List ℕ) {y : Result Reading Refusal} (q : y ≡ with_height (read_in b)) where
  -- refused as the bytes are
  was_refused : {r : Refusal} → y ≡ Err r → (read_in b).answer ≡ Err r
  was_refused {r} k = (reply_refused (reading (read_in b).sheet) (read_in b).answer r).0 (sym q ∙ k)

  pub refusal_is : {r : Refusal} → y ≡ Err r → refused r empty_sheet ≡ read_in b
  refusal_is k = sym (read_empty b (was_refused k))

  pub read_refused : {r : Refusal} → y ≡ Err r → read_completed b ≡ Err r
  unfolding read_completed
  read_refused k = ap (λ (a : Answer). completed_from a (read_in b).sheet) (was_refused k)

  module _ {v : Reading} (k : y ≡ Ok v) where
    -- the answer, and what was read
    was_read : ((read_in b).answer ≡ Ok tt) × (v ≡ reading (read_in b).sheet)
    was_read = reply_given (reading (read_in b).sheet) (read_in b).answer (sym q ∙ k)

    pub reading_is : accepted v.sheet ≡ read_in b
    reading_is =
        ap (λ (z : Reading). accepted z.sheet) was_read.1
        ∙ sym (read_accepted_is b was_read.0)

    pub read_accepted : read_completed b ≡ completed_of v.sheet
    unfolding read_completed
    read_accepted =
        ap (λ (a : Answer). completed_from a (read_in b).sheet) was_read.0
        ∙ ap (λ (z : Reading). completed_of z.sheet) (sym was_read.1)

    pub read_left : T (reachable v.sheet) × (v.height ≡ height_of (held v.sheet))
    read_left = (
      subst (λ (z : Reading). T (reachable z.sheet)) (sym was_read.1) (read_sheet_reachable b),
      subst (λ (z : Reading). z.height ≡ height_of (held z.sheet)) (sym was_read.1) refl,
    )

pub read_completed_code : (b : List ℕ) → completed_code (read_completed b) ≡ bytes_code b
unfolding read_completed bytes_code
read_completed_code b = go (read_in b).answer (read_code_lem b)
  where
    s : Sheet
    s = (read_in b).sheet

    go : (a : Answer) → answer_code a ≡ read_code b
        → completed_code (completed_from a s) ≡ code_with (unless_code (read_code b) (first_code (complete_order s [] []))) (entries_of s)
    go (Ok u) e = complete_code s ∙ rw (← e) (sheet_code_lem s)
    go (Err r) e = rw (← e, never_zero r, never_zero r)

pub read_complete_clauses : (b : List ℕ) {y : Result Entries Refusal} → y ≡ read_completed b → (y ≡ read_completed b) × (completed_code y ≡ bytes_code b)
read_complete_clauses b e = (e, ap completed_code e ∙ read_completed_code b)
