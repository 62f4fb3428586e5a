-- What a reader gives, read after read: the laws of the loop.
-- Assumes nothing.
use Rattle.std.specs.Prelude.{Option, Some, None, Result, Ok, Err, IfSome, IsErr}
use mathlib.Core.Path.{◌≡◌, refl, sym, ap, ◌∙◌, subst}
use mathlib.Core.Bool.{true, false}
use mathlib.Core.List.{List, [], ◌++◌, append-nil}
use mathlib.Core.Logic.{◌⊎◌, inl, inr}
use Prim.Native.Nat.{ℕ, ◌+◌, ◌*◌, ◌-◌, ◌≤◌, ◌<◌}
use native.Mathlib.Nat.{mul-le-mul_right}
use native.Mathlib.Omega.{arith}
use lib.Dec.{T}
use lib.ListN.{length, take, drop, length-append, length-drop, length-take}
use lib.Seq.{length-take-le}
use Rattle.std.specs.Io.KnownBytes.{Consumes, ReadConsumes}
use Rattle.std.specs.Io.{ReadsAtMost}
use Rattle.std.proofs.KnownBytes.{Consumes-nil, Consumes-trans, Consumes-kept, Consumes-whole}
use Rattle.std.proofs.lemmas.Int.{ints}
use Rattle.input.proofs.BufferLaws.{behind}
use Rattle.tally.specs.Tally.{judgements, tallied, most_sheets, AddsUp}
use Rattle.tally.specs.Parts.{no_tally, start, AfterPart, reply_of, after_part, Within}
use Rattle.tally.specs.Stream.{after_bytes, given_by, Reads, TallyOf, ReadBehind, SoFar}
use Rattle.tally.specs.declared.tally.Tally.{Tally}
use Rattle.tally.specs.declared.progress.Progress.{Progress}
use Rattle.tally.proofs.TallyLaws.{adds_up}
use Rattle.tally.proofs.CutLaws.{part_then_rest, all_tallied, none_taken}

pub none_given : (most : ℕ) (old : Option (List ℕ)) → SoFar most old old start []
unfolding after_part
none_given most old = record { reads = record { before = []; last = []; consumed = Consumes-nil old; needed = omega arith; few = omega arith }; value = refl }

pub start_within : Within start
start_within = record { room = omega arith; bounded = record { adds_up = refl; sum = omega (arith, ints) } }

-- ---- one read

pub read_behind : {E : Type 0} (old new : Option (List ℕ)) (held : ℕ) (before part rest : List ℕ) (r : Result ℕ E) → held ≤ length before
    → ReadsAtMost r part → ReadConsumes old new r part → 0 < length part → ReadBehind old new held before r (take held before ++ (part ++ rest))
read_behind old new held before part rest (Ok n) h b e s =
    record {
      came = take n part;
      few = omega (arith, length-take n part, length-append (take held before) (part ++ rest), length-append part rest);
      consumed = e.0;
      behind = (omega (arith, b.0, length-take-le held before h, length-append (take held before) (part ++ rest), length-append part rest), behind held n before part rest h b.0);
      ended = λ z. e.1 z s;
    }
read_behind old new held before part rest (Err q) h b e s = record { came = []; few = omega arith; consumed = Consumes-kept old old new [] (Consumes-nil old) e; behind = tt; ended = tt }

-- ---- the answer

whole_of : (old new : Option (List ℕ)) (given : List ℕ) (P : List ℕ → Type 0) → Consumes old new given → ((r : List ℕ) → P (given ++ r)) → IfSome old P
whole_of None new given P c h = tt
whole_of (Some x) None given P c h = absurd c
whole_of (Some x) (Some y) given P c h = subst P (sym c) (h y)

answered : {E : Type 0} {most : ℕ} {old new : Option (List ℕ)} {t : Tally} (reads : Reads most old new) → t ≡ tallied (given_by reads)
    → IfSome old (λ b. t ≡ tallied b) → TallyOf {E = E} most old new (Ok t)
unfolding tallied
answered reads e w =
    record { reads = reads; whole = w; of_given = e; adds_up = subst AddsUp (sym e) (adds_up (judgements most_sheets (given_by reads))) }

-- the tally of what was given and of what follows it
going_on : {p : Progress} {held : List ℕ} (given : List ℕ) → record { progress = p; rest = held } ≡ after_bytes given
    → (r : List ℕ) → (after_part p.room p.tally true (held ++ r)).progress.tally ≡ tallied (given ++ r)
going_on given e r =
    ap (λ (l : AfterPart). (after_part l.progress.room l.progress.tally true (l.rest ++ r)).progress.tally) e
    ∙ ap (λ (y : AfterPart). y.progress.tally) (sym (part_then_rest most_sheets no_tally true given r))
    ∙ all_tallied (given ++ r)

module _ {most : ℕ} {old new : Option (List ℕ)} {p : Progress} {held : List ℕ} (k : SoFar most old new p held) where
  -- after a stop
  pub stopped : {E : Type 0} → p.room ≡ 0 → TallyOf {E = E} most old new (Ok p.tally)
  unfolding after_part
  stopped e =
      let given = given_by k.reads in
      let same : (r : List ℕ) → p.tally ≡ tallied (given ++ r) =
      λ r. ap (λ (n : ℕ). (after_part n p.tally true (held ++ r)).progress.tally) (sym e) ∙ going_on given k.value r in
      answered k.reads (same [] ∙ ap tallied (append-nil given)) (whole_of old new given (λ b. p.tally ≡ tallied b) k.reads.consumed same)

module _ {E : Type 0} {most : ℕ} {old mid new : Option (List ℕ)} {p : Progress} {n : ℕ} {before after : List ℕ} (k : SoFar most old mid p (take n before))
    (some : 0 < p.room) (fits : length after ≡ most) where
  -- one read more, made while there was room
  abbrev reads_more : {r : Result ℕ E} → ReadBehind {E = E} mid new n before r after → Reads most old new
  reads_more b =
      record {
        before = given_by k.reads;
        last = b.came;
        consumed = Consumes-trans old mid new (given_by k.reads) b.came k.reads.consumed b.consumed;
        needed = subst (λ (l : AfterPart). 0 < l.progress.room) k.value some;
        few = omega (arith, b.few, fits);
      }

  -- more has come
  pub more_given : {i : ℕ} {q : Progress} {rest : List ℕ} → ReadBehind {E = E} mid new n before (Ok i) after
      → record { progress = q; rest = rest } ≡ after_part p.room p.tally false (take (n + i) after) → SoFar most old new q rest
  more_given b e =
      record {
        reads = reads_more b;
        value = e
            ∙ ap (after_part p.room p.tally false) b.behind.1
            ∙ ap (λ (l : AfterPart). after_part l.progress.room l.progress.tally false (l.rest ++ b.came)) k.value
            ∙ sym (part_then_rest most_sheets no_tally false (given_by k.reads) b.came);
      }

  -- none comes any more
  pub all_given : {i : ℕ} {q : Progress} {rest : List ℕ} → ReadBehind {E = E} mid new n before (Ok i) after → i ≡ 0
      → record { progress = q; rest = rest } ≡ after_part p.room p.tally true (take n after) → TallyOf {E = E} most old new (Ok q.tally)
  all_given {i} {q} b z e =
      let m : n ≡ n + i = omega (arith, z) in
      let same : q.tally ≡ tallied (given_by k.reads ++ b.came) =
      ap (λ (l : AfterPart). l.progress.tally) e
      ∙ ap (λ (x : List ℕ). (after_part p.room p.tally true x).progress.tally) (ap (λ (m : ℕ). take m after) m ∙ b.behind.1)
      ∙ going_on (given_by k.reads) k.value b.came in
      answered (reads_more b) same (Consumes-whole old new (given_by k.reads ++ b.came) (λ x. q.tally ≡ tallied x) (reads_more b).consumed (b.ended z) same)

  -- a read failed
  pub failed : {r : Result ℕ E} (s : Result Tally E) → ReadBehind mid new n before r after → IsErr s → TallyOf most old new s
  failed (Ok t) b e = absurd (subst T (sym e) tt)
  failed (Err x) b e = record { reads = reads_more b; whole = tt; of_given = tt; adds_up = tt }

-- ---- the loop ends: a read that gives something either fills up, or a sheet of those that may be read is taken

pub smaller : (p q : Progress) (L held used count : ℕ) (part : List ℕ) → 0 < p.room → reply_of (record { progress = q; used = used }) part ≡ after_part p.room p.tally false part
    → count + used ≡ length part → held < length part → length part ≤ L → q.room * (L + 1) + (L - count) < p.room * (L + 1) + (L - held)
smaller p q L held used count part some e u h m =
    go (subst (λ (l : AfterPart). (l.progress.room < p.room) ⊎ ((l.progress.room ≡ p.room) × (l.rest ≡ part))) (sym e) (none_taken p.room p.tally false part some))
  where
    go : (q.room < p.room) ⊎ ((q.room ≡ p.room) × (drop used part ≡ part)) → q.room * (L + 1) + (L - count) < p.room * (L + 1) + (L - held)
    go (inl l) = omega (arith, mul-le-mul_right (L + 1) l)
    go (inr k) = rw (k.0) (omega (arith, sym (length-drop used part) ∙ ap length k.1))
