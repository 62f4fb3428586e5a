-- Refusal 30: the test passes exactly the sheets that some run leaves (`left_exactly`); and a run leaves the anchors that it stated or read
-- last (`anchors_last`).
-- Assumes nothing.
use Rattle.std.specs.Prelude.{Option, Some, None, Ok, Err}
use mathlib.Core.Path.{◌≡◌, refl, sym, ap, ◌∙◌, subst}
use mathlib.Core.Bool.{Bool, true, false, not, ◌||◌}
use mathlib.Core.List.{List, [], ◌∷◌, map}
use mathlib.Core.Logic.{◌↔◌}
use Prim.Native.Nat.{ℕ, ◌≤◌}
use lib.Dec.{T}
use lib.ListN.{length, get_or, drop}
use native.Mathlib.Omega.{arith}
use Rattle.lists.proofs.BoolLaws.{T_true}
use Rattle.fields.specs.Bolt.{discontinued}
use Rattle.fields.specs.Order.{Answer, first_of}
use Rattle.fields.proofs.OrderLaws.{first_then, clear_accepted}
use Rattle.entries.specs.Sheet.{empty_sheet, held}
use Rattle.flaws.specs.Flaws.{anchor_flaws}
use Rattle.entries.specs.declared.sheet.Tank.{Tank}
use Rattle.entries.specs.declared.sheet.Anchors.{Anchors}
use Rattle.entries.specs.declared.sheet.Sheet.{Sheet}
use Rattle.layout.specs.declared.version.Version.{Version}
use Rattle.layout.specs.declared.version.Version.TheVariants.{One, Two}
use Rattle.layout.specs.Header.{anchors_in, tail_in}
use Rattle.layout.proofs.BackLaws.{laid, laid_version, laid_bytes}
use Rattle.parts.specs.Parts.{anchors_clear}
use Rattle.sheet.specs.Steps.{accepted, filled, unreachable, stated, kept, size_flaws, order_of, applied, consistent, fits_version_1, size_reachable, reachable, in_turn}
use Rattle.sheet.specs.declared.steps.Step.{Step}
use Rattle.sheet.specs.declared.steps.Reply.{Reply}
use Rattle.sheet.specs.Reading.{read_in}
use Rattle.sheet.specs.Runs.{Move, states, reads, moved, run, LeftByRun, anchors_read, anchors_moved, last_anchors}
use Rattle.sheet.proofs.StepLaws.{stated_applied, anchors_after_lem}
use Rattle.sheet.proofs.ReachLaws.{Held, fits_of, reach_halves, parts_held, slots_held, stated_reachable, empty_reachable}
use Rattle.sheet.proofs.RebuildLaws.{Taken, steps_of, rebuilt, no_tank_empty, held_length}
use Rattle.sheet.proofs.LaidLaws.{laid_read}
use Rattle.sheet.proofs.HoldLaws.{in_turn_split, read_version, read_holds, read_accepted_is, read_sheet_reachable}

-- ---- what a run leaves passes the test

move_reachable : (s : Sheet) (m : Move) → T (reachable s) → T (reachable (moved s m))
move_reachable s (states x) h = stated_reachable s x h
move_reachable s (reads b k e) h = go (read_in b).answer
  where
    go : (a : Answer) → T (reachable (kept a s (read_in b).sheet))
    go (Ok u) = read_sheet_reachable b
    go (Err r) = h

pub run_reachable : (ms : List Move) (s : Sheet) → T (reachable s) → T (reachable (run s ms))
run_reachable [] s h = h
run_reachable (m ∷ ms) s h = run_reachable ms (moved s m) (move_reachable s m h)

-- ---- what passes the test is left by a run

in_turn_run : (xs : List Step) (s t : Sheet) → T (reachable s) → in_turn Two s xs ≡ accepted t → run s (map states xs) ≡ t
unfolding applied
in_turn_run [] s t h e = ap (λ (r : Reply). r.sheet) e
in_turn_run (x ∷ xs) s t h e =
    let o = in_turn_split Two s t x xs e in
    let y = ap (λ (r : Reply). r.sheet) (stated_applied s x (T_true (reachable s) h)) ∙ ap (λ (a : Answer). kept a s (filled s x)) o.0 in
    ap (λ (z : Sheet). run z (map states xs)) y
    ∙ in_turn_run xs (filled s x) t (subst (λ (z : Sheet). T (reachable z)) y (stated_reachable s x h)) o.1

module _ (s : Sheet) (h : T (reachable s)) where
  halves : T (consistent s) × T (size_reachable s.tank s.site s.anchors s.count)
  halves = reach_halves s h

  module _ (t : Tank) (e : s.tank ≡ Some t) where
    abbrev d : Held s.tank
    d = record { entry = t; is = e }

    -- by stating what it holds, where its anchors can be stated
    by_steps : Taken Two t.diameter s.anchors → LeftByRun s
    by_steps k =
        let xs = steps_of t s.site s.anchors (held s) in
        record { moves = map states xs; leaves = in_turn_run xs empty_sheet s empty_reachable (rebuilt Two s halves.0 d k) }

    module _ (a : Anchors) (f : s.anchors ≡ Some a) where
      fine : first_of (anchor_flaws t.diameter a) ≡ Ok tt
      fine = clear_accepted (anchor_flaws t.diameter a) (subst (λ (y : Option Anchors). T (anchors_clear t.diameter y)) f (parts_held s halves.0 d).2)

      taken : (v : Version) → first_of (size_flaws v a) ≡ Ok tt → Taken v t.diameter (Some a)
      taken v k = rw (first_then (anchor_flaws t.diameter a) (size_flaws v a), fine) k

      -- and where they cannot, by reading its bytes of version 1
      by_reading : discontinued a.size ≡ true → LeftByRun s
      by_reading g =
          let q : T (size_reachable (Some t) s.site (Some a) s.count)
          = subst (λ (y : Option Tank). T (size_reachable y s.site (Some a) s.count)) e (subst (λ (y : Option Anchors). T (size_reachable s.tank s.site y s.count)) f halves.1) in
          let b = fits_of t s.site s.count (subst (λ (z : Bool). T (not z || fits_version_1 (Some t) s.site s.count)) g q) in
          let few : length (held s) ≤ 12 = omega (arith, held_length s halves.0, (slots_held s halves.0).few) in
          let l = laid One t b.site.entry a (held s) in
          let r = laid_read One s halves.0 t e b.site.entry b.site.is a f b.course b.water (taken One refl) in
          record {
            moves = reads l (laid_bytes One t b.site.entry a (held s) few) (laid_version One t b.site.entry a (held s)) ∷ [];
            leaves = ap (λ (y : Reply). kept y.answer empty_sheet y.sheet) r;
          }

  reachable_left : LeftByRun s
  reachable_left = go s.tank refl s.anchors refl
    where
      go : (e : Option Tank) → s.tank ≡ e → (a : Option Anchors) → s.anchors ≡ a → LeftByRun s
      go None e a f = record { moves = []; leaves = sym (no_tank_empty s halves.0 e) }
      go (Some t) e None f = by_steps t e (subst (Taken Two t.diameter) (sym f) tt)
      go (Some t) e (Some a) f = size (discontinued a.size) refl
        where
          size : (b : Bool) → discontinued a.size ≡ b → LeftByRun s
          size true g = by_reading t e a f g
          size false g = by_steps t e (subst (Taken Two t.diameter) (sym f) (taken t e a f Two (rw g refl)))

-- REFUSAL 30 IS FOR EXACTLY THE SHEETS THAT NO RUN LEAVES
pub left_exactly : (s : Sheet) → T (reachable s) ↔ LeftByRun s
left_exactly s =
    (reachable_left s, λ l. subst (λ (t : Sheet). T (reachable t)) l.leaves (run_reachable l.moves empty_sheet empty_reachable))

pub left_clauses : (s : Sheet) {b : Bool} → b ≡ reachable s → (b ≡ reachable s) × (T b ↔ LeftByRun s)
left_clauses s {b} e = (e, subst (λ (z : Bool). T z ↔ LeftByRun s) (sym e) (left_exactly s))

-- ---- the anchors held

-- what is read of version 1 holds those in the bytes
read_anchors : (b : List ℕ) → get_or b 2 0 ≡ 1 → (read_in b).answer ≡ Ok tt → (read_in b).sheet.anchors ≡ Some (anchors_in (drop 20 (tail_in One b)))
read_anchors b x e =
    let s = (read_in b).sheet in
    (read_holds One b s (read_version One b s x (read_accepted_is b e))).holds.anchors

anchors_moved_lem : (s : Sheet) (m : Move) → (moved s m).anchors ≡ anchors_moved s.anchors s m
unfolding stated
anchors_moved_lem s (states x) = anchors_after_lem s x (first_of (unreachable s ∷ order_of Two s x))
anchors_moved_lem s (reads b k x) = go (read_in b).answer refl
  where
    go : (a : Answer) → (read_in b).answer ≡ a → (kept a s (read_in b).sheet).anchors ≡ anchors_read s.anchors b a
    go (Ok u) e = read_anchors b x e
    go (Err r) e = refl

anchors_run : (ms : List Move) (s : Sheet) → (run s ms).anchors ≡ last_anchors s.anchors s ms
anchors_run [] s = refl
anchors_run (m ∷ ms) s =
    anchors_run ms (moved s m)
    ∙ ap (λ (e : Option Anchors). last_anchors e (moved s m) ms) (anchors_moved_lem s m)

-- A SHEET HOLDS THE ANCHORS THAT ITS RUN STATED OR READ LAST, AND NONE WHERE IT DID NEITHER
pub anchors_last : (ms : List Move) → (run empty_sheet ms).anchors ≡ last_anchors None empty_sheet ms
anchors_last ms = anchors_run ms empty_sheet
