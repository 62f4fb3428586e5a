-- The season's tally: document 02, S-11 ("one report over a file of up to 10,000 sheets end to end").
use Rattle.std.specs.Prelude.{Bool, true, false, not, cond, ◌&&◌, ◌||◌, List, [], ◌∷◌, map, ℕ, zero, suc, ◌+◌, ◌≡◌, eqb, length, take, drop, ℤ, pos, ◌+ℤ◌, ◌-ℤ◌, Option, Some, None}
use Rattle.std.specs.Int.{int_min}
use Rattle.std.specs.List.{fold, flat_map}
use Rattle.fields.specs.Order.{accepts, answer_code}
use Rattle.layout.specs.Numbers.{two_in}
use Rattle.reports.specs.declared.report.CourseLine.{CourseLine}
use Rattle.reports.specs.declared.report.Word.{Word}
use Rattle.reports.specs.declared.report.Word.TheVariants.{Sound, Short}
use Rattle.reports.specs.declared.report.Judgement.{Judgement}
use Rattle.marking.specs.Marking.{marked}
use Rattle.tally.specs.declared.tally.Tally.{Tally}

-- ---- the sheets of a file, and the judgements on them

-- The bytes of the sheet that begins here, its own 2 + L, or what there is of them; and all that stands after it.
abbrev pub own_length : List ℕ → ℕ
own_length b = 2 + two_in b

abbrev pub own_bytes : List ℕ → List ℕ
own_bytes b = take (own_length b) b

abbrev pub after_own : List ℕ → List ℕ
after_own b = drop (own_length b) b

-- "at 11 or 13 it counts one refused and stops"
abbrev pub is_stop : ℕ → Bool
is_stop number = eqb number 11 || eqb number 13

abbrev pub stops : Judgement → Bool
stops j = is_stop (answer_code j.answer).number

-- Each sheet in turn is marked by its own bytes, as the marker would, until `room` of them have been read. "A file that ends where a sheet
-- would begin ends there, with no refusal"; "after a refused sheet whose length was usable it goes on at the next length".
unfoldable pub judgements : ℕ → List ℕ → List Judgement
judgements zero b = []
judgements (suc room) [] = []
judgements (suc room) (x ∷ xs) =
    let b = x ∷ xs in
    let j = marked (own_bytes b) in
    j ∷ cond (stops j) [] (judgements room (after_own b))

-- "a file of up to 10,000 sheets"; "past 10,000 sheets it stops reading"
abbrev pub most_sheets : ℕ
most_sheets = 10000

-- ---- what they come to

-- "A refusal from judging counts as refused."
abbrev pub is_refused : Judgement → Bool
is_refused j = not (accepts j.answer)

abbrev pub says_sound : Word → Bool
says_sound Sound = true
says_sound Short = false

abbrev pub is_sound : Judgement → Bool
is_sound j = accepts j.answer && says_sound j.report.word

abbrev pub is_short : Judgement → Bool
is_short j = accepts j.answer && not (says_sound j.report.word)

abbrev pub one_if : Bool → ℕ
one_if b = cond b 1 0

abbrev pub count : (Judgement → Bool) → List Judgement → ℕ
count p [] = 0
count p (j ∷ js) = one_if (p j) + count p js

-- "plate minus required", both as the course's line in the report has them; of all judged courses, which a refused sheet has none of
abbrev pub difference : CourseLine → ℤ
difference line = pos line.plate -ℤ pos line.required

abbrev pub differences_on : Judgement → List ℤ
differences_on j = cond (accepts j.answer) (map difference (take j.report.count j.report.lines)) []

abbrev pub differences : List Judgement → List ℤ
differences = flat_map differences_on

abbrev pub sum_of : List ℤ → ℤ
sum_of [] = pos 0
sum_of (d ∷ ds) = d +ℤ sum_of ds

-- "the smallest such difference": one of them, and none is below it (`least_is`)
abbrev pub least_of : List ℤ → Option ℤ
least_of [] = None
least_of (d ∷ ds) = Some (fold int_min d ds)

unfoldable pub tally_of : List Judgement → Tally
tally_of js =
    record {
      read = length js;
      sound = count is_sound js;
      short = count is_short js;
      refused = count is_refused js;
      sum = sum_of (differences js);
      least = least_of (differences js);
    }

-- a file's tally
unfoldable pub tallied : List ℕ → Tally
tallied b = tally_of (judgements most_sheets b)

-- "Read is sound plus short plus refused": though each is counted from the sheets themselves.
abbrev pub AddsUp : Tally → Type 0
AddsUp t = t.read ≡ t.sound + t.short + t.refused
