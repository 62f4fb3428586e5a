-- The laws of lines and of texts; and two lines to the letter.
-- Assumes nothing.
use mathlib.Core.Path.{◌≡◌, refl, sym, ap, ◌∙◌}
use mathlib.Core.List.{List, [], ◌∷◌, ◌++◌, append_assoc, append-nil}
use Prim.Native.Nat.{ℕ, suc, ◌+◌, ◌<◌}
use native.Mathlib.Omega.{arith}
use native.Mathlib.Nat.{add-zero}
use lib.ListN.{length, get_or, take}
use lib.Seq.{length-take-le}
use Rattle.std.proofs.lemmas.List.{take_more}
use lib.Ieee.{Float}
use lib.IntN.{ℤ}
use Rattle.lists.specs.Ascii.{ascii}
use Rattle.rules.specs.declared.verdict.Verdict.TheVariants.{Holds, Short}
use Rattle.stability.specs.declared.earthquake.Uplift.TheVariants.{Lift}
use Rattle.reports.specs.declared.report.CourseLine.{CourseLine}
use Rattle.words.specs.Decimal.{decimal}
use Rattle.lines.specs.Text.{Line, line, text, course_line, course_lines, anchor_line, self_line}
use Rattle.words.specs.Stored.{Appends}
use Rattle.words.specs.declared.store.Text.{Text}
use Rattle.words.proofs.StoreLaws.{then}

pub text_append : (ls ms : List Line) → text (ls ++ ms) ≡ text ls ++ text ms
text_append [] ms = refl
text_append (l ∷ ls) ms = ap (λ (x : List ℕ). line l ++ x) (text_append ls ms) ∙ sym (append_assoc (line l) (text ls) (text ms))

pub texts_then : {m n : ℕ} {a b c : Text} (ls ms : List Line) → Appends m a (text ls) b → Appends n b (text ms) c
    → Appends (m + n) a (text (ls ++ ms)) c
texts_then ls ms f g = rw (text_append ls ms) (then f g)

-- a line by itself, and at the end of a text
pub line_alone : {n : ℕ} {a b : Text} (l : Line) → Appends n a (line l) b → Appends n a (text (l ∷ [])) b
line_alone l f = rw (append-nil (line l)) f

-- the lines of the courses up to a place, and one more
courses_append : (k : ℕ) (xs ys : List CourseLine) → course_lines k (xs ++ ys) ≡ course_lines k xs ++ course_lines (k + length xs) ys
courses_append k [] ys = ap (λ (n : ℕ). course_lines n ys) (sym (add-zero k))
courses_append k (x ∷ xs) ys =
    ap (λ (ls : List Line). course_line k x ∷ ls) (courses_append (k + 1) xs ys)
    ∙ ap (λ (n : ℕ). course_line k x ∷ (course_lines (k + 1) xs ++ course_lines n ys)) (let e : k + 1 + length xs ≡ k + suc (length xs) = omega arith in e)

more_lines : (cs : List CourseLine) (i : ℕ) (d : CourseLine) → i < length cs
    → text (course_lines 1 (take (i + 1) cs)) ≡ text (course_lines 1 (take i cs)) ++ line (course_line (i + 1) (get_or cs i d))
more_lines cs i d h =
    let c = get_or cs i d in
    let n : 1 + length (take i cs) ≡ i + 1 = omega (arith, length-take-le i cs (omega arith)) in
    rw (take_more cs i d h, courses_append 1 (take i cs) (c ∷ []), text_append (course_lines 1 (take i cs)) (course_lines (1 + length (take i cs)) (c ∷ [])), n)
    (ap (λ (l : List ℕ). text (course_lines 1 (take i cs)) ++ l) (append-nil (line (course_line (i + 1) c))))

pub courses_more : {m n : ℕ} {a b t : Text} (cs : List CourseLine) (i : ℕ) (d : CourseLine) → i < length cs
    → Appends m a (text (course_lines 1 (take i cs))) b → Appends n b (line (course_line (i + 1) (get_or cs i d))) t
    → Appends (m + n) a (text (course_lines 1 (take (i + 1) cs))) t
courses_more cs i d h f g = rw (more_lines cs i d h) (then f g)

-- Where document 01's example does not tell which verdict is printed: both of its anchors' checks hold.
pub anchors_printed : (wind quake : ℤ) (first second : Float)
    → line (anchor_line (record { wind_pull = wind; quake_pull = quake; spacing = Short first; strength = Holds second }))
    ≡ ascii "anchors spacing short strength ok\n"
anchors_printed wind quake first second = refl

pub self_printed : (first second : Float)
    → line (self_line (record { wind = Holds first; resistance = 1; uplift = Lift; quake = Short second })) ≡ ascii "self wind ok resist 1 lift\n"
unfolding decimal
self_printed first second = refl
