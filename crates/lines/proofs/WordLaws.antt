-- The printed word on the tank is the report's, and no refusal prints one: so what is printed is as true as what is judged.
-- Assumes nothing.
use Rattle.std.specs.Prelude.{Ok, Err}
use mathlib.Core.Path.{◌≡◌, refl, sym, ap, subst, ◌∙◌}
use mathlib.Core.Logic.{◌⊎◌, inl, inr}
use mathlib.Core.Bool.{Bool, true, false, cond}
use mathlib.Core.List.{List, [], ◌∷◌, ◌++◌, map, append_assoc, append-nil}
use Prim.Native.Nat.{ℕ, ◌/◌, ◌%◌, ◌≤◌, ◌<◌}
use native.Mathlib.Nat.{lt_of_not-le}
use native.Mathlib.Decide.{dec_le}
use native.Mathlib.Omega.{arith}
use lib.Dec.{T, eqb}
use lib.ListN.{length, get_or, take, drop, length-append}
use lib.Seq.{drop_at}
use Rattle.fields.specs.Refusal.{plain, code_of}
use Rattle.fields.specs.declared.refusal.Code.{Code}
use Rattle.fields.proofs.RefusalLaws.{never_zero}
use Rattle.lists.specs.Ascii.{ascii}
use Rattle.fields.specs.Order.{Answer, answer_code}
use Rattle.rules.specs.declared.method.Method.{Method}
use Rattle.entries.specs.declared.complete.Entries.{Entries}
use Rattle.claims.specs.Meets.{Justified}
use Rattle.reports.specs.Words.{tank_word}
use Rattle.reports.specs.declared.report.Judgement.{Judgement}
use Rattle.reports.specs.declared.report.Report.{Report}
use Rattle.reports.specs.declared.report.Word.{Word}
use Rattle.reports.specs.declared.report.Word.TheVariants.{Sound, Short}
use Rattle.words.specs.Decimal.{digit, decimal}
use Rattle.lines.specs.Text.{more, line, text, course_lines, wind_line, standing_lines, tank_line, report_lines, refusal_line, answer_lines, text_of}
use Rattle.lines.specs.Justified.{EndsIn, TextJustified}
use Rattle.words.proofs.DecimalLaws.{decimal_below, decimal_next}
use Rattle.lines.proofs.TextLaws.{text_append}

-- ---- what a text ends in

ends_on : (p : List ℕ) {t l : List ℕ} → EndsIn t l → EndsIn (p ++ t) l
ends_on p {t} {l} (f, e) = (p ++ f, ap (λ (x : List ℕ). p ++ x) e ∙ sym (append_assoc p f l))

ends_trans : {t m l : List ℕ} → EndsIn t m → EndsIn m l → EndsIn t l
ends_trans {t} {m} {l} (f, e) (g, h) = (f ++ g, e ∙ ap (λ (x : List ℕ). f ++ x) h ∙ sym (append_assoc f g l))

-- it has one end of each length
ends_same : {t l m : List ℕ} → length l ≡ length m → EndsIn t l → EndsIn t m → l ≡ m
ends_same {t} {l} {m} n (f, e) (g, h) =
    let k : length g ≡ length f = omega (arith, ap length (sym e ∙ h), length-append f l, length-append g m) in
    sym (drop_at f l (length f) refl) ∙ ap (λ (x : List ℕ). drop (length f) x) (sym e ∙ h) ∙ drop_at g m (length f) k

-- ---- a refusal ends in a digit, a report in a letter

record DigitEnd (t : List ℕ) : Type 0 where
  last : ℕ
  below : last < 10
  ends : EndsIn t (digit last ∷ 0x0a ∷ [])

digit_on : (p : List ℕ) {t : List ℕ} → DigitEnd t → DigitEnd (p ++ t)
digit_on p d = record { last = d.last; below = d.below; ends = ends_on p d.ends }

digit_line : (n : ℕ) (ns : List ℕ) → DigitEnd (more (map decimal (n ∷ ns)))
digit_line n [] = go (dec_le 10 n)
  where
    ended : (front : List ℕ) (d : ℕ) → d < 10 → decimal n ≡ front ++ (digit d ∷ []) → DigitEnd (more (decimal n ∷ []))
    ended front d h e =
        record {
          last = d;
          below = h;
          ends = (0x20 ∷ front, ap (λ (x : List ℕ). 0x20 ∷ (x ++ (0x0a ∷ []))) e ∙ ap (λ (x : List ℕ). 0x20 ∷ x) (append_assoc front (digit d ∷ []) (0x0a ∷ [])));
        }

    go : Dec (10 ≤ n) → DigitEnd (more (decimal n ∷ []))
    go (yes l) = ended (decimal (n / 10)) (n % 10) (omega arith) (decimal_next n l)
    go (no f) = ended [] n (lt_of_not-le f) (decimal_below n (lt_of_not-le f))
digit_line n (m ∷ ms) = digit_on (0x20 ∷ decimal n) (digit_line m ms)

refusal_end : (p : Code) → DigitEnd (text (refusal_line p ∷ []))
refusal_end p = rw (append-nil (line (refusal_line p))) (digit_on (ascii "refused") (go (eqb p.number 16)))
  where
    go : (b : Bool) → DigitEnd (more (map decimal (cond b (p.number ∷ p.field ∷ []) (p.number ∷ []))))
    go true = digit_line p.number (p.field ∷ [])
    go false = digit_line p.number []

record LetterEnd (t : List ℕ) : Type 0 where
  last : ℕ
  above : digit 10 ≤ last
  ends : EndsIn t (last ∷ 0x0a ∷ [])

tank_letter : (w : Word) → LetterEnd (line (tank_line w))
tank_letter Sound = record { last = 0x64; above = omega arith; ends = (ascii "tank soun", refl) }
tank_letter Short = record { last = 0x74; above = omega arith; ends = (ascii "tank shor", refl) }

report_end : (r : Report) → EndsIn (text (report_lines r)) (line (tank_line r.word))
report_end r =
    let cs = course_lines 1 (take r.count r.lines) in
    let wind = wind_line r.pressure r.moment in
    let ss = standing_lines r.standing in
    let tank = tank_line r.word in
    rw (text_append cs (wind ∷ (ss ++ tank ∷ [])), text_append ss (tank ∷ []), append-nil (line tank))
    (ends_on (text cs) (ends_on (line wind) (ends_on (text ss) ([], refl))))

-- ---- so the last line gives the word

word_in : (w : Word) → take 5 (drop 5 (line (tank_line w))) ≡ tank_word w
word_in Sound = refl
word_in Short = refl

tank_long : (w : Word) → length (line (tank_line w)) ≡ 11
tank_long Sound = refl
tank_long Short = refl

by_line : (a : Answer) (r : Report) (w : Word) → EndsIn (text (answer_lines a r)) (line (tank_line w))
    → (answer_code a ≡ plain 0) × (tank_word r.word ≡ tank_word w)
by_line (Ok u) r w e =
    let same = ends_same (tank_long r.word ∙ sym (tank_long w)) (report_end r) e in
    (refl, sym (word_in r.word) ∙ ap (λ (l : List ℕ). take 5 (drop 5 l)) same ∙ word_in w)
by_line (Err x) r w e =
    let d = refusal_end (code_of x) in
    let k = tank_letter w in
    let same = ap (λ (l : List ℕ). get_or l 0 0) (ends_same refl d.ends (ends_trans e k.ends)) in
    absurd (omega (arith, same, d.below, k.above))

one_of : (t : List ℕ) (w : Word) → EndsIn t (line (tank_line w)) → EndsIn t (ascii "tank sound\n") ⊎ EndsIn t (ascii "tank short\n")
one_of t Sound e = inl e
one_of t Short e = inr e

called : (a : Answer) (r : Report) → answer_code a ≡ plain 0
    → EndsIn (text (answer_lines a r)) (ascii "tank sound\n") ⊎ EndsIn (text (answer_lines a r)) (ascii "tank short\n")
called (Ok u) r e = one_of (text (report_lines r)) r.word (report_end r)
called (Err x) r e = absurd (subst T (never_zero x) (subst (λ (p : Code). T (eqb p.number 0)) (sym e) tt))

pub text_justified : (method : Method) (e : Entries) (j : Judgement) → Justified method e j → TextJustified method e j
unfolding text_of
text_justified method e j k = record {
  called = called j.answer j.report;
  sound = λ e. let t = by_line j.answer j.report Sound e in k.sound t.0 t.1;
  short = λ e. let t = by_line j.answer j.report Short e in k.short t.0 t.1;
}
