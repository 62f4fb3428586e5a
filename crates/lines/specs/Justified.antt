-- Demand 3 of what is printed of a judgement by a method.
use Rattle.std.specs.Prelude.{List, ◌++◌, ◌⊎◌, ◌≡◌, ℕ}
use Rattle.lists.specs.Ascii.{ascii}
use Rattle.fields.specs.Refusal.{plain}
use Rattle.fields.specs.Order.{answer_code}
use Rattle.rules.specs.declared.method.Method.{Method}
use Rattle.entries.specs.declared.complete.Entries.{Entries}
use Rattle.claims.specs.Meets.{no_margins, MeetsWith, margins_of}
use Rattle.reports.specs.declared.report.Judgement.{Judgement}
use Rattle.lines.specs.Text.{text_of}

abbrev pub EndsIn : List ℕ → List ℕ → Type 0
EndsIn t last = (front : List ℕ) × (t ≡ front ++ last)

-- A report's last line calls the tank sound or short; a text that ends in the one is printed only where the sheet with these entries
-- meets every rule of the method, and one that ends in the other only where it breaks one of them once all margins are taken against it.
pub record TextJustified (method : Method) (e : Entries) (j : Judgement) : Type 0 where
  pub called : answer_code j.answer ≡ plain 0 → EndsIn (text_of j) (ascii "tank sound\n") ⊎ EndsIn (text_of j) (ascii "tank short\n")
  pub sound : EndsIn (text_of j) (ascii "tank sound\n") → MeetsWith method no_margins e
  pub short : EndsIn (text_of j) (ascii "tank short\n") → MeetsWith method (margins_of e) e → ⊥
