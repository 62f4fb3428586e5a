-- The site classes and their capital letters: document 02, S-2.
use Rattle.std.specs.Prelude.{◌≡◌, Bool, false, ◌&&◌, ℕ, leb, Result, MatchResult}
use Rattle.fields.specs.declared.refusal.Refusal.{Refusal}
use Rattle.fields.specs.declared.refusal.Refusal.TheVariants.{BadSiteClass}
use Rattle.ground.specs.declared.class.SiteClass.{SiteClass}
use Rattle.ground.specs.declared.class.SiteClass.TheVariants.{A, B, C, D, E}

-- the capital letters A to E, in ASCII
abbrev pub is_class : ℕ → Bool
is_class class = leb 65 class && leb class 69

abbrev pub letter_of : SiteClass → ℕ
letter_of A = 65
letter_of B = 66
letter_of C = 67
letter_of D = 68
letter_of E = 69

-- the class with this letter, or 41 where there is none
abbrev pub Classed : ℕ → Result SiteClass Refusal → Type 0
Classed letter r = MatchResult r (λ class. letter_of class ≡ letter) (λ refusal. (refusal ≡ BadSiteClass) × (is_class letter ≡ false))
