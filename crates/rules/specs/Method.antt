-- The methods for hoop need, and their numbers: document 02, S-3 ("The caller picks the method (1 for D100, 2 for API 650)").
use Rattle.std.specs.Prelude.{Bool, not, cond, ◌||◌, [], ◌∷◌, ◌↔◌, ◌≡◌, ℕ, eqb, Result, Ok, Err}
use Rattle.fields.specs.Order.{Condition, ◌when◌, answer_code, first_code}
use Rattle.fields.specs.declared.refusal.Code.{Code}
use Rattle.fields.specs.declared.refusal.Refusal.{Refusal}
use Rattle.fields.specs.declared.refusal.Refusal.TheVariants.{BadMethod}
use Rattle.rules.specs.declared.method.Method.{Method}
use Rattle.rules.specs.declared.method.Method.TheVariants.{D100, Api650}

abbrev pub method_number : Method → ℕ
method_number D100 = 1
method_number Api650 = 2

-- whether one of the two has this number
unfoldable pub is_method : ℕ → Bool
is_method n = eqb n (method_number D100) || eqb n (method_number Api650)

-- 42: "a method other than these two" (`other_exactly`)
abbrev pub other_method : ℕ → Condition
other_method n = BadMethod when not (is_method n)

-- the one that has it; any other number is refused, so that its value here does not matter
unfoldable pub method_of : ℕ → Method
method_of n = cond (eqb n (method_number Api650)) Api650 D100

unfoldable pub chosen_method : ℕ → Result Method Refusal
chosen_method n = cond (is_method n) (Ok (method_of n)) (Err BadMethod)

-- The code of a number; and a method is the choice exactly where it has the number.
unfoldable pub method_code : ℕ → Code
method_code n = first_code (other_method n ∷ [])

abbrev pub ChosenExactly : ℕ → Result Method Refusal → Type 0
ChosenExactly n choice = (m : Method) → (choice ≡ Ok m) ↔ (n ≡ method_number m)

-- what `Method::try_from` promises of the choice by a number
pub record Chosen (n : ℕ) (choice : Result Method Refusal) : Type 0 where
  pub value : choice ≡ chosen_method n
  pub code : answer_code choice ≡ method_code n
  pub chosen_exactly : ChosenExactly n choice
