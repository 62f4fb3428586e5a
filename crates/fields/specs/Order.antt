-- Orders of refusals, as data: document 01, "Order", and the answers of document 02. An order is a list of refusals with their conditions,
-- as the documents list them; the answer is the first whose condition applies.
use Rattle.std.specs.Prelude.{◌≡◌, Bool, true, false, not, cond, List, [], ◌∷◌, ℕ, ◌<◌, length, get_or, Result, Ok, Err}
use Rattle.std.specs.Result.{result_and}
use Rattle.fields.specs.Range.{range, within}
use Rattle.fields.specs.Refusal.{plain, code_of}
use Rattle.fields.specs.declared.refusal.Code.{Code}
use Rattle.fields.specs.declared.refusal.Refusal.{Refusal}
use Rattle.fields.specs.declared.refusal.Refusal.TheVariants.{OutOfRange, Unreachable}

pub record Condition : Type 0 where
  pub refusal : Refusal
  pub applies : Bool

infix 20 ◌when◌
abbrev pub ◌when◌ : Refusal → Bool → Condition
r when b = record { refusal = r; applies = b }

-- accepted, or the refusal
abbrev pub Answer : Type 0
Answer = Result (Unit {0}) Refusal

abbrev pub first_of : List Condition → Answer
first_of [] = Ok tt
first_of (c ∷ cs) = cond c.applies (Err c.refusal) (first_of cs)

-- a reply that an order decides: a value, or the refusal
abbrev pub reply_unless : {A : Type 0} → Answer → A → Result A Refusal
reply_unless a v = result_and a (Ok v)

-- a promise of the value of a reply, where it has one
abbrev pub Given : {A : Type 0} → (A → Type 0) → Result A Refusal → Type 0
Given promise (Ok v) = promise v
Given promise (Err r) = Unit {0}

-- The law of every order (`first_exactly`): the answer is the refusal r exactly where some place of the order has r, its condition
-- applies, and none before it does.
abbrev pub at : List Condition → ℕ → Condition
at cs k = get_or cs k (Unreachable when false)

pub record First (cs : List Condition) (r : Refusal) : Type 0 where
  pub place : ℕ
  pub inside : place < length cs
  pub refusal : (at cs place).refusal ≡ r
  pub applies : (at cs place).applies ≡ true
  pub none_before : (j : ℕ) → j < place → (at cs j).applies ≡ false

-- whether an answer is no refusal, and so whether no condition of an order applies
abbrev pub accepts : Answer → Bool
accepts (Ok u) = true
accepts (Err r) = false

unfoldable pub clear : List Condition → Bool
clear cs = accepts (first_of cs)

-- Figures with the numbers of their fields. 16: "It gives the number of the first such field", so in the order in which they are listed.
pub record Figure : Type 0 where
  pub field : ℕ
  pub value : ℕ

infix 40 ◌is◌
abbrev pub ◌is◌ : ℕ → ℕ → Figure
k is x = record { field = k; value = x }

abbrev pub outside : List Figure → List Condition
outside [] = []
outside (f ∷ fs) = (OutOfRange f.field when not (within (range f.field) f.value)) ∷ outside fs

-- the figures alone
abbrev pub values : List Figure → List ℕ
values [] = []
values (f ∷ fs) = f.value ∷ values fs

-- The code of each case of a reply: 0 where it was accepted, or the refusal's number and field; and so for an order.
abbrev pub answer_code : {A : Type 0} → Result A Refusal → Code
answer_code (Ok v) = plain 0
answer_code (Err r) = code_of r

abbrev pub first_code : List Condition → Code
first_code [] = plain 0
first_code (c ∷ cs) = cond c.applies (code_of c.refusal) (first_code cs)

-- an order as the documents list it: numbers, and 16 with its fields
abbrev pub codes : List Condition → List Code
codes [] = []
codes (c ∷ cs) = code_of c.refusal ∷ codes cs

abbrev pub sixteen : ℕ → Code
sixteen k = record { number = 16; field = k }
