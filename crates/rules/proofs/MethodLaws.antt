-- The laws of a method's number: which method it picks, and where it is refused.
-- Assumes nothing.
use mathlib.Core.Path.{◌≡◌, refl, sym, ap, ◌∙◌, subst}
use mathlib.Core.Bool.{Bool, true, false, not, cond, ◌||◌, true≢false}
use mathlib.Core.List.{[], ◌∷◌, map}
use mathlib.Core.Logic.{◌↔◌}
use Prim.Native.Nat.{ℕ}
use lib.Dec.{eqb}
use borrow.Author.Tests.{eqb-true}
use Rattle.fields.specs.Refusal.{plain, code_of}
use Rattle.fields.specs.declared.refusal.Refusal.{Refusal}
use Rattle.fields.specs.declared.refusal.Refusal.TheVariants.{BadMethod}
use Rattle.std.specs.Prelude.{Result, Ok, Err}
use Rattle.fields.specs.Order.{answer_code}
use Rattle.fields.proofs.OrderLaws.{clash}
use Rattle.rules.specs.Method.{method_number, is_method, other_method, method_of, chosen_method, method_code, ChosenExactly, Chosen}
use Rattle.rules.specs.declared.method.Method.{Method}
use Rattle.rules.specs.declared.method.Method.TheVariants.{D100, Api650}

-- the numbers as document 02 has them, and those beside them
pub numbered : map chosen_method (0 ∷ 1 ∷ 2 ∷ 3 ∷ []) ≡ Err BadMethod ∷ Ok D100 ∷ Ok Api650 ∷ Err BadMethod ∷ []
unfolding chosen_method is_method method_of
numbered = refl

-- a method's own number
pub is_method_lem : (m : Method) → is_method (method_number m) ≡ true
unfolding is_method
is_method_lem D100 = refl
is_method_lem Api650 = refl

pub method_of_lem : (m : Method) → method_of (method_number m) ≡ m
unfolding method_of
method_of_lem D100 = refl
method_of_lem Api650 = refl

-- a number that is a method's is that one's
pub own_number : (n : ℕ) → is_method n ≡ true → n ≡ method_number (method_of n)
unfolding is_method method_of
own_number n = go (eqb n (method_number D100)) (eqb n (method_number Api650)) (eqb-true n (method_number D100)) (eqb-true n (method_number Api650))
  where
    go : (a b : Bool) → (a ≡ true → n ≡ method_number D100) → (b ≡ true → n ≡ method_number Api650)
        → (a || b) ≡ true → n ≡ method_number (cond b Api650 D100)
    go a true p q e = q refl
    go true false p q e = p refl
    go false false p q e = absurd (true≢false (sym e))

-- 42 applies exactly where no method has the number
pub other_exactly : (n : ℕ) → ((other_method n).applies ≡ true) ↔ ((m : Method) → n ≡ method_number m → ⊥)
other_exactly n = go (is_method n) refl
  where
    go : (b : Bool) → is_method n ≡ b → (not b ≡ true) ↔ ((m : Method) → n ≡ method_number m → ⊥)
    go true e = (λ k m l. true≢false (sym k), λ f. absurd (f (method_of n) (own_number n e)))
    go false e = (λ k m l. true≢false (sym (is_method_lem m) ∙ ap is_method (sym l) ∙ e), λ f. refl)

-- the choice
pub chosen_exactly : (n : ℕ) → ChosenExactly n (chosen_method n)
unfolding chosen_method
chosen_exactly n m = (go (is_method n) refl, λ e. rw (e, is_method_lem m, method_of_lem m))
  where
    go : (b : Bool) → is_method n ≡ b → cond b (Ok (method_of n)) (Err BadMethod) ≡ Ok m → n ≡ method_number m
    go true e k = let j : method_of n ≡ m = cc in own_number n e ∙ ap method_number j
    go false e k = clash k

pub refused_is : (n : ℕ) {r : Refusal} → chosen_method n ≡ Err r → (is_method n ≡ false) × (r ≡ BadMethod)
unfolding chosen_method
refused_is n {r} = go (is_method n)
  where
    go : (b : Bool) → cond b (Ok (method_of n)) (Err BadMethod) ≡ Err r → (b ≡ false) × (r ≡ BadMethod)
    go true k = clash (sym k)
    go false k = (refl, cc)

choice_code_lem : (n : ℕ) → answer_code (chosen_method n) ≡ method_code n
unfolding chosen_method method_code
choice_code_lem n = go (is_method n)
  where
    go : (b : Bool) → answer_code (cond b (Ok (method_of n)) (Err BadMethod)) ≡ cond (not b) (code_of BadMethod) (plain 0)
    go true = refl
    go false = refl

-- and so what is promised of it
pub chosen : (n : ℕ) {choice : Result Method Refusal} → choice ≡ chosen_method n → Chosen n choice
chosen n e = record {
  value = e;
  code = ap answer_code e ∙ choice_code_lem n;
  chosen_exactly = subst (ChosenExactly n) (sym e) (chosen_exactly n);
}
