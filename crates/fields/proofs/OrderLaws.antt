-- The laws of orders: which refusal is the answer, and how an order is gone through part by part.
-- Assumes nothing.
use mathlib.Core.Path.{◌≡◌, refl, sym, ap, ◌∙◌, subst}
use mathlib.Core.Bool.{Bool, true, false, cond}
use mathlib.Core.List.{List, [], ◌∷◌, ◌++◌}
use mathlib.Core.Logic.{◌↔◌}
use Prim.Native.Nat.{ℕ, zero, suc, ◌<◌, zero-le, suc-le-suc}
use native.Mathlib.Nat.{le_of_suc-le-suc, not-suc-le-zero}
use native.Mathlib.Omega.{arith}
use lib.Dec.{T, eqb}
use lib.ListN.{length}
use Rattle.std.specs.Prelude.{Result, Ok, Err, is_ok, IsErrAnd}
use Rattle.std.specs.Result.{result_and, result_unwrap_or}
use Rattle.fields.specs.Refusal.{plain, code_of}
use Rattle.fields.specs.declared.refusal.Code.{Code}
use Rattle.fields.specs.declared.refusal.Refusal.{Refusal}
use Rattle.fields.proofs.RefusalLaws.{never_zero}
use Rattle.fields.specs.Order.{Answer, Condition, first_of, reply_unless, Given, at, First, accepts, clear, answer_code, first_code}

-- a reply is not both
pub clash : {A X : Type 0} {v : A} {r : Refusal} → ◌≡◌ {A = Result A Refusal} (Err r) (Ok v) → X
clash e = absurd (let z : ◌≡◌ {A = ℕ} 0 1 = cc in omega arith)

-- a refusal that `?` passes on
pub passed_on : {A : Type 0} (y : Result A Refusal) (r : Refusal) → IsErrAnd y (λ e. e ≡ r) → y ≡ Err r
passed_on (Ok v) r h = absurd h
passed_on (Err q) r h = ap Err h

-- THE LAW OF EVERY ORDER: the answer is the refusal r exactly where r's condition applies at some place and none before it does.
to_first : (cs : List Condition) (r : Refusal) → first_of cs ≡ Err r → First cs r
to_first [] r e = clash (sym e)
to_first (c ∷ cs) r e = go (to_first cs r) c.applies refl e
  where
    later : First cs r → c.applies ≡ false → First (c ∷ cs) r
    later f h =
        record {
          place = suc f.place;
          inside = suc-le-suc f.inside;
          refusal = f.refusal;
          applies = f.applies;
          none_before = before;
        }
      where
        before : (j : ℕ) → j < suc f.place → (at (c ∷ cs) j).applies ≡ false
        before zero l = h
        before (suc j) l = f.none_before j (le_of_suc-le-suc l)

    go : (first_of cs ≡ Err r → First cs r) → (b : Bool) → c.applies ≡ b → cond b (Err c.refusal) (first_of cs) ≡ Err r
        → First (c ∷ cs) r
    go rest true h k =
        record {
          place = 0;
          inside = suc-le-suc zero-le;
          refusal = cc;
          applies = h;
          none_before = λ j l. absurd (not-suc-le-zero l);
        }
    go rest false h k = later (rest k) h

of_first : (cs : List Condition) (r : Refusal) (k : ℕ) → k < length cs → (at cs k).refusal ≡ r → (at cs k).applies ≡ true
    → ((j : ℕ) → j < k → (at cs j).applies ≡ false) → first_of cs ≡ Err r
of_first [] r k l e h n = absurd (not-suc-le-zero l)
of_first (c ∷ cs) r zero l e h n = rw h (ap Err e)
of_first (c ∷ cs) r (suc k) l e h n =
    rw (n 0 (suc-le-suc zero-le)) (of_first cs r k (le_of_suc-le-suc l) e h (λ j i. n (suc j) (suc-le-suc i)))

pub first_exactly : (cs : List Condition) (r : Refusal) → (first_of cs ≡ Err r) ↔ First cs r
first_exactly cs r =
    (to_first cs r, λ f. of_first cs r f.place f.inside f.refusal f.applies f.none_before)

-- and it is accepted exactly where no condition applies
pub none_exactly : (cs : List Condition) → (first_of cs ≡ (Ok tt)) ↔ ((j : ℕ) → j < length cs → (at cs j).applies ≡ false)
none_exactly [] = (λ e j l. absurd (not-suc-le-zero l), λ n. refl)
none_exactly (c ∷ cs) = (
  there (none_exactly cs).0 c.applies refl,
  λ n. rw (n 0 (suc-le-suc zero-le)) ((none_exactly cs).1 (λ j l. n (suc j) (suc-le-suc l))),
)
  where
    step : c.applies ≡ false → ((j : ℕ) → j < length cs → (at cs j).applies ≡ false)
        → (j : ℕ) → j < suc (length cs) → (at (c ∷ cs) j).applies ≡ false
    step h n zero l = h
    step h n (suc j) l = n j (le_of_suc-le-suc l)

    there : (first_of cs ≡ (Ok tt) → (j : ℕ) → j < length cs → (at cs j).applies ≡ false)
        → (b : Bool) → c.applies ≡ b → cond b (Err c.refusal) (first_of cs) ≡ (Ok tt)
        → (j : ℕ) → j < suc (length cs) → (at (c ∷ cs) j).applies ≡ false
    there rest true h e = clash e
    there rest false h e = step h (rest e)

-- an order part by part
pub first_then : (xs ys : List Condition) → first_of (xs ++ ys) ≡ result_and (first_of xs) (first_of ys)
first_then [] ys = refl
first_then (x ∷ xs) ys = go (first_then xs ys) x.applies
  where
    go : first_of (xs ++ ys) ≡ result_and (first_of xs) (first_of ys) → (b : Bool)
        → cond b (Err x.refusal) (first_of (xs ++ ys)) ≡ result_and (cond b (Err x.refusal) (first_of xs)) (first_of ys)
    go rest true = refl
    go rest false = rest

pub first_cons : (c : Condition) (cs : List Condition) → first_of (c ∷ cs) ≡ (Ok tt) → (c.applies ≡ false) × (first_of cs ≡ (Ok tt))
first_cons c cs e = go c.applies e
  where
    go : (b : Bool) → cond b (Err c.refusal) (first_of cs) ≡ (Ok tt) → (b ≡ false) × (first_of cs ≡ (Ok tt))
    go true e = clash e
    go false e = (refl, e)

pub first_append : (xs ys : List Condition) → first_of (xs ++ ys) ≡ (Ok tt) → (first_of xs ≡ (Ok tt)) × (first_of ys ≡ (Ok tt))
first_append xs ys e = go (first_of xs) (sym (first_then xs ys) ∙ e)
  where
    go : (a : Answer) → result_and a (first_of ys) ≡ (Ok tt) → (a ≡ (Ok tt)) × (first_of ys ≡ (Ok tt))
    go (Ok u) e = (refl, e)
    go (Err r) e = clash e

-- the test `clear`, and the answer
pub clear_accepted : (cs : List Condition) → T (clear cs) → first_of cs ≡ (Ok tt)
unfolding clear
clear_accepted cs t = go (first_of cs) t
  where
    go : (a : Answer) → T (accepts a) → a ≡ (Ok tt)
    go (Ok u) t = refl
    go (Err r) t = absurd t

pub accepted_clear : (cs : List Condition) → first_of cs ≡ (Ok tt) → T (clear cs)
unfolding clear
accepted_clear cs e = rw e tt

-- by the library's test
pub clear_of : (cs : List Condition) {a : Answer} {b : Bool} → b ≡ is_ok a → a ≡ first_of cs → b ≡ clear cs
unfolding clear
clear_of cs {a} {b} e f = e ∙ go a ∙ ap accepts f
  where
    go : (a : Answer) → is_ok a ≡ accepts a
    go (Ok u) = refl
    go (Err r) = refl

-- the code of the answer
pub first_code_lem : (cs : List Condition) → answer_code (first_of cs) ≡ first_code cs
first_code_lem [] = refl
first_code_lem (c ∷ cs) = go c.applies (first_code_lem cs)
  where
    go : (b : Bool) → answer_code (first_of cs) ≡ first_code cs
        → answer_code (cond b (Err c.refusal) (first_of cs)) ≡ cond b (code_of c.refusal) (first_code cs)
    go true e = refl
    go false e = e

-- the two clauses of a function that answers an order
pub coded : (cs : List Condition) {a : Answer} → a ≡ first_of cs → (a ≡ first_of cs) × (answer_code a ≡ first_code cs)
coded cs e = (e, ap answer_code e ∙ first_code_lem cs)

-- code 0 is no refusal's
pub accepted_code : (a : Answer) → answer_code a ≡ plain 0 → a ≡ (Ok tt)
accepted_code (Ok u) e = refl
accepted_code (Err r) e = absurd (subst T (sym (ap (λ (p : Code). eqb p.number 0) e) ∙ never_zero r) tt)

-- Of a reply that an order decides:
module _ {A : Type 0} (v : A) where
  pub reply_refused : (a : Answer) (r : Refusal) → (reply_unless a v ≡ Err r) ↔ (a ≡ Err r)
  reply_refused (Ok u) r = (λ e. clash (sym e), λ e. clash (sym e))
  reply_refused (Err q) r = (λ e. ap Err cc, λ e. ap Err cc)

  pub reply_given : (a : Answer) {w : A} → reply_unless a v ≡ Ok w → (a ≡ Ok tt) × (w ≡ v)
  reply_given (Ok u) {w} e = (refl, let k : v ≡ w = cc in sym k)
  reply_given (Err r) e = clash e

  given_as : (a : Answer) → (reply_unless a v ≡ Ok v) ↔ (a ≡ Ok tt)
  given_as (Ok u) = (λ e. refl, λ e. refl)
  given_as (Err r) = (clash, clash)

  -- its code, and with that the two clauses of a function that gives such a reply
  pub reply_code : (a : Answer) → answer_code (reply_unless a v) ≡ answer_code a
  reply_code (Ok u) = refl
  reply_code (Err r) = refl

  pub reply_coded : (cs : List Condition) {y : Result A Refusal} → y ≡ reply_unless (first_of cs) v
      → (y ≡ reply_unless (first_of cs) v) × (answer_code y ≡ first_code cs)
  reply_coded cs e = (e, ap answer_code e ∙ reply_code (first_of cs) ∙ first_code_lem cs)

  -- its value, or another where it is refused, by the code; and a promise that holds of the value where it is accepted
  pub reply_value : (none : A) (a : Answer) → result_unwrap_or (reply_unless a v) none ≡ cond (eqb (answer_code a).number 0) v none
  reply_value none (Ok u) = refl
  reply_value none (Err r) = rw (never_zero r)

  pub reply_given_holds : (promise : A → Type 0) (a : Answer) → (a ≡ Ok tt → promise v) → Given promise (reply_unless a v)
  reply_given_holds promise (Ok u) f = f refl
  reply_given_holds promise (Err r) f = tt

  -- each refusal exactly under its condition with none before it,
  pub reply_refused_exactly : (cs : List Condition) (r : Refusal) → (reply_unless (first_of cs) v ≡ Err r) ↔ First cs r
  reply_refused_exactly cs r =
      let f = first_exactly cs r in
      let g = reply_refused (first_of cs) r in
      (λ e. f.0 (g.0 e), λ h. g.1 (f.1 h))

  -- and the value exactly where no condition applies
  pub reply_given_exactly : (cs : List Condition) → (reply_unless (first_of cs) v ≡ Ok v) ↔ ((j : ℕ) → j < length cs → (at cs j).applies ≡ false)
  reply_given_exactly cs =
      let f = none_exactly cs in
      let g = given_as (first_of cs) in
      (λ e. f.0 (g.0 e), λ h. g.1 (f.1 h))
