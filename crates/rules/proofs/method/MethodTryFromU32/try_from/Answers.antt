-- `Method::try_from` meets its contract. Assumes nothing.
use mathlib.Core.Path.{◌≡◌}
use native.Mathlib.Omega.{arith}
use borrow.Author.Tests.{ne_eqb}
use Rattle.rules.specs.Method.{is_method, method_of, chosen_method}
use Rattle.rules.proofs.MethodLaws.{chosen}
use Rattle.rules.proofs.method.MethodTryFromU32.try_from.Goals as goal

pub returns-in-1 : goal.returns-in-1
unfolding is_method method_of chosen_method
returns-in-1 c = let e : c.args.number ≡ 1 = omega arith in chosen _ (rw e)

pub returns-in-2 : goal.returns-in-2
unfolding is_method method_of chosen_method
returns-in-2 c = let e : c.args.number ≡ 2 = omega arith in chosen _ (rw e)

pub returns-in_default : goal.returns-in_default
unfolding is_method method_of chosen_method
returns-in_default c = chosen _ (rw (ne_eqb c.args.number 1 (λ e. omega arith), ne_eqb c.args.number 2 (λ e. omega arith)))
