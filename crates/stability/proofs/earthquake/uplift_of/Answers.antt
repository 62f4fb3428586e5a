-- `stability::earthquake::uplift_of` meets its contract: each return knows the tests that led to it. Assumes nothing.
use mathlib.Core.Path.{◌≡◌, ap, ◌∙◌}
use Prim.Native.Nat.{ℕ}
use borrow.Author.Tests.{le-leb, lt-leb}
use Rattle.stability.specs.Earthquake.{uplift_of, uplift_word, lift_word_of}
use Rattle.stability.specs.declared.earthquake.Uplift.{Uplift}
use Rattle.stability.proofs.CheckLaws.{uplift_word_lem}
use Rattle.stability.proofs.earthquake.uplift_of.Goals as goal

-- what is the uplift has its word
clauses : (Ms T : ℕ) {u : Uplift} → u ≡ uplift_of Ms T → record { value : u ≡ uplift_of Ms T; code : uplift_word u ≡ lift_word_of Ms T }
clauses Ms T e = record { value = e; code = ap uplift_word e ∙ uplift_word_lem Ms T }

pub returns-then-need-resistance : goal.returns-then-need-resistance
unfolding uplift_of
returns-then-need-resistance c = clauses c.args.moment c.args.resistance (rw (le-leb _ _ c.if-need-resistance.true))

pub returns-then-need-resistance-2 : goal.returns-then-need-resistance-2
unfolding uplift_of
returns-then-need-resistance-2 c = let a = c.args in clauses a.moment a.resistance (rw (lt-leb _ _ c.if-need-resistance.false, le-leb _ _ c.if-need-resistance-2.true))

pub returns : goal.returns
unfolding uplift_of
returns c = let a = c.args in clauses a.moment a.resistance (rw (lt-leb _ _ c.if-need-resistance.false, lt-leb _ _ c.if-need-resistance-2.false))
