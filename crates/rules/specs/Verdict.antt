-- A check's verdict: document 01, "Each check says that it holds or falls short together with its use".
use Rattle.std.specs.Prelude.{Bool, true, false, cond, List, ◌≡◌, ℕ, leb, Float}
use Rattle.std.specs.Float.{binary64}
use Rattle.std.specs.Float.Ieee.{round}
use Rattle.rules.specs.Words.{ok_word, short_word}
use Rattle.rules.specs.declared.verdict.Verdict.{Verdict}
use Rattle.rules.specs.declared.verdict.Verdict.TheVariants.{Holds, Short}

-- The use (document 01's word for the degree of utilization): the f64 nearest to need over capacity, ties to even.
unfoldable pub use_of : ℕ → ℕ → Float
use_of need capacity = round binary64 false need capacity

-- A check holds when its need is at most its capacity.
unfoldable pub verdict_of : ℕ → ℕ → Verdict
verdict_of need capacity = cond (leb need capacity) (Holds (use_of need capacity)) (Short (use_of need capacity))

-- What each case of a verdict says in print: its word and its use; and whether the check holds.
abbrev pub verdict_word : Verdict → List ℕ
verdict_word (Holds u) = ok_word
verdict_word (Short u) = short_word

abbrev pub used : Verdict → Float
used (Holds u) = u
used (Short u) = u

abbrev pub holds : Verdict → Bool
holds (Holds u) = true
holds (Short u) = false

-- so, of a need and a capacity
pub record VerdictFor (need capacity : ℕ) (v : Verdict) : Type 0 where
  pub word : verdict_word v ≡ cond (leb need capacity) ok_word short_word
  pub use_is : used v ≡ use_of need capacity
