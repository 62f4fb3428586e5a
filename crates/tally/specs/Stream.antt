-- A tally of what a reader gives.
use Rattle.std.specs.Prelude.{◌≡◌, List, ◌++◌, ℕ, ◌+◌, ◌≤◌, ◌<◌, false, length, take, Option, Result, IfOk, IfSome}
use Rattle.std.specs.Io.KnownBytes.{Consumes, IsAtEnd}
use Rattle.tally.specs.Tally.{tallied, most_sheets, AddsUp}
use Rattle.tally.specs.Parts.{AfterPart, after_part, no_tally}
use Rattle.tally.specs.declared.tally.Tally.{Tally}
use Rattle.tally.specs.declared.progress.Progress.{Progress}

-- how far the tally of these bytes has come, where more may follow
abbrev pub after_bytes : List ℕ → AfterPart
after_bytes b = after_part most_sheets no_tally false b

-- The bytes of the one buffer that is read into.
abbrev pub one_buffer : ℕ
one_buffer = 131072

-- What a reader gave: bytes after which a sheet more could still be read, and behind them no more than a buffer takes. "Past 10,000 sheets it
-- stops reading", and after 11 or 13. (In how many reads they came the library does not say.)
pub record Reads (most : ℕ) (old new : Option (List ℕ)) : Type 0 where
  pub before : List ℕ
  pub last : List ℕ
  pub consumed : Consumes old new (before ++ last)
  pub needed : 0 < (after_bytes before).progress.room
  pub few : length last ≤ most

abbrev pub given_by : {most : ℕ} {old new : Option (List ℕ)} → Reads most old new → List ℕ
given_by reads = reads.before ++ reads.last

-- What the reader had and has still, where that is known, and the answer. A tally that is answered is that of all that the reader had, and
-- of the bytes that it gave. One body reads from every reader, so what is said of those whose bytes are known binds it on a program's standard
-- input, too, of which the library knows none. When there is an error in place of a tally is left open: the reader decides which reads fail.
pub record TallyOf {E : Type 0} (most : ℕ) (old new : Option (List ℕ)) (r : Result Tally E) : Type 0 where
  pub reads : Reads most old new
  pub whole : IfOk r (λ t. IfSome old (λ b. t ≡ tallied b))
  pub of_given : IfOk r (λ t. t ≡ tallied (given_by reads))
  pub adds_up : IfOk r AddsUp

-- One read behind the first bytes of a buffer: what came stands there, and none comes only at the end.
pub record ReadBehind {E : Type 0} (old new : Option (List ℕ)) (held : ℕ) (before : List ℕ) (r : Result ℕ E) (after : List ℕ) : Type 0 where
  pub came : List ℕ
  pub few : length came ≤ length after
  pub consumed : Consumes old new came
  pub behind : IfOk r (λ n. (held + n ≤ length after) × (take (held + n) after ≡ take held before ++ came))
  pub ended : IfOk r (λ n. n ≡ 0 → IsAtEnd new)

-- How far a tally has come by what a reader has given, of which these bytes are held back.
pub record SoFar (most : ℕ) (old new : Option (List ℕ)) (p : Progress) (held : List ℕ) : Type 0 where
  pub reads : Reads most old new
  pub value : record { progress = p; rest = held } ≡ after_bytes (given_by reads)
