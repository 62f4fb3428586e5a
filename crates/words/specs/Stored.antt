-- A part of a text, stored in a buffer.
use Rattle.std.specs.Prelude.{List, ◌≡◌, ℕ, ◌+◌, ◌≤◌, length}
use Rattle.std.proofs.lemmas.List.Edits.{sets}
use Rattle.words.specs.declared.store.Text.{Text}

-- `next` is the place after it
pub record Stored (buf : List ℕ) (at : ℕ) (part : List ℕ) (buf' : List ℕ) (next : ℕ) : Type 0 where
  pub stored : buf' ≡ sets buf at part
  pub after : next ≡ at + length part

-- The buffer has n bytes more.
abbrev pub HasRoom : Text → ℕ → Type 0
HasRoom t n = t.at + n ≤ length t.out.now

-- The part comes next in the same buffer, and has at most n bytes.
pub record Appends (n : ℕ) (old : Text) (part : List ℕ) (new : Text) : Type 0 where
  pub same_buffer : new.out.ghost_name ≡ old.out.ghost_name
  pub same_length : length new.out.now ≡ length old.out.now
  pub stored : Stored old.out.now old.at part new.out.now new.at
  pub within : new.at ≤ old.at + n
