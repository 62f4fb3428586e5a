-- A text as its bytes.
use Rattle.std.specs.Prelude.{List, [], ◌∷◌, ℕ}
use Prim.Native.Char.{code}
use Prim.Native.String.{String, [] as end, ◌∷◌ as ◌then◌}

-- the codes of a text's letters, which for ASCII are its bytes
abbrev pub ascii : String → List ℕ
ascii end = []
ascii (c then rest) = code c ∷ ascii rest
