-- A text in a buffer: the reply, and the whole content of the buffer after it.
use Rattle.std.specs.Prelude.{cond, Result, Ok, Err, List, ◌++◌, ◌≡◌, ℕ, ◌≤◌, leb, length, drop, codes, decimal}
use Rattle.lines.specs.Text.{most_text}
use Rattle.text.specs.declared.printing.TooSmall.{TooSmall}

pub record PrintReply : Type 0 where
  pub answer : Result ℕ TooSmall
  pub buffer : List ℕ

-- The first bytes are the text and the rest is untouched; where the text has no room, every byte is.
unfoldable pub printed : List ℕ → List ℕ → PrintReply
printed t buf =
    cond
    (leb (length t) (length buf))
    (record { answer = Ok (length t); buffer = t ++ drop (length t) buf })
    (record { answer = Err (record { needed = length t }); buffer = buf })

-- What each case of the reply says: how many bytes were written, and how many the text has.
pub record PrintSizes : Type 0 where
  pub bytes : ℕ
  pub long : ℕ

abbrev pub sizes_of : Result ℕ TooSmall → PrintSizes
sizes_of (Ok n) = record { bytes = n; long = n }
sizes_of (Err small) = record { bytes = 0; long = small.needed }

unfoldable pub printed_sizes : List ℕ → ℕ → PrintSizes
printed_sizes t room = record { bytes = cond (leb (length t) room) (length t) 0; long = length t }

-- All that is promised of a reply, and of the buffer after it; and of the text of a judgement, which has a bound.
abbrev pub Copies : List ℕ → List ℕ → Result ℕ TooSmall → List ℕ → Type 0
Copies t buf r buf' =
    (r ≡ (printed t buf).answer) × ((buf' ≡ (printed t buf).buffer) × (sizes_of r ≡ printed_sizes t (length buf)))

abbrev pub Prints : List ℕ → List ℕ → Result ℕ TooSmall → List ℕ → Type 0
Prints t buf r buf' = Copies t buf r buf' × (length t ≤ most_text)

-- how a program prints that the buffer is too small
abbrev pub printed_need : TooSmall → List ℕ
printed_need small = codes "the text needs " ++ decimal small.needed ++ codes " bytes"
