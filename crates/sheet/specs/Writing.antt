-- Writing a sheet: document 01, "Filling in" ("Writing fills the first 60 + 20 × n bytes, gives that number, and touches no later byte") and
-- "Order"; document 02, S-1, S-8 ("The writer writes version 2 only and needs 64 + 20 × n bytes") and S-10.
use Rattle.fields.specs.declared.refusal.Refusal.{Refusal}
use Rattle.std.specs.Prelude.{cond, List, [], ◌∷◌, ◌++◌, ℕ, ltb, eqb, length, drop, Result, Ok, Err}
use Rattle.fields.specs.Refusal.{plain, code_of}
use Rattle.fields.specs.declared.refusal.Code.{Code}
use Rattle.fields.specs.declared.refusal.Refusal.TheVariants.{BufferTooShort}
use Rattle.fields.specs.Order.{Answer, Condition, ◌when◌, first_of, first_code}
use Rattle.flaws.specs.Flaws.{size_discontinued}
use Rattle.entries.specs.declared.sheet.Sheet.{Sheet}
use Rattle.layout.specs.declared.version.Version.TheVariants.{Two}
use Rattle.layout.specs.Layout.{whole_length, layout}
use Rattle.sheet.specs.Complete.{complete_order, entries_of, courses_of}
use Rattle.entries.specs.declared.complete.Entries.{Entries}

-- the bytes of a complete sheet, and how many
unfoldable pub bytes_of : Entries → List ℕ
bytes_of e = layout Two e.tank e.site e.anchors (courses_of e)

abbrev pub size_of : Entries → ℕ
size_of e = whole_length Two e.count

-- 19: "buffer shorter than 60 + 20 × n", "by the new size"
abbrev pub no_room : Entries → ℕ → Condition
no_room e room = BufferTooShort when ltb room (size_of e)

-- what the entries of a complete sheet are refused for: 39 for size 6, "when writing, straight after 38", then 19
abbrev pub entries_order : Entries → ℕ → List Condition
entries_order e room = size_discontinued e.anchors ∷ no_room e room ∷ []

-- Write: 30, 32, 35, 36, 38, 39, 19.
abbrev pub write_order : Sheet → ℕ → List Condition
write_order s room = complete_order s [] (entries_order (entries_of s) room)

-- The answer, and the whole content of the buffer after it: no byte past the sheet's is touched, and after a refusal none at all.
pub record WriteReply : Type 0 where
  pub answer : Result ℕ Refusal
  pub buffer : List ℕ

abbrev pub write_reply : Answer → Entries → List ℕ → WriteReply
write_reply (Ok u) e buf = record { answer = Ok (size_of e); buffer = bytes_of e ++ drop (size_of e) buf }
write_reply (Err r) e buf = record { answer = Err r; buffer = buf }

unfoldable pub written : Sheet → List ℕ → WriteReply
written s buf = write_reply (first_of (write_order s (length buf))) (entries_of s) buf

-- of the entries of a complete sheet
unfoldable pub written_entries : Entries → List ℕ → WriteReply
written_entries e buf = write_reply (first_of (entries_order e (length buf))) e buf

-- The code of each case of the answer: 0 and the number of bytes, or the refusal's number and field.
pub record WriteCode : Type 0 where
  pub code : Code
  pub bytes : ℕ

abbrev pub write_code : Result ℕ Refusal → WriteCode
write_code (Ok n) = record { code = plain 0; bytes = n }
write_code (Err r) = record { code = code_of r; bytes = 0 }

unfoldable pub written_code : Sheet → ℕ → WriteCode
written_code s room =
    let p = first_code (write_order s room) in record { code = p; bytes = cond (eqb p.number 0) (size_of (entries_of s)) 0 }
