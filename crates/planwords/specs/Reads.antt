-- The word `read`: the numbers of a plan's bytes. Assumes nothing.
use Rattle.std.specs.Prelude.{ℕ, zero, suc, Result, Ok, Err}
use mathlib.Core.List.{List, ◌∷◌, [], ◌++◌, flat_map}
use Rattle.model.specs.Listing.{text, refusal_line}
use Rattle.model.specs.Plan.{Plan, Entry, plan_of, refusal}
use Rattle.tokens.specs.declared.Fault.{Fault}
use Rattle.tokens.specs.Hexadecimal.{bytes_of, found_bytes}
use Rattle.replies.specs.Lines.{spaced, fault_line}

-- the four numbers of a flow
abbrev pub entry_numbers : Entry → List ℕ
entry_numbers e = e.share ∷ e.cells ∷ e.source ∷ e.destination ∷ []

-- F, W and N, and then the flows
unfoldable pub plan_numbers : Plan → List ℕ
plan_numbers P = P.slots ∷ P.frames ∷ P.buffer ∷ flat_map entry_numbers P.entries

unfoldable pub question : Plan → List ℕ
question P = text "plan" ++ flat_map spaced (plan_numbers P) ++ text "\n"

-- RULES 20.4: the question that asks for these bytes, or the refusal
unfoldable pub read_line : ℕ → Plan → List ℕ
read_line zero P = question P
read_line (suc r) P = refusal_line (suc r)

abbrev pub bytes_line : Result ℕ Fault → (bytes : List ℕ) → List ℕ
bytes_line (Ok n) bytes = read_line (refusal bytes) (plan_of bytes)
bytes_line (Err fault) bytes = fault_line fault

-- RULES 20.5: the answer to what stands after `read`
unfoldable pub digits_line : (digits : List ℕ) → List ℕ
digits_line digits = bytes_line (found_bytes digits) (bytes_of digits)
