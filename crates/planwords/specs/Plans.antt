-- The words `plan` and `room`: the bytes of a plan that numbers ask for. Assumes nothing.
use Rattle.std.specs.Prelude.{ℕ, ◌+◌, ◌-◌, ◌*◌, ◌/◌, ◌%◌, List, ◌++◌, not, cond, length, get_or, drop, replicate, ltb, eqb}
use Rattle.model.specs.Tables.{table}
use Rattle.model.specs.Listing.{text, refusal_line}
use Rattle.model.specs.Plan.{Plan, Entry}
use Rattle.model.specs.Calls.{Answer, accepted, refused}
use Rattle.model.specs.WrittenPlan.{bytes_of, written}
use Rattle.replies.specs.Lines.{cannot, hex}

-- how many flows are asked for
abbrev pub flows_asked : List ℕ → ℕ
flows_asked numbers = (length numbers - 3) / 4

-- RULES 20.4: the four numbers of a flow, after F, W and N
abbrev pub entry_asked : List ℕ → ℕ → Entry
entry_asked numbers i = record {
  share = get_or numbers (3 + 4 * i) 0;
  cells = get_or numbers (3 + 4 * i + 1) 0;
  source = get_or numbers (3 + 4 * i + 2) 0;
  destination = get_or numbers (3 + 4 * i + 3) 0;
}

-- RULES 20.4: F, W and N, and then the flows, any number of them
abbrev pub plan_asked : List ℕ → Plan
plan_asked numbers = record {
  slots = get_or numbers 0 0;
  frames = get_or numbers 1 0;
  buffer = get_or numbers 2 0;
  entries = table (flows_asked numbers) (entry_asked numbers);
}

-- RULES 20.4: the bytes in digits, or the refusal
abbrev pub file_line : Answer ℕ → Plan → List ℕ
file_line (accepted count) P = hex (bytes_of P) ++ text "\n"
file_line (refused number) P = refusal_line number

-- the plan that is asked for, written into a buffer of so many bytes
unfoldable pub in_room : (size : ℕ) → (numbers : List ℕ) → List ℕ
in_room size numbers =
    cond (ltb (length numbers) 3) (cannot "F, W or N is missing")
    -- RULES 20.6: a flow lacks a number
    (cond (not (eqb ((length numbers - 3) % 4) 0)) (cannot "each flow has a share, cells, a source and a destination: the numbers after N are no multiple of four")
    (file_line (written (plan_asked numbers) (replicate size 0)).answer (plan_asked numbers)))

-- every plan has room in 76 bytes
abbrev pub answer_to_plan : (numbers : List ℕ) → List ℕ
answer_to_plan numbers = in_room 76 numbers

-- RULES 20.4: the same in a buffer of the first number's bytes
unfoldable pub answer_to_room : (numbers : List ℕ) → List ℕ
answer_to_room numbers = cond (eqb (length numbers) 0) (cannot "the buffer's size is missing") (in_room (get_or numbers 0 0) (drop 1 numbers))
