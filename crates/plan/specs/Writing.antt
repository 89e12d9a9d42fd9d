-- What the writer answers, and what its parts leave. Assumes nothing.
use Rattle.std.specs.Prelude.{ℕ, ◌≤◌, ◌<◌, Result, Ok, Err, length, get_or, drop}
use mathlib.Core.List.{List, ◌++◌, flat_map}
use Rattle.plan.specs.declared.header.Header.{Header}
use Rattle.limits.specs.declared.Wanted.{Wanted}
use Rattle.limits.specs.declared.refusal.Refusal.{Refusal}
use Rattle.limits.specs.Refusals.{number}
use Rattle.limits.specs.Reading.{wanted_for, no_wanted}
use Rattle.model.specs.Tables.{table}
use Rattle.model.specs.Calls.{Answer, accepted, refused}
use Rattle.model.specs.WrittenPlan.{entry_bytes, ByteEntry}

-- the model's answer, with its value or number for each case: the count of bytes written, or the refusal
abbrev pub answer_of : Result ℕ Refusal → Answer ℕ
answer_of (Ok count) = accepted count
answer_of (Err refusal) = refused (number refusal)

-- ---- the parts

-- bytes stored at the start of a list
abbrev pub begun : (bytes before : List ℕ) → List ℕ
begun bytes before = bytes ++ drop (length bytes) before

-- the bytes of the first n entries
unfoldable pub flow_part : List Wanted → ℕ → List ℕ
flow_part entries n = flat_map entry_bytes (table n (λ i. wanted_for (get_or entries i no_wanted)))

pub record HeaderFits (h : Header) : Type 0 where
  pub total_fits : h.total < 65536
  pub count_fits : h.count < 65536
  pub offset_fits : h.offset < 65536
  pub slots_fit : h.slots < 65536
  pub frames_fit : h.frames < 65536
  pub buffer_fits : h.buffer < 65536

pub record ByteEntries (entries : List Wanted) (n : ℕ) : Type 0 where
  pub few : n ≤ 16
  pub bytes : (i : ℕ) → i < n → ByteEntry (wanted_for (get_or entries i no_wanted))
