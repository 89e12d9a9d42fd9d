-- Plans written as bytes, and refusal 19. RULES 15.1 to 15.3. Assumes nothing.
use Rattle.std.specs.Prelude.{ℕ, zero, suc, ◌+◌, ◌*◌, ◌/◌, ◌%◌, ◌<◌, length, get_or, drop, ltb}
use mathlib.Core.List.{List, ◌∷◌, [], ◌++◌, flat_map}
use Rattle.model.specs.Refusals.{Line, first_of, ◌when◌}
use Rattle.model.specs.Plan.{Plan, Entry, Header, flow_count, entry, count_test, limit_tests}
use Rattle.model.specs.Calls.{Answer, accepted, refused}

-- ---- the bytes of a plan

-- RULES 1.2: a field's two bytes
abbrev pub field : ℕ → List ℕ
field x = x % 256 ∷ x / 256 ∷ []

-- RULES 2.2: the header's bytes
abbrev pub header_bytes : Header → List ℕ
header_bytes h = field h.total ++ field h.count ++ field h.offset ++ field h.slots ++ field h.frames ++ field h.buffer

-- RULES 2.2: an entry's bytes
abbrev pub entry_bytes : Entry → List ℕ
entry_bytes e = e.share ∷ e.cells ∷ e.source ∷ e.destination ∷ []

-- the header that is written for a plan: the length is 12 + 4n and the offset 12
abbrev pub header_for : Plan → Header
header_for P = record {
  total = 12 + 4 * flow_count P;
  count = flow_count P;
  offset = 12;
  slots = P.slots;
  frames = P.frames;
  buffer = P.buffer;
}

-- RULES 15.2 and 15.3: the plan's bytes, which are read as the same plan
unfoldable pub bytes_of : Plan → List ℕ
bytes_of P = header_bytes (header_for P) ++ flat_map entry_bytes P.entries

-- ---- the refusals

-- RULES 15.1: the tests 2 to 7, on the numbers themselves
abbrev pub number_tests : Plan → List Line
number_tests P = count_test (header_for P) ∷ limit_tests P

-- RULES 15.1: test 19
abbrev pub room_test : Plan → (out : List ℕ) → Line
room_test P out = 19 when ltb (length out) (length (bytes_of P))

-- RULES 15.1: the refusal, and 0 where the plan is written: 19 comes last
unfoldable pub write_refusal : Plan → (out : List ℕ) → ℕ
write_refusal P out = first_of (number_tests P ++ (room_test P out ∷ []))

-- ---- what is written

-- RULES 15.2: what the writer hands back: how many bytes it wrote, or the refusal, and the lent buffer
pub record Written : Type 0 where
  pub answer : Answer ℕ
  pub out : List ℕ

-- the plan in the buffer, where the tests give a number
unfoldable pub written_after : ℕ → Plan → (out : List ℕ) → Written
-- the buffer's own bytes follow
written_after zero P out = record { answer = accepted (length (bytes_of P)); out = bytes_of P ++ drop (length (bytes_of P)) out }
-- the buffer as it came
written_after (suc r) P out = record { answer = refused (suc r); out = out }

unfoldable pub written : Plan → (out : List ℕ) → Written
written P out = written_after (write_refusal P out) P out

-- ---- numbers that fit their fields

pub record AllBytes (b : List ℕ) : Type 0 where
  pub byte : (i : ℕ) → get_or b i 0 < 256

pub record ByteEntry (e : Entry) : Type 0 where
  pub share_fits : e.share < 256
  pub cells_fit : e.cells < 256
  pub source_fits : e.source < 256
  pub destination_fits : e.destination < 256

pub record FitsFields (P : Plan) : Type 0 where
  pub total_fits : 12 + 4 * flow_count P < 65536
  pub slots_fit : P.slots < 65536
  pub frames_fit : P.frames < 65536
  pub buffer_fits : P.buffer < 65536
  pub entries_fit : (i : ℕ) → i < flow_count P → ByteEntry (entry P i)
