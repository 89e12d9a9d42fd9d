-- A burst: several requests in a single call. RULES 11.1 and 11.2. Assumes nothing.
use Rattle.std.specs.Prelude.{ℕ, List, ◌∷◌, [], ◌++◌, take, drop}
use Rattle.model.specs.Word.{departure_of}
use Rattle.model.specs.Calls.{Grant, accepted, refused}
use Rattle.model.specs.Link.{Link}
use Rattle.model.specs.Request.{request}

-- RULES 11.1: a record, in which a word is asked for
pub record BurstRecord : Type 0 where
  pub word : ℕ
  pub result : ℕ
  pub position : ℕ

-- what a burst hands back: the next link, and the records that it was lent
pub record Burst : Type 0 where
  pub link : Link
  pub records : List BurstRecord

-- RULES 11.2: the result, 0 or a refusal
abbrev pub result_of : Grant → ℕ
result_of (accepted word) = 0
result_of (refused number) = number

-- RULES 11.2: the position that was booked, which is the granted word's departure, or 0
abbrev pub position_of : Grant → ℕ
position_of (accepted word) = departure_of word
position_of (refused number) = 0

-- RULES 11.2: record x with the answer to its request; its word stays
abbrev pub filled : BurstRecord → Grant → BurstRecord
filled x a = record { word = x.word; result = result_of a; position = position_of a }

abbrev pub in_front : BurstRecord → Burst → Burst
in_front x b = record { link = b.link; records = x ∷ b.records }

-- RULES 11.1: each record is a request on the link that the one before left
unfoldable pub in_order : Link → List BurstRecord → Burst
in_order l [] = record { link = l; records = [] }
in_order l (x ∷ xs) =
    let first = request l x.word in
    in_front (filled x first.answer) (in_order first.link xs)

-- RULES 11.1: how many are handled
abbrev pub most_records : ℕ
most_records = 16

-- RULES 11.1: the first 16 are handled
unfoldable pub burst : Link → List BurstRecord → Burst
burst l xs =
    let handled = in_order l (take most_records xs) in
    record { link = handled.link; records = handled.records ++ drop most_records xs }
