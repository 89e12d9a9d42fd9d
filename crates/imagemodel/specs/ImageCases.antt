-- What an edge case of images is: what is tried, and what is to come of it. Assumes nothing.
use Rattle.std.specs.Prelude.{ℕ, ◌+◌, ◌*◌, ◌/◌, ◌%◌, ◌≡◌, List, ◌∷◌, [], map, set}
use Rattle.model.specs.Plan.{plan_of}
use Rattle.model.specs.Calls.{Call}
use Rattle.imagemodel.specs.Image.{image_length}
use Rattle.imagemodel.specs.ValidImage.{refusal_of}
use Rattle.imagemodel.specs.Exports.{Called, refusal_number, fresh_on, called_on}

-- ---- what is tried, and what comes of it

pub data Trial : Type 0 where
  -- the length of a plan's images
  measuring : (plan : List ℕ) → Trial
  -- a buffer, tested
  testing : (buffer : List ℕ) → Trial
  -- fresh, from a plan's bytes
  starting : (plan buffer : List ℕ) → Trial
  -- a call on the image in a buffer
  calling : (buffer : List ℕ) → Call → Trial
  -- fresh in a buffer, and then calls, each on the buffer that the call before left
  chaining : (plan buffer : List ℕ) → List Call → Trial

pub data Outcome : Type 0 where
  -- the length, or the refusal of a buffer
  number : ℕ → Outcome
  -- what is left in the buffer, and the answer
  handed : Called → Outcome
  -- the answers, and what is left in the buffer
  answers : List ℕ → (buffer : List ℕ) → Outcome

-- the answers of calls, and the last buffer
abbrev results : List ℕ → List Call → List ℕ
results b [] = []
results b (c ∷ cs) = (called_on b c).result ∷ results (called_on b c).buffer cs

abbrev buffer_after : List ℕ → List Call → List ℕ
buffer_after b [] = b
buffer_after b (c ∷ cs) = buffer_after (called_on b c).buffer cs

abbrev pub outcome : Trial → Outcome
outcome (measuring plan) = number (image_length (plan_of plan))
outcome (testing b) = number (refusal_of b)
outcome (starting plan b) = handed (fresh_on plan b)
outcome (calling b c) = handed (called_on b c)
outcome (chaining plan b cs) = answers (results (fresh_on plan b).buffer cs) (buffer_after (fresh_on plan b).buffer cs)

pub record Case : Type 0 where
  pub trial : Trial
  pub expected : Outcome

abbrev pub Pass : List Case → Type 0
Pass cases = map (λ e. outcome e.trial) cases ≡ map (λ e. e.expected) cases

-- ---- images of the listing's plan, two flows and eight positions: 98 bytes

-- as fresh writes it
abbrev pub blank : List ℕ
blank =
    -- RULES 12.1: the six fields of the plan, CP, the mark, the flow to look from
    0x62 ∷ 0x00 ∷ 0x12 ∷ 0x00 ∷ 0x26 ∷ 0x00 ∷ 0x08 ∷ 0x00 ∷ 0x36 ∷ 0x00 ∷ 0x02 ∷ 0x00 ∷ 0x00 ∷ 0x00 ∷ 0x00 ∷ 0x00 ∷ 0x00 ∷ 0x00
    -- the plan
    ∷ 0x14 ∷ 0x00 ∷ 0x02 ∷ 0x00 ∷ 0x0C ∷ 0x00 ∷ 0x04 ∷ 0x00 ∷ 0x02 ∷ 0x00 ∷ 0x04 ∷ 0x00
    ∷ 0x02 ∷ 0x02 ∷ 0x01 ∷ 0x09 ∷ 0x02 ∷ 0x02 ∷ 0x02 ∷ 0x09
    -- owners
    ∷ 0x10 ∷ 0x00 ∷ 0x10 ∷ 0x00 ∷ 0x10 ∷ 0x00 ∷ 0x10 ∷ 0x00 ∷ 0x10 ∷ 0x00 ∷ 0x10 ∷ 0x00 ∷ 0x10 ∷ 0x00 ∷ 0x10 ∷ 0x00
    -- flow 0: IF, C, holdings, expected number
    ∷ 0x00 ∷ 0x00 ∷ 0x02 ∷ 0x00
    ∷ 0x00 ∷ 0x00 ∷ 0x00 ∷ 0x00 ∷ 0x00 ∷ 0x00 ∷ 0x00 ∷ 0x00 ∷ 0x00 ∷ 0x00 ∷ 0x00 ∷ 0x00 ∷ 0x00 ∷ 0x00 ∷ 0x00 ∷ 0x00
    ∷ 0x00 ∷ 0x00
    -- flow 1
    ∷ 0x00 ∷ 0x00 ∷ 0x02 ∷ 0x00
    ∷ 0x00 ∷ 0x00 ∷ 0x00 ∷ 0x00 ∷ 0x00 ∷ 0x00 ∷ 0x00 ∷ 0x00 ∷ 0x00 ∷ 0x00 ∷ 0x00 ∷ 0x00 ∷ 0x00 ∷ 0x00 ∷ 0x00 ∷ 0x00
    ∷ 0x00 ∷ 0x00
    ∷ []

-- a field that is changed, by its place in that image
pub data Change : Type 0 where
  total plan_offset positions_offset position_count flows_offset flow_count current mark turn : (x : ℕ) → Change
  owner : (position x : ℕ) → Change
  frame left expected : (flow x : ℕ) → Change
  held : (flow position x : ℕ) → Change

abbrev place : Change → ℕ
place (total x) = 0
place (plan_offset x) = 2
place (positions_offset x) = 4
place (position_count x) = 6
place (flows_offset x) = 8
place (flow_count x) = 10
place (current x) = 12
place (mark x) = 14
place (turn x) = 16
place (owner p x) = 38 + 2 * p
place (frame i x) = 54 + 22 * i
place (left i x) = 56 + 22 * i
place (held i p x) = 58 + 22 * i + 2 * p
place (expected i x) = 74 + 22 * i

abbrev value : Change → ℕ
value (total x) = x
value (plan_offset x) = x
value (positions_offset x) = x
value (position_count x) = x
value (flows_offset x) = x
value (flow_count x) = x
value (current x) = x
value (mark x) = x
value (turn x) = x
value (owner p x) = x
value (frame i x) = x
value (left i x) = x
value (held i p x) = x
value (expected i x) = x

-- the fresh image, changed
abbrev pub image : List Change → List ℕ
image [] = blank
image (c ∷ cs) = set (set (image cs) (place c) (value c % 256)) (place c + 1) (value c / 256)

-- ---- cases

abbrev pub measures : (plan : List ℕ) → ℕ → Case
measures plan size = record { trial = measuring plan; expected = number size }

-- the image with these changes is taken, or is refused with 22
abbrev pub passes : List Change → Case
passes cs = record { trial = testing (image cs); expected = number 0 }

abbrev pub fault : List Change → Case
fault cs = record { trial = testing (image cs); expected = number 22 }

-- a buffer gives this number
abbrev pub gives : ℕ → List ℕ → Case
gives r b = record { trial = testing b; expected = number r }

-- a call on a buffer leaves this buffer and answers this number
abbrev pub leaves : List ℕ → Call → (buffer : List ℕ) → (answer : ℕ) → Case
leaves b c buffer answer = record { trial = calling b c; expected = handed (record { buffer = buffer; result = answer }) }

-- a call that is refused and leaves the buffer as it came
abbrev pub turns_back : List ℕ → Call → (number : ℕ) → Case
turns_back b c r = leaves b c b (refusal_number r)

abbrev pub freshly : (plan buffer after : List ℕ) → (answer : ℕ) → Case
freshly plan b after answer = record { trial = starting plan b; expected = handed (record { buffer = after; result = answer }) }

abbrev pub chained : (plan buffer : List ℕ) → List Call → (numbers after : List ℕ) → Case
chained plan b cs numbers after = record { trial = chaining plan b cs; expected = answers numbers after }
