-- The exported calls on bytes. RULES 12.4 to 12.6. Assumes nothing.
use Rattle.std.specs.Prelude.{ℕ, zero, suc, ◌*◌, ◌^◌, ◌≡◌, List, ◌∷◌, [], ◌++◌, not, length, drop, ltb, eqb}
use Rattle.std.proofs.Math.Option.{some, none}
use Rattle.model.specs.Refusals.{Line, first_of, ◌when◌}
use Rattle.model.specs.Plan.{plan_of, refusal}
use Rattle.model.specs.Calls.{Call, Answer, Grant, CreditAnswer, TickAnswer, LendAnswer, ResetAnswer, accepted, refused}
use Rattle.model.specs.Link.{Link, Step}
use Rattle.model.specs.Fresh as fresh
use Rattle.model.specs.Request as request
use Rattle.model.specs.Credit as credit
use Rattle.model.specs.Tick as tick
use Rattle.model.specs.Lend as lend
use Rattle.model.specs.Reset as reset
use Rattle.imagemodel.specs.Image.{image_length, image_of, link_in}
use Rattle.imagemodel.specs.ValidImage.{refusal_of}

-- what an exported call leaves in the buffer, and its answer
pub record Called : Type 0 where
  pub buffer : List ℕ
  pub result : ℕ

-- this number and this buffer are what was handed back
abbrev pub HandsBack : Called → (r : ℕ) (after : List ℕ) → Type 0
HandsBack called r after = (r ≡ called.result) × (after ≡ called.buffer)

-- ---- RULES 12.6: one number of 64 bits

-- RULES 12.6: a refusal, above the low 32 bits
abbrev pub refusal_number : ℕ → ℕ
refusal_number number = number * 2 ^ 32

-- RULES 12.6: else what is answered, as a number
abbrev pub number_of : {A : Type 0} → (A → ℕ) → Answer A → ℕ
number_of f (accepted x) = f x
number_of f (refused number) = refusal_number number

-- RULES 12.6: the granted word
abbrev pub grant_number : Grant → ℕ
grant_number = number_of (λ word. word)

-- RULES 12.6: 0, as for fresh
abbrev pub credit_number : CreditAnswer → ℕ
credit_number = number_of (λ _. 0)

-- RULES 12.6: the flow, and 16 for nobody
abbrev pub tick_number : TickAnswer → ℕ
tick_number (some flow) = flow
tick_number none = 16

-- RULES 12.6: the flow that it is lent to
abbrev pub lend_number : LendAnswer → ℕ
lend_number = number_of (λ flow. flow)

-- 0 for a reset, as for a credit
abbrev pub reset_number : ResetAnswer → ℕ
reset_number = number_of (λ _. 0)

-- ---- a call on the link itself: the next link, and the answer's number

pub record Done : Type 0 where
  pub link : Link
  pub number : ℕ

abbrev pub done : {A : Type 0} → (A → ℕ) → Step A → Done
done number handed = record { link = handed.link; number = number handed.answer }

abbrev pub on_link : Link → Call → Done
on_link l (Call.request w) = done grant_number (request.request l w)
on_link l (Call.credit i p) = done credit_number (credit.credit l i p)
on_link l Call.tick = done tick_number (tick.tick l)
on_link l (Call.lend mask) = done lend_number (lend.lend l mask)
on_link l Call.reset = done reset_number (reset.reset l)

-- ---- the buffer

-- RULES 12.4: a link's image, and behind it the buffer's own bytes
abbrev pub written_to : List ℕ → Link → List ℕ
written_to b l = image_of l ++ drop (image_length l.plan) b

-- RULES 12.4: what is handed back, where the tests of the buffer gave the number r, which leaves each byte
unfoldable pub handed_back : ℕ → List ℕ → Done → Called
handed_back zero b d = record { buffer = written_to b d.link; result = d.number }
handed_back (suc r) b d = record { buffer = b; result = refusal_number (suc r) }

-- ---- the exported calls

-- RULES 12.5: the plan's own tests, and then 21 by the plan's image
abbrev pub fresh_tests : (plan b : List ℕ) → List Line
fresh_tests plan b =
    refusal plan when not (eqb (refusal plan) 0)
    ∷ 21 when ltb (length b) (image_length (plan_of plan))
    ∷ []

unfoldable pub fresh_on : (plan b : List ℕ) → Called
fresh_on plan b = handed_back (first_of (fresh_tests plan b)) b (record { link = fresh.fresh (plan_of plan); number = 0 })

-- RULES 12.4: the call on the link that the image is of, and the next link's image
unfoldable pub called_on : List ℕ → Call → Called
called_on b c = handed_back (refusal_of b) b (on_link (link_in b) c)

abbrev pub request_on : List ℕ → (word : ℕ) → Called
request_on b w = called_on b (Call.request w)

abbrev pub credit_on : List ℕ → (flow position : ℕ) → Called
credit_on b i p = called_on b (Call.credit i p)

abbrev pub tick_on : List ℕ → Called
tick_on b = called_on b Call.tick

abbrev pub lend_on : List ℕ → (mask : ℕ) → Called
lend_on b mask = called_on b (Call.lend mask)

abbrev pub reset_on : List ℕ → Called
reset_on b = called_on b Call.reset
