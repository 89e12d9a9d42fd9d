-- A chain of exported calls. RULES 12.7. Assumes nothing.
use Rattle.std.specs.Prelude.{ℕ, ◌/◌, ◌^◌, ◌≡◌, List, ◌∷◌, [], ◌++◌, cond, take, ltb, eqb}
use Rattle.std.proofs.Math.Option.{some, none}
use Rattle.model.specs.Calls.{Call, Answer, TickAnswer, Event, History, requested, credited, ticked, lent, accepted, refused}
use Rattle.imagemodel.specs.Image.{header_field}
use Rattle.imagemodel.specs.Exports.{fresh_on, called_on}

-- ---- the event of a call, from the 64-bit number that answers it

-- a number of 2 to the power 32 or more is a refusal's; else the answer is x
abbrev pub answer_of : {A : Type 0} → A → ℕ → Answer A
answer_of x number = cond (ltb number (2 ^ 32)) (accepted x) (refused (number / 2 ^ 32))

-- a tick's: 16 for idle
abbrev pub tick_answer_of : ℕ → TickAnswer
tick_answer_of number = cond (eqb number 16) none (some number)

abbrev pub event_of : Call → (number : ℕ) → Event
event_of (Call.request w) number = requested w (answer_of number number)
event_of (Call.credit i p) number = credited i p (answer_of tt number)
event_of Call.tick number = ticked (tick_answer_of number)
event_of (Call.lend mask) number = lent mask (answer_of number number)
event_of Call.reset number = Event.reset (answer_of tt number)

-- ---- the chain

-- the image in a buffer, without the bytes past it
abbrev pub image_in : List ℕ → List ℕ
image_in b = take (header_field b 0) b

-- RULES 12.7: these calls were made, oldest first; their numbers give this history; and this buffer is in hand. The next call gets any buffer with
-- the same image: what stands past it, and how long the buffer is, may differ.
pub data Chain (plan : List ℕ) : List Call → History → List ℕ → Type 0 where
  starts : (b : List ℕ) → (fresh_on plan b).result ≡ 0 → Chain plan [] [] (fresh_on plan b).buffer
  goes_on : {calls : List Call} {h : History} {b : List ℕ} → Chain plan calls h b → (c : List ℕ) → image_in c ≡ image_in b → (call : Call)
      → Chain plan (calls ++ (call ∷ [])) (event_of call (called_on c call).result ∷ h) (called_on c call).buffer
