-- What a call of the code comes to, against what the model's call hands back. Assumes nothing.
use Rattle.std.specs.Prelude.{ℕ, ◌≡◌, List, cond, eqb}
use Rattle.model.specs.Word.{departure_of, depart}
use Rattle.model.specs.Calls as calls
use Rattle.model.specs.Calls.{Grant, accepted, refused}
use Rattle.calls.specs.declared.Answer.{Answer}
use Rattle.calls.specs.declared.Answer.TheVariants.{Granted, Accepted, Refused}
use Rattle.model.specs.Link as model
use Rattle.plan.specs.declared.Plan.{Plan}
use Rattle.link.specs.declared.Link.{Link}
use Rattle.link.specs.declared.Step.{Step}
use Rattle.link.specs.declared.request.Reply.{Reply}
use Rattle.link.specs.Parts.{Parts, parts_in}
use Rattle.link.specs.Reading.{link_of}
use Rattle.link.specs.Sound.{Sound, SoundState}

-- a link of the model, read of a plan and a state
abbrev pub read_in : Plan → List ℕ → model.Link
read_in plan s = link_of (parts_in plan s)

abbrev pub read_of : Link → model.Link
read_of l = read_in l.plan l.state

-- the state has the model's next link and is sound again, and the answer is the model's, as the code has it
pub record Went {A B : Type 0} (to_answer : A → B) (m : model.Step A) (plan : Plan) (after : List ℕ) (answer : B) : Type 0 where
  pub link_is : read_in plan after ≡ m.link
  pub answer_is : answer ≡ to_answer m.answer
  pub sound : SoundState plan after

-- r has the model's next link and its answer, and the link is sound again
abbrev pub Stepped : {A : Type 0} (to_answer : A → Answer) (m : model.Step A) (r : Step) → Type 0
Stepped to_answer m r = Went to_answer m r.link.plan r.link.state r.answer

-- the same of a link taken apart
pub record SteppedParts {A B : Type 0} (to_answer : A → B) (m : model.Step A) (l : Parts) (answer : B) : Type 0 where
  pub link_is : link_of l ≡ m.link
  pub answer_is : answer ≡ to_answer m.answer
  pub sound : Sound l

-- ---- answers as numbers

-- 0, or the number of the refusal
abbrev pub number_of : {A : Type 0} → calls.Answer A → ℕ
number_of (accepted a) = 0
number_of (refused number) = number

-- 0 and the position granted, or the number of the refusal and 0
abbrev pub reply_of : Grant → Reply
reply_of (accepted word) = record { number = 0; position = departure_of word }
reply_of (refused number) = record { number = number; position = 0 }

-- the answer to a credit, from its number
abbrev pub credit_answer : ℕ → Answer
credit_answer n = cond (eqb n 0) Accepted (Refused n)

-- the answer to word x, from what its request comes to
abbrev pub request_answer : (x : ℕ) → Reply → Answer
request_answer x r = cond (eqb r.number 0) (Granted (depart x r.position)) (Refused r.number)
