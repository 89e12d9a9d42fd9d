-- The least count with other premises on a stream's words: on the tiles that they name, and on their numbers (RULES 21.8). Assumes nothing.
use Rattle.std.specs.Prelude.{ℕ, ◌+◌, ◌-◌, ◌*◌, ◌%◌, ◌≤◌, ◌<◌, ◌≡◌, List, true}
use Rattle.model.specs.Word.{flow_of, quantum_of, departure_of, quantum_numbers}
use Rattle.model.specs.Plan.{Plan, flow_count, entry, plan_of, refusal}
use Rattle.model.specs.Calls.{Call, Event, History}
use Rattle.model.specs.History.{ticks, well_formed, has_come, changes, granted, expected_number}
use Rattle.model.specs.Claim.{EachSince, AtRequest, Room, RefusedInEachFrame}
use Rattle.model.specs.Scheduler.{run, reference}

-- A premise on a request of flow i with word w, after h.
abbrev pub Premise : Type 1
Premise = Plan → (i w : ℕ) → History → Type 0

abbrev pub Both : Premise → Premise → Premise
Both Q R P i w h = Q P i w h × R P i w h

-- At a well-formed request of flow i it has room, and its word is as Q says.
abbrev pub ReadyBy : Premise → Plan → ℕ → Event → History → Type 0
ReadyBy Q P i = AtRequest (λ w h. well_formed P w ≡ true → flow_of w ≡ i → Room P i h × Q P i w h)

-- the premise of the least count, with Q in the place of what the claim says of words
pub record PersistentBy (Q : Premise) (P : Plan) (i : ℕ) (h : History) : Type 0 where
  pub refused_in_each_frame : RefusedInEachFrame P i h
  pub ready_at_each_request : EachSince (ReadyBy Q P i) h

-- the least count of the reference scheduler for such a stream
abbrev pub LeastBy : Premise → Type 0
LeastBy Q = (bytes : List ℕ) → refusal bytes ≡ 0 → (calls : List Call) (i : ℕ) → i < flow_count (plan_of bytes)
    → PersistentBy Q (plan_of bytes) i (run reference (plan_of bytes) calls).history
    → ((plan_of bytes).frames - 1 + changes (plan_of bytes) (run reference (plan_of bytes) calls).history) * (entry (plan_of bytes) i).share
    ≤ granted (plan_of bytes) (run reference (plan_of bytes) calls).history i

-- what the claim says of a word: its tile has come, and it carries the expected number
abbrev pub Come : Premise
Come P i w h = has_come P (ticks h) (departure_of w) ≡ true

abbrev pub Numbered : Premise
Numbered P i w h = quantum_of w ≡ expected_number P h i

-- a slot at the position of its departure is current or gone by: slot d is the first
abbrev pub SlotGone : Premise
SlotGone P i w h = departure_of w ≤ ticks h

-- it carries the number of grants since the last granted reset, modulo 1,024
abbrev pub NumberedSince : Premise
NumberedSince P i w h = quantum_of w ≡ granted P h i % quantum_numbers
