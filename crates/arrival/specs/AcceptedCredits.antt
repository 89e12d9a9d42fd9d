-- Which credits are taken: those of cells that their flow holds, and no others. It names no link, only calls and answers. Assumes nothing.
--
-- What cells that are given back are good for (SharesOfCells.antt and the files after it) is said of credits that are taken. This says which are: so a flow
-- that holds a cell in some slot and in every later one can give it back, dated that slot.
use Rattle.std.specs.Prelude.{ℕ, ◌+◌, ◌≤◌, ◌<◌, ◌≡◌, ◌↔◌, List, false}
use Rattle.model.specs.Plan.{Plan, positions, flow_count, plan_of, refusal}
use Rattle.model.specs.Calls.{Call, CreditAnswer, Event, History, requested, credited, ticked, lent, accepted, refused}
use Rattle.model.specs.History.{ticks, slot_after, has_come, granted_up_to, lent_up_to, credited_up_to}
use Rattle.model.specs.Claim.{Each}
use Rattle.model.specs.Scheduler.{Scheduler, run}

-- after h, flow i holds more than 0 in every slot from slot s on
abbrev pub HoldsFrom : Plan → (i s : ℕ) → History → Type 0
HoldsFrom P i s h = (r : ℕ) → s ≤ r → credited_up_to P h i r < granted_up_to P h i r + lent_up_to h i r

-- After h flow i can give back a cell from position p on: both are the plan's, the position is later than CP, and the flow holds one there and in every
-- later slot.
pub record GivesBackFrom (P : Plan) (i p : ℕ) (h : History) : Type 0 where
  pub known : i < flow_count P
  pub position : p < positions P
  pub later : has_come P (ticks h) p ≡ false
  pub holds : HoldsFrom P i (slot_after P (ticks h) p) h

-- Q holds of the flow, the position and the answer, where the event is a credit.
abbrev pub AtCredit : ((i p : ℕ) → CreditAnswer → History → Type 0) → Event → History → Type 0
AtCredit Q (requested w a) h = Unit {0}
AtCredit Q (credited i p a) h = Q i p a h
AtCredit Q (ticked x) h = Unit {0}
AtCredit Q (lent m a) h = Unit {0}
AtCredit Q (Event.reset a) h = Unit {0}

abbrev pub IsAccepted : CreditAnswer → Type 0
IsAccepted (accepted u) = Unit {0}
IsAccepted (refused r) = ⊥

-- RULES 22.12: a credit is taken exactly if the flow holds a cell from its date on.
abbrev pub CreditAcceptedAt : Plan → Event → History → Type 0
CreditAcceptedAt P = AtCredit (λ i p a h. IsAccepted a ↔ GivesBackFrom P i p h)

-- of a scheduler, for the bytes of every accepted plan. That the reference scheduler keeps it is `credits_accepted`, in proofs/AcceptedCredits.antt.
abbrev pub CreditAccepted : Scheduler → Type 0
CreditAccepted c = (bytes : List ℕ) → refusal bytes ≡ 0 → (calls : List Call) → Each (CreditAcceptedAt (plan_of bytes)) (run c (plan_of bytes) calls).history
