-- Which lends are answered with a flow, and which resets are granted: those that their rules say, and no others. It names no link, only calls and
-- answers. Assumes nothing.
--
-- Demand 3 and fairness speak of lends that are answered, and of resets that are granted. A scheduler that refuses a lend to a flow with a slot to come, or
-- every reset, keeps both. This says which are refused.
use Rattle.std.specs.Prelude.{ℕ, ◌+◌, ◌^◌, ◌≤◌, ◌<◌, ◌≡◌, ◌↔◌, List}
use Rattle.model.specs.Plan.{Plan, flow_count, plan_of, refusal}
use Rattle.model.specs.Calls.{Call, LendAnswer, ResetAnswer, Event, History, requested, credited, ticked, lent, accepted, refused}
use Rattle.model.specs.History.{ticks, granted_up_to, lent_up_to, credited_up_to, owners_of}
use Rattle.model.specs.Claim.{Each}
use Rattle.model.specs.Fairness.{Waits}
use Rattle.model.specs.Scheduler.{Scheduler, run}

-- ---- lends

-- RULES 22.14: after h the current slot can be lent to a flow of the mask: it was neither granted nor lent, and some flow of the mask has room from it on.
pub record Lendable (P : Plan) (mask : ℕ) (h : History) : Type 0 where
  pub mask_below : mask < 2 ^ flow_count P
  pub idle : owners_of P h (ticks h) ≡ 0
  pub taker : ℕ
  pub known : taker < flow_count P
  pub waits : Waits P taker mask h

-- Q holds of the mask and the answer, where the event is a lend.
abbrev pub AtLend : ((mask : ℕ) → LendAnswer → History → Type 0) → Event → History → Type 0
AtLend Q (requested w a) h = Unit {0}
AtLend Q (credited i p a) h = Unit {0}
AtLend Q (ticked x) h = Unit {0}
AtLend Q (lent mask a) h = Q mask a h
AtLend Q (Event.reset a) h = Unit {0}

abbrev pub IsLent : LendAnswer → Type 0
IsLent (accepted i) = Unit {0}
IsLent (refused r) = ⊥

-- RULES 22.14: a lend is answered with a flow exactly if there is one that can take the slot.
abbrev pub LendAnsweredAt : Plan → Event → History → Type 0
LendAnsweredAt P = AtLend (λ mask a h. IsLent a ↔ Lendable P mask h)

-- of a scheduler, for the bytes of every accepted plan. That the reference scheduler keeps it is `lends-answered`, in proofs/AnsweredLends.antt.
abbrev pub LendAnswered : Scheduler → Type 0
LendAnswered c = (bytes : List ℕ) → refusal bytes ≡ 0 → (calls : List Call) → Each (LendAnsweredAt (plan_of bytes)) (run c (plan_of bytes) calls).history

-- ---- resets

-- RULES 22.14: after h no slot to come was granted, and no flow holds anything from the current slot on.
pub record AtRest (P : Plan) (h : History) : Type 0 where
  pub none_booked : (s : ℕ) → ticks h < s → owners_of P h s ≡ 0
  pub none-held : (i : ℕ) → i < flow_count P → (s : ℕ) → ticks h ≤ s → granted_up_to P h i s + lent_up_to h i s ≤ credited_up_to P h i s

-- Q holds of the answer, where the event is a reset.
abbrev pub AtReset : (ResetAnswer → History → Type 0) → Event → History → Type 0
AtReset Q (requested w a) h = Unit {0}
AtReset Q (credited i p a) h = Unit {0}
AtReset Q (ticked x) h = Unit {0}
AtReset Q (lent mask a) h = Unit {0}
AtReset Q (Event.reset a) h = Q a h

abbrev pub IsReset : ResetAnswer → Type 0
IsReset (accepted u) = Unit {0}
IsReset (refused r) = ⊥

-- RULES 22.14: a reset is granted exactly if nothing is booked to come, and nothing held.
abbrev pub ResetGrantedAt : Plan → Event → History → Type 0
ResetGrantedAt P = AtReset (λ a h. IsReset a ↔ AtRest P h)

-- of a scheduler, for the bytes of every accepted plan. That the reference scheduler keeps it is `resets-granted`, in proofs/GrantedResets.antt.
abbrev pub ResetGranted : Scheduler → Type 0
ResetGranted c = (bytes : List ℕ) → refusal bytes ≡ 0 → (calls : List Call) → Each (ResetGrantedAt (plan_of bytes)) (run c (plan_of bytes) calls).history
