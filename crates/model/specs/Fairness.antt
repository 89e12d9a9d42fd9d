-- What lending in turn gives each flow, so that none gets more detail than another that waits. RULES 21.10. It names no link, only calls and answers.
-- Assumes nothing.
--
-- A stretch of a list is a number of its events in a row, the first of them right after those of `early`. A flow waits in it if at each lend that is
-- answered with a flow, whichever that is, it is in the mask and can take the slot. In a stretch with no granted reset:
-- - between two lends to one flow, every other flow that waits from the first of them on is lent to at least once;
-- - no flow is lent to more than once more than one that waits, so that two that wait are lent to as often as each other, or one of them once more;
-- - of n lends in a row that are answered with a flow, at least one goes to each flow that waits.
--
-- Its limits:
-- - It is said of lists of calls from a fresh link, each call on the link as the one before handed it back; of images, on each passed on unaltered.
-- - It counts lent slots. It doesn't even out what is booked, and goes by no share.
-- - A flow that at one lend is not in the mask, or holds all of its cells in the current slot or a later one, is passed over then, and is not made good
--   for it: what is said of it begins anew with the next lend.
-- - A granted reset begins with flow 0 again. Where one comes after each lend, flow 0 may be the only one that is lent to, though others wait.
-- - It says nothing of when the next slot is idle, nor of when a lend is asked for: refused lends are no turns.
use Rattle.std.specs.Prelude.{ℕ, ◌+◌, ◌≤◌, ◌<◌, ◌≡◌, List, ◌∷◌, [], ◌++◌, true, length}
use Rattle.model.specs.Tables.{tally}
use Rattle.model.specs.Plan.{Plan, flow_count, plan_of, refusal}
use Rattle.model.specs.Calls.{Call, Event, History, requested, credited, ticked, lent, accepted, refused, in_mask}
use Rattle.model.specs.History.{is_granted_reset, lends, of_flow}
use Rattle.model.specs.Claim.{Room}
use Rattle.model.specs.Scheduler.{Scheduler, run}

-- ---- a stretch in which a flow waits

-- RULES 21.10: at a lend with this mask, after h, flow i is in the mask and can take the slot
pub record Waits (P : Plan) (i mask : ℕ) (h : History) : Type 0 where
  pub in_mask : in_mask mask i ≡ true
  pub can_take : Room P i h

-- the same, where the event is a lend that is answered with a flow
abbrev pub WaitsAt : Plan → ℕ → Event → History → Type 0
WaitsAt P i (requested w a) h = Unit {0}
WaitsAt P i (credited j p a) h = Unit {0}
WaitsAt P i (ticked x) h = Unit {0}
WaitsAt P i (lent mask (accepted j)) h = Waits P i mask h
WaitsAt P i (lent mask (refused r)) h = Unit {0}
WaitsAt P i (Event.reset a) h = Unit {0}

-- Q holds of each event of the stretch, and what was before it. As in a history, the newest is first.
abbrev pub EachOf : (Event → History → Type 0) → (stretch early : History) → Type 0
EachOf Q [] early = Unit {0}
EachOf Q (e ∷ stretch) early = Q e (stretch ++ early) × EachOf Q stretch early

pub record Waiting (P : Plan) (i : ℕ) (stretch early : History) : Type 0 where
  pub no_reset : tally is_granted_reset stretch ≡ 0
  pub waits : EachOf (WaitsAt P i) stretch early

-- ---- what is counted in a stretch

-- the slots lent to flow i, and those lent to any flow
abbrev pub lent_in : History → ℕ → ℕ
lent_in stretch i = tally (of_flow i) (lends stretch)

abbrev pub all_lent_in : History → ℕ
all_lent_in stretch = length (lends stretch)

-- ---- fairness of a list of calls, with these events

-- RULES 21.10: between two lends to flow i, the newest event and an earlier one, flow j is lent to, if it waits from the earlier one on.
abbrev pub InTurn : Plan → History → Type 0
InTurn P h =
    (i mask mask₀ : ℕ) (between before : History) → h ≡ (lent mask (accepted i) ∷ between) ++ lent mask₀ (accepted i) ∷ before
    → (j : ℕ) → j < flow_count P → (j ≡ i → ⊥) → Waiting P j (lent mask (accepted i) ∷ between) (lent mask₀ (accepted i) ∷ before)
    → 0 < lent_in between j

-- RULES 21.10: in a stretch that ends with the newest event no flow i is lent to more than once more than a flow j that waits.
abbrev pub Even : Plan → History → Type 0
Even P h =
    (stretch early : History) → h ≡ stretch ++ early
    → (i j : ℕ) → i < flow_count P → j < flow_count P → Waiting P j stretch early → lent_in stretch i ≤ lent_in stretch j + 1

-- RULES 21.10: of n answered lends in such a stretch one is to flow j.
abbrev pub WithinARound : Plan → History → Type 0
WithinARound P h =
    (stretch early : History) → h ≡ stretch ++ early
    → (j : ℕ) → j < flow_count P → Waiting P j stretch early → flow_count P ≤ all_lent_in stretch → 0 < lent_in stretch j

pub record FairOn (P : Plan) (h : History) : Type 0 where
  pub in-turn : InTurn P h
  pub even : Even P h
  pub within_a_round : WithinARound P h

-- A scheduler is fair, for the bytes of every accepted plan and every list of calls. As every beginning of a list is a list, a stretch may end anywhere.
abbrev pub Fair : Scheduler → Type 0
Fair c = (bytes : List ℕ) → refusal bytes ≡ 0 → (calls : List Call) → FairOn (plan_of bytes) (run c (plan_of bytes) calls).history
