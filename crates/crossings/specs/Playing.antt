-- A board that plays a crossing, slot by slot, and what others ask of its links. RULES 27.2 and 27.6. Assumes nothing.
use Rattle.std.specs.Prelude.{ℕ, List, ◌∷◌, [], Bool, true, false, not, cond, replicate, length, eqb}
use Rattle.std.proofs.Math.Option.{Option, some, none}
use Rattle.model.specs.Tables.{any}
use Rattle.model.specs.Word.{flow_of}
use Rattle.model.specs.Plan.{Plan}
use Rattle.model.specs.Calls.{Call, TickAnswer}
use Rattle.model.specs.Scheduler.{reference, started, step}
use Rattle.crossings.specs.Crossing.{Crossing, crossing_with, goes_on_as}

-- RULES 27.2: what a board does in a slot after the ticks, of which the in-link's answered so. It may look at all calls and answers so far.
abbrev pub Board : Type 0
Board = TickAnswer → Crossing → Crossing

-- ---- the others

-- RULES 27.6: a call on either link that the board does not make
pub data Other : Type 0 where
  on_arriving on_leaving : Call → Other

abbrev pub is_flow : ℕ → Option ℕ → Bool
is_flow j none = false
is_flow j (some k) = eqb k j

abbrev pub is_none : Option ℕ → Bool
is_none none = true
is_none (some j) = false

-- some flow goes on as flow j
abbrev pub goes_onto : Crossing → ℕ → Bool
goes_onto x j = any (length x.onward) (λ i. is_flow j (goes_on_as x i))

-- RULES 27.6: on the in-link the board alone credits the flows that go on here, and on the out-link it alone asks for the flows that they go on as;
-- ticks are
-- made on both at once
abbrev pub theirs_arriving : Crossing → Call → Bool
theirs_arriving x (Call.request w) = true
theirs_arriving x (Call.credit i p) = is_none (goes_on_as x i)
theirs_arriving x Call.tick = false
theirs_arriving x (Call.lend m) = true
theirs_arriving x Call.reset = true

abbrev pub theirs_leaving : Crossing → Call → Bool
theirs_leaving x (Call.request w) = not (goes_onto x (flow_of w))
theirs_leaving x (Call.credit i p) = true
theirs_leaving x Call.tick = false
theirs_leaving x (Call.lend m) = true
theirs_leaving x Call.reset = true

-- RULES 27.6: a call that is not theirs to make is left out
abbrev pub another : Other → Crossing → Crossing
another (on_arriving c) x = cond (theirs_arriving x c) (crossing_with x (step reference x.arriving c) x.leaving x.waiting) x
another (on_leaving c) x = cond (theirs_leaving x c) (crossing_with x x.arriving (step reference x.leaving c) x.waiting) x

unfoldable pub others : List Other → Crossing → Crossing
others [] x = x
others (o ∷ os) x = others os (another o x)

-- ---- slots

-- what others ask in a slot, before the board's part of it and after
pub record Slot : Type 0 where
  pub before : List Other
  pub after : List Other

-- RULES 27.2: both links tick
abbrev pub both_tick : Crossing → Crossing
both_tick x = crossing_with x (step reference x.arriving Call.tick) (step reference x.leaving Call.tick) x.waiting

-- the flow that comes up on the in-link
abbrev pub tick_answer_of : Crossing → TickAnswer
tick_answer_of x = (reference.tick x.arriving.state).1

-- RULES 27.2: one slot
abbrev pub in_slot : Board → Slot → Crossing → Crossing
in_slot b s x = others s.after (b (tick_answer_of x) (others s.before (both_tick x)))

unfoldable pub in_slots : Board → List Slot → Crossing → Crossing
in_slots b [] x = x
in_slots b (s ∷ ss) x = in_slots b ss (in_slot b s x)

-- RULES 27.1: both links are fresh, and no tile waits
abbrev pub begun : Plan → Plan → List (Option ℕ) → Crossing
begun P Q onward = record { arriving = started reference P; leaving = started reference Q; onward = onward; waiting = replicate 16 0 }

-- RULES 27.6: a crossing that board b plays: others may ask in slot 0 too
abbrev pub played : Board → Plan → Plan → List (Option ℕ) → (first : List Other) → List Slot → Crossing
played b P Q onward first slots = in_slots b slots (others first (begun P Q onward))
