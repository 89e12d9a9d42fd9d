-- Links in a row with a crossing between each two, played all together, slot by slot. RULES 27.2, 27.6 and 27.11. Assumes nothing.
use Rattle.std.specs.Prelude.{ℕ, zero, suc, ◌≡◌, List, ◌∷◌, [], ◌++◌, Bool, ◌&&◌, cond, eqb, get_or, replicate}
use Rattle.std.proofs.Math.Option.{Option, some, none}
use Rattle.model.specs.Tables.{tally}
use Rattle.model.specs.Plan.{Plan}
use Rattle.model.specs.Calls.{Call, TickAnswer}
use Rattle.model.specs.History.{lends, of_flow}
use Rattle.model.specs.Scheduler.{Played, reference, started, step}
use Rattle.arrival.specs.SeveralLinks.{Board, plan_on}
use Rattle.crossings.specs.Crossing.{Crossing, served}
use Rattle.crossings.specs.Playing.{theirs_arriving, theirs_leaving}
use Rattle.crossings.specs.Claim.{Onward}
use Rattle.showcrossings.specs.Ways.{CrossedAlong}

-- ---- a row

-- link number k, and the tiles that wait at crossing number k, which lies between links k and k + 1
pub record Row : Type 0 where
  pub link : ℕ → Played reference
  pub waiting : ℕ → List ℕ

-- something else at k
abbrev pub instead : {A : Type 0} → (ℕ → A) → (k : ℕ) → A → ℕ → A
instead f k v n = cond (eqb n k) v (f n)

-- RULES 27.2: what is done in a slot, one after the other: a crossing does its part, or someone calls a link
pub data Act : Type 0 where
  part : (k : ℕ) → Act
  call : (k : ℕ) → Call → Act

-- where the flows of link k go on at crossing k
module _ (onward : ℕ → List (Option ℕ)) where
  abbrev pub crossing_at : ℕ → Row → Crossing
  crossing_at k row = record { arriving = row.link k; leaving = row.link (suc k); onward = onward k; waiting = row.waiting k }

  -- RULES 27.2: crossing k does its part, where its in-link's tick answered `owner`
  abbrev pub with_part : TickAnswer → (k : ℕ) → Row → Row
  with_part owner k row =
      let x = served owner (crossing_at k row) in
      record { link = instead (instead row.link k x.arriving) (suc k) x.leaving; waiting = instead row.waiting k x.waiting }

  -- RULES 27.6: a call that is neither the crossing's before link k nor the one's after it
  abbrev pub theirs : (k : ℕ) → Row → Call → Bool
  theirs zero row c = theirs_arriving (crossing_at zero row) c
  theirs (suc k) row c = theirs_leaving (crossing_at k row) c && theirs_arriving (crossing_at (suc k) row) c

  -- and any other is left out
  abbrev pub with_call : (k : ℕ) → Call → Row → Row
  with_call k c row = cond (theirs k row c) (record { link = instead row.link k (step reference (row.link k) c); waiting = row.waiting }) row

  abbrev pub act : (turns : ℕ → TickAnswer) → Act → Row → Row
  act turns (part k) row = with_part (turns k) k row
  act turns (call k c) row = with_call k c row

  abbrev pub acts : (turns : ℕ → TickAnswer) → List Act → Row → Row
  acts turns [] row = row
  acts turns (a ∷ list) row = acts turns list (act turns a row)

  -- RULES 27.2: in a slot all links tick first
  abbrev pub all_tick : Row → Row
  all_tick row = record { link = λ k. step reference (row.link k) Call.tick; waiting = row.waiting }

  abbrev pub row_slot : List Act → Row → Row
  row_slot list row = acts (λ k. (reference.tick (row.link k).state).1) list (all_tick row)

  abbrev pub row_slots : List (List Act) → Row → Row
  row_slots [] row = row
  row_slots (list ∷ slots) row = row_slots slots (row_slot list row)

  -- RULES 27.1: all links are fresh, and no tile waits; some calls in slot 0, and then slots
  abbrev pub row_played : (plans : ℕ → Plan) (begin : List Act) → List (List Act) → Row
  row_played plans begin slots = row_slots slots (acts (λ k. none) begin (record { link = λ k. started reference (plans k); waiting = λ k. replicate 16 0 }))

-- ---- which crossings are played

-- crossing k does nothing, and does its part once
abbrev pub NotPart : ℕ → Act → Type 0
NotPart k (part j) = j ≡ k → ⊥
NotPart k (call j c) = Unit {0}

abbrev pub NoPart : ℕ → List Act → Type 0
NoPart k [] = Unit {0}
NoPart k (a ∷ list) = NotPart k a × NoPart k list

pub record OnePart (k : ℕ) (list : List Act) : Type 0 where
  pub before : List Act
  pub after : List Act
  pub is : list ≡ before ++ (part k ∷ after)
  pub none_before : NoPart k before
  pub none_after : NoPart k after

-- it does its part once in each slot after slot 0
abbrev pub InEachSlot : ℕ → List (List Act) → Type 0
InEachSlot k [] = Unit {0}
InEachSlot k (list ∷ slots) = OnePart k list × InEachSlot k slots

-- ---- a stream over a row

-- a stream's links are the row's from number k on, and between each two the row's crossing is played; it goes on there, and is lent nothing
module _ (onward : ℕ → List (Option ℕ)) (plans : ℕ → Plan) (begin : List Act) (slots : List (List Act)) where
  pub record OnRow (k : ℕ) (a : Board reference) : Type 0 where
    pub plan_is : plans k ≡ plan_on a
    pub events_are : ((row_played onward plans begin slots).link k).history ≡ a.events

  pub record CrossedThere (k : ℕ) (a b : Board reference) : Type 0 where
    pub goes_on : Onward (plan_on a) (plan_on b) (onward k)
    pub stream_goes_on : get_or (onward k) a.stream none ≡ some b.stream
    pub not_lent : tally (of_flow b.stream) (lends b.events) ≡ 0
    pub not_at_first : NoPart k begin
    pub in_each_slot : InEachSlot k slots

  abbrev pub AlongRow : (k : ℕ) → Board reference → List (Board reference) → Type 0
  AlongRow k a [] = OnRow k a
  AlongRow k a (b ∷ rest) = OnRow k a × (CrossedThere k a b × AlongRow (suc k) b rest)

-- RULES 27.11: then they are a way of crossings, whatever the order of parts and calls in each slot: `rows-cross`, in proofs/Rows.antt.
abbrev pub RowsCross : Type 0
RowsCross =
    (onward : ℕ → List (Option ℕ)) (plans : ℕ → Plan) (begin : List Act) (slots : List (List Act)) (k : ℕ) (a : Board reference) (rest : List (Board reference))
    → AlongRow onward plans begin slots k a rest → CrossedAlong served a rest
