-- Histories that demand 3 rules out: each breaks one clause of it and keeps all the others; and one that overfills the next board's buffer. Assumes nothing.
use Rattle.std.specs.Prelude.{ℕ, ◌≡◌, List, ◌∷◌, [], reverse}
use Rattle.std.proofs.Math.Option.{some, none}
use Rattle.model.specs.PlanBytes.{plan1, plan2, listing, roomy}
use Rattle.model.specs.Plan.{Plan, plan_of}
use Rattle.model.specs.Calls.{Event, History, requested, credited, ticked, lent, accepted, refused}
use Rattle.model.specs.Claim.{Clause, Says}
use Rattle.model.specs.Buffer.{FitsBuffer}
use Rattle.model.specs.EdgeCases.{word_of}

pub record BreaksAlone (clause : Clause) (P : Plan) (i : ℕ) (h : History) : Type 0 where
  pub breaks : Says clause P i h → ⊥
  pub keeps_the_others : (other : Clause) → (other ≡ clause → ⊥) → Says other P i h

-- a plan's bytes, events of flow 0 and others, oldest first, and the clause that they break for flow 0
pub record WrongHistory : Type 0 where
  pub clause : Clause
  pub bytes : List ℕ
  pub events : List Event

abbrev pub Breaks : WrongHistory → Type 0
Breaks b = BreaksAlone b.clause (plan_of b.bytes) 0 (reverse b.events)

abbrev pub AllBreak : List WrongHistory → Type 0
AllBreak [] = Unit {0}
AllBreak (b ∷ bs) = Breaks b × AllBreak bs

-- flow 0's request with quantum number q and departure d, granted position p or refused
abbrev granted_from : (q d p : ℕ) → Event
granted_from q d p = requested (word_of 0 q d) (accepted (word_of 0 q p))

abbrev refused_from : (q d number : ℕ) → Event
refused_from q d number = requested (word_of 0 q d) (refused number)

-- its request with quantum number q and departure 0, granted position p
abbrev granted : (q p : ℕ) → Event
granted q p = granted_from q 0 p

-- a granted reset
abbrev granted_reset : Event
granted_reset = Event.reset (accepted tt)

unfoldable pub wrong_histories : List WrongHistory
wrong_histories =
    -- five slots with a share of 2, two frames and no frame change: slots 1, 2, 4 and 5, and after a tick slot 8, in frame 2
    record {
      clause = Clause.most;
      bytes = plan2 4 2 16 2 8 2 8;
      events = granted 0 1 ∷ granted 1 2 ∷ granted 2 4 ∷ granted 3 5 ∷ ticked (some 0) ∷ granted 4 0 ∷ [];
    }
    -- three slots of frame 1
    ∷ record { clause = Clause.most-in-a-frame; bytes = roomy; events = granted 0 4 ∷ granted 1 5 ∷ granted 2 6 ∷ [] }
    -- one slot where the least count is 2, with a cell free
    ∷ record { clause = Clause.least; bytes = listing; events = granted 0 1 ∷ requested 0x24000400 (refused 12) ∷ [] }
    -- slot 1 for both flows
    ∷ record { clause = Clause.one_owner; bytes = listing; events = granted 0 1 ∷ requested 0x24100000 (accepted 0x24100001) ∷ [] }
    -- three slots held with 2 cells
    ∷ record { clause = Clause.within_cells; bytes = listing; events = granted 0 1 ∷ granted 1 4 ∷ granted 2 5 ∷ [] }
    -- a credit with nothing held
    ∷ record { clause = Clause.within_cells; bytes = listing; events = credited 0 1 (accepted tt) ∷ [] }
    -- a credit from slot 2 on, where 2 are held, but from slot 5 on none
    ∷ record {
      clause = Clause.within_cells;
      bytes = listing;
      events = granted 0 1 ∷ granted 1 2 ∷ credited 0 5 (accepted tt) ∷ credited 0 5 (accepted tt) ∷ credited 0 2 (accepted tt) ∷ [];
    }
    -- position 0 before the first tick is slot 8
    ∷ record { clause = Clause.within-a-window; bytes = listing; events = granted 0 0 ∷ [] }
    -- a granted slot comes up idle, and for another flow
    ∷ record { clause = Clause.comes_up; bytes = listing; events = granted 0 1 ∷ ticked none ∷ [] }
    ∷ record { clause = Clause.comes_up; bytes = listing; events = granted 0 1 ∷ ticked (some 1) ∷ [] }
    -- a slot that nobody was granted comes up for a flow, and for a number that is no flow
    ∷ record { clause = Clause.comes_up; bytes = listing; events = ticked (some 1) ∷ [] }
    ∷ record { clause = Clause.comes_up; bytes = listing; events = ticked (some 7) ∷ [] }
    -- the answer has another node, flow and quantum number
    ∷ record { clause = Clause.granted-words; bytes = listing; events = requested 0x24000000 (accepted 0x28000001) ∷ [] }
    ∷ record { clause = Clause.granted-words; bytes = listing; events = requested 0x24000000 (accepted 0x24100001) ∷ [] }
    ∷ record { clause = Clause.granted-words; bytes = listing; events = requested 0x24000000 (accepted 0x24000401) ∷ [] }
    -- the answer's departure is not below T
    ∷ record { clause = Clause.granted-words; bytes = listing; events = granted 0 9 ∷ [] }
    -- the asked word has another node than the plan's, flow 2 of two, and departure T
    ∷ record { clause = Clause.granted-words; bytes = listing; events = requested 0x20000000 (accepted 0x20000001) ∷ [] }
    ∷ record { clause = Clause.granted-words; bytes = listing; events = requested 0x24200000 (accepted 0x24200001) ∷ [] }
    ∷ record { clause = Clause.granted-words; bytes = listing; events = requested 0x24000008 (accepted 0x24000001) ∷ [] }
    -- seven slots after one frame change: two of each of the frames 0 to 2, and after a tick slot 12, in frame 3
    ∷ record {
      clause = Clause.most;
      bytes = plan2 4 2 16 2 8 2 8;
      events =
          granted 0 1 ∷ granted 1 2 ∷ granted 2 4 ∷ granted 3 5 ∷ ticked (some 0) ∷ ticked (some 0) ∷ ticked none ∷ ticked (some 0)
          ∷ granted_from 4 4 0 ∷ granted_from 5 4 1 ∷ ticked (some 0) ∷ granted_from 6 5 4 ∷ [];
    }
    -- three frames and three frame changes: the least count is 5, and four slots are granted
    ∷ record {
      clause = Clause.least;
      bytes = plan1 1 3 8 1 8;
      events =
          granted_from 0 0 1 ∷ granted_from 1 0 2 ∷ refused_from 2 0 11 ∷ ticked (some 0) ∷ granted_from 2 1 0 ∷ refused_from 3 1 11
          ∷ ticked (some 0) ∷ granted_from 3 2 1 ∷ refused_from 4 2 11 ∷ ticked (some 0) ∷ refused_from 4 0 11 ∷ [];
    }
    -- both cells are held at slot 2; then, and at no request of its own that is well formed, the flow asks for another node, with number 7, and flow 1 asks;
    -- both fall free from slot 3 on, and slot 2 is gone when it asks again, at CP = 3 with departure 0 and at CP = 4 with departure 4
    ∷ record {
      clause = Clause.least;
      bytes = listing;
      events =
          granted_from 0 0 1 ∷ granted_from 1 0 2 ∷ requested 0x20001C00 (refused 9) ∷ requested 0x24100000 (accepted 0x24100003)
          ∷ credited 0 3 (accepted tt) ∷ credited 0 3 (accepted tt) ∷ ticked (some 0) ∷ ticked (some 0) ∷ ticked (some 1)
          ∷ refused_from 2 0 12 ∷ ticked none ∷ refused_from 2 4 12 ∷ [];
    }
    -- flow 2 of two, with the node 0 that an entry past the last has
    ∷ record { clause = Clause.granted-words; bytes = listing; events = requested 0x00200000 (accepted 0x00200001) ∷ [] }
    -- slot 1 is booked by flow 0 and lent to flow 1; slot 0 is lent to both
    ∷ record { clause = Clause.one_owner; bytes = listing; events = granted 0 1 ∷ ticked (some 0) ∷ lent 2 (accepted 1) ∷ [] }
    ∷ record { clause = Clause.one_owner; bytes = listing; events = lent 1 (accepted 0) ∷ lent 2 (accepted 1) ∷ [] }
    -- three lent slots held with 2 cells; and one lent and two granted
    ∷ record {
      clause = Clause.within_cells;
      bytes = listing;
      events = lent 1 (accepted 0) ∷ ticked none ∷ lent 1 (accepted 0) ∷ ticked none ∷ lent 1 (accepted 0) ∷ [];
    }
    ∷ record { clause = Clause.within_cells; bytes = listing; events = lent 1 (accepted 0) ∷ granted 0 1 ∷ granted 1 2 ∷ [] }
    -- a lend is no grant of the next slot
    ∷ record { clause = Clause.comes_up; bytes = listing; events = ticked none ∷ lent 1 (accepted 0) ∷ ticked (some 0) ∷ [] }
    -- lent to a flow that the mask does not have, and to flow 2 of two
    ∷ record { clause = Clause.lent-flows; bytes = listing; events = lent 1 (accepted 1) ∷ [] }
    ∷ record { clause = Clause.lent-flows; bytes = listing; events = lent 4 (accepted 2) ∷ [] }
    -- a mask with a bit at n is answered
    ∷ record { clause = Clause.lent-flows; bytes = listing; events = lent 5 (accepted 0) ∷ [] }
    -- a lent slot does not count in the least: one slot is granted where the least count is 2
    ∷ record { clause = Clause.least; bytes = roomy; events = lent 1 (accepted 0) ∷ granted 0 1 ∷ requested 0x24000400 (refused 12) ∷ [] }
    -- the departure's own slot, and an earlier one
    ∷ record { clause = Clause.after_departure; bytes = listing; events = granted_from 0 2 2 ∷ [] }
    ∷ record { clause = Clause.after_departure; bytes = listing; events = granted_from 0 5 1 ∷ [] }
    -- at CP = 4: departure 3 lies in the newest frame and is slot 11, though slot 3 has just gone by; departure 0 is slot 8, going round
    ∷ record {
      clause = Clause.after_departure;
      bytes = listing;
      events = ticked none ∷ ticked none ∷ ticked none ∷ ticked none ∷ granted_from 0 3 5 ∷ [];
    }
    ∷ record {
      clause = Clause.after_departure;
      bytes = listing;
      events = ticked none ∷ ticked none ∷ ticked none ∷ ticked none ∷ granted_from 0 0 7 ∷ [];
    }
    -- refused with 20, though the tile has come: its departure is CP; and it lies before CP in the head frame
    ∷ record { clause = Clause.least; bytes = listing; events = refused_from 0 0 20 ∷ [] }
    ∷ record { clause = Clause.least; bytes = listing; events = ticked none ∷ ticked none ∷ refused_from 0 1 20 ∷ [] }
    -- refused with 24, though the word carries the expected number: on a fresh link; after a grant to another flow; and after a reset
    ∷ record { clause = Clause.least; bytes = listing; events = refused_from 0 0 24 ∷ [] }
    ∷ record { clause = Clause.least; bytes = listing; events = requested 0x24100000 (accepted 0x24100001) ∷ refused_from 0 0 24 ∷ [] }
    ∷ record {
      clause = Clause.least;
      bytes = listing;
      events = granted 0 1 ∷ credited 0 1 (accepted tt) ∷ ticked (some 0) ∷ granted_reset ∷ refused_from 1 1 24 ∷ [];
    }
    -- after a reset in frame 1 five slots of frames 1 to 3 are granted with a share of 2, and no frame change has come since
    ∷ record {
      clause = Clause.most;
      bytes = plan2 4 2 16 2 8 2 8;
      events =
          ticked none ∷ ticked none ∷ ticked none ∷ ticked none ∷ granted_reset ∷ granted_from 0 4 5 ∷ granted_from 1 4 6 ∷ granted_from 2 4 0
          ∷ granted_from 3 4 1 ∷ ticked (some 0) ∷ granted_from 4 5 4 ∷ [];
    }
    -- three slots of frame 1, with a refused reset between them
    ∷ record {
      clause = Clause.most-in-a-frame;
      bytes = roomy;
      events = granted 0 4 ∷ granted 1 5 ∷ Event.reset (refused 23) ∷ granted 2 6 ∷ [];
    }
    -- the slots that were granted before the reset do not count in the least
    ∷ record {
      clause = Clause.least;
      bytes = listing;
      events =
          granted 0 1 ∷ credited 0 1 (accepted tt) ∷ granted_from 1 0 2 ∷ credited 0 2 (accepted tt) ∷ ticked (some 0) ∷ ticked (some 0)
          ∷ granted_reset ∷ refused_from 2 2 12 ∷ [];
    }
    -- nor does it ask for a refusal in the frames before it, or that the requests before it were ready
    ∷ record {
      clause = Clause.least;
      bytes = listing;
      events = refused_from 0 7 20 ∷ ticked none ∷ ticked none ∷ ticked none ∷ ticked none ∷ granted_reset ∷ refused_from 0 4 11 ∷ [];
    }
    -- a slot that was served before the reset is lent after it, and one to come is granted again
    ∷ record {
      clause = Clause.one_owner;
      bytes = listing;
      events = granted 0 1 ∷ credited 0 1 (accepted tt) ∷ ticked (some 0) ∷ granted_reset ∷ lent 1 (accepted 0) ∷ [];
    }
    ∷ record { clause = Clause.one_owner; bytes = listing; events = granted 0 2 ∷ credited 0 2 (accepted tt) ∷ granted_reset ∷ granted 1 2 ∷ [] }
    -- two cells are held over the reset, and then three
    ∷ record { clause = Clause.within_cells; bytes = listing; events = granted 0 1 ∷ granted 1 2 ∷ granted_reset ∷ granted 2 3 ∷ [] }
    -- a slot that was granted before the reset comes up idle; and with the clock put back position 1, which is slot 9, comes up with slot 3
    ∷ record { clause = Clause.comes_up; bytes = listing; events = granted 0 1 ∷ credited 0 1 (accepted tt) ∷ granted_reset ∷ ticked none ∷ [] }
    ∷ record { clause = Clause.comes_up; bytes = listing; events = ticked none ∷ ticked none ∷ granted_reset ∷ granted 0 1 ∷ ticked (some 0) ∷ [] }
    ∷ []

-- ---- the next board's buffer

-- N = 4: three slots of flow 0 and two of flow 1, one more than the buffer holds
unfoldable pub overfull : List Event
overfull =
    granted 0 1 ∷ granted 1 2 ∷ granted 2 3 ∷ requested 0x24100000 (accepted 0x24100004) ∷ requested 0x24100400 (accepted 0x24100405) ∷ []

-- at slot 5, the last of them
abbrev pub Overfills : Type 0
Overfills = FitsBuffer (plan_of listing) (reverse overfull) 5 → ⊥

-- without the last it is just full
abbrev pub JustFits : Type 0
JustFits = FitsBuffer (plan_of listing) (reverse overfull) 4

-- N = 4: slot 0 is lent to flow 0, which is granted slots 1 and 2, and flow 1 slots 3 and 4
unfoldable pub lent_over : List Event
lent_over =
    lent 1 (accepted 0) ∷ granted 0 1 ∷ granted 1 2 ∷ requested 0x24100000 (accepted 0x24100003) ∷ requested 0x24100400 (accepted 0x24100404) ∷ []

abbrev pub OverfillsByLend : Type 0
OverfillsByLend = FitsBuffer (plan_of listing) (reverse lent_over) 4 → ⊥

abbrev pub JustFitsWithLend : Type 0
JustFitsWithLend = FitsBuffer (plan_of listing) (reverse lent_over) 3

-- with a cell of flow 0 that falls free from slot 4 on
abbrev pub FitsWithCredit : Type 0
FitsWithCredit = FitsBuffer (plan_of listing) (credited 0 4 (accepted tt) ∷ reverse lent_over) 4
