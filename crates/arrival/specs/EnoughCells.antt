-- With more than two shares of cells a stream that asks on arrival has room in every slot at every request. It names no link, only calls and answers.
-- Assumes nothing.
--
-- Its cells are given back in time if, whenever it asks, the credits that are dated up to the end of the next frame after a slot that is gone are at
-- least its grants up to that slot. So it is where the cell of each tile is credited in the slot in which the tile comes up, dated a slot of that frame
-- or the next (`CreditsEachTile`). A stream is lent nothing here, and no reset is granted. So has one that asks ahead, where each cell is credited at the
-- grant.
use Rattle.std.specs.Prelude.{ℕ, ◌+◌, ◌-◌, ◌*◌, ◌≤◌, ◌<◌, ◌≡◌, List, ◌∷◌, [], ◌++◌, Bool, true, ◌&&◌, leb, eqb}
use Rattle.model.specs.Tables.{tally}
use Rattle.model.specs.Word.{flow_of, quantum_of, departure_of}
use Rattle.model.specs.Plan.{Plan, flow_count, entry, plan_of, refusal}
use Rattle.model.specs.Calls.{Call, Event, History, requested, credited, ticked, lent, accepted, refused}
use Rattle.model.specs.History.{ticks, slot_after, frame_of, well_formed, has_come, is_granted_reset, grants, lends, of_flow, at_slot, granted_up_to, credited_up_to}
use Rattle.model.specs.History.{expected_number}
use Rattle.model.specs.Claim.{Each, AtRequest, ReadyAt}
use Rattle.model.specs.Scheduler.{Scheduler, run}
use Rattle.arrival.specs.Delay.{newest_frame, made_in, RoomFrom, AsksAt}

-- the last slot of frame f
abbrev pub last_of : Plan → ℕ → ℕ
last_of P f = (f + 1) * P.slots - 1

-- RULES 22.8: after h flow i's cells of slots that are gone fall free by the end of the frame after theirs.
abbrev pub CreditedInTime : Plan → ℕ → History → Type 0
CreditedInTime P i h = (s : ℕ) → s < ticks h → granted_up_to P h i s ≤ credited_up_to P h i (last_of P (frame_of P s + 1))

-- ---- so it is where the cell of each tile is credited in the slot in which the tile comes up (`credited-each-tile`, in proofs/CreditsInTime.antt)

-- a taken credit: its flow, the slot in which it is made and the one that it is dated
pub record Return : Type 0 where
  pub flow : ℕ
  pub made : ℕ
  pub dated : ℕ

abbrev pub return_at : Plan → Event → History → List Return
return_at P (requested w a) h = []
return_at P (credited i p (accepted u)) h = record { flow = i; made = ticks h; dated = slot_after P (ticks h) p } ∷ []
return_at P (credited i p (refused r)) h = []
return_at P (ticked x) h = []
return_at P (lent m a) h = []
return_at P (Event.reset a) h = []

unfoldable pub returns : Plan → History → List Return
returns P [] = []
returns P (e ∷ h) = return_at P e h ++ returns P h

-- a credit of flow i, made in slot t and dated by the end of the next frame
abbrev pub in_slot : Plan → (i t : ℕ) → Return → Bool
in_slot P i t r = eqb r.flow i && eqb r.made t && leb r.dated (last_of P (frame_of P t + 1))

-- In each slot that is gone flow i made as many of these as tiles of it came up: one, or none.
abbrev pub CreditsEachTile : Plan → ℕ → History → Type 0
CreditsEachTile P i h = (t : ℕ) → t < ticks h → tally (λ m. of_flow i m && at_slot t m) (grants P h) ≤ tally (in_slot P i t) (returns P h)

-- ---- the stream

-- what is asked of flow i's well-formed request with word w, after h; room is not
pub record AsksInTurn (P : Plan) (i w : ℕ) (h : History) : Type 0 where
  pub come : has_come P (ticks h) (departure_of w) ≡ true
  pub number : quantum_of w ≡ expected_number P h i
  pub credited : CreditedInTime P i h

-- The stream asks so, for no more than its share in a frame; and two shares are fewer than its cells, and `short`.
pub record GivesBack (short : ℕ) (P : Plan) (i : ℕ) (h : History) : Type 0 where
  pub asks : Each (AtRequest (λ w h. well_formed P w ≡ true → flow_of w ≡ i → AsksInTurn P i w h)) h
  pub within_share : (f : ℕ) → made_in P h i f ≤ (entry P i).share
  pub enough_cells : 2 * (entry P i).share < (entry P i).cells + short
  pub not_lent : tally (of_flow i) (lends h) ≡ 0
  pub no_reset : tally is_granted_reset h ≡ 0

-- Then it is ready at each request: room need not be asked, and it is served promptly and soon.
abbrev pub EnoughCellsBy : (short : ℕ) → Scheduler → Type 0
EnoughCellsBy short c =
    (bytes : List ℕ) → refusal bytes ≡ 0 → (calls : List Call) (i : ℕ) → i < flow_count (plan_of bytes)
    → GivesBack short (plan_of bytes) i (run c (plan_of bytes) calls).history → Each (ReadyAt (plan_of bytes) i) (run c (plan_of bytes) calls).history

-- RULES 22.8: that the reference scheduler keeps it is `enough_cells`, in proofs/EnoughCells.antt.
abbrev pub EnoughCells : Scheduler → Type 0
EnoughCells = EnoughCellsBy 0

-- ---- where each cell is credited at the grant

-- RULES 22.13: after h the cells of all slots before the newest frame that flow i was granted, those to come too, fall free by the end of the frame after
-- theirs. So it is where each grant is passed on to the next board at once: that grants the tile a slot of the same frame or the next, and the cell is
-- credited then, dated that slot. Of a slot of the newest frame nothing is asked: the frame after it can't be dated yet.
abbrev pub CreditedAtOnce : Plan → ℕ → History → Type 0
CreditedAtOnce P i h = (s : ℕ) → frame_of P s < newest_frame P h → granted_up_to P h i s ≤ credited_up_to P h i (last_of P (frame_of P s + 1))

-- It is so at each request of the stream, and two shares are fewer than its cells, and `short`. However far ahead it asks, and whatever for, is left open.
pub record GivesBackAtOnce (short : ℕ) (P : Plan) (i : ℕ) (h : History) : Type 0 where
  pub asks : Each (AtRequest (λ w h. well_formed P w ≡ true → flow_of w ≡ i → CreditedAtOnce P i h)) h
  pub cells_at_once : 2 * (entry P i).share < (entry P i).cells + short
  pub not_lent : tally (of_flow i) (lends h) ≡ 0
  pub no_reset : tally is_granted_reset h ≡ 0

-- RULES 22.13: then it has room in every slot at each request, which is what prompt and soon ask of it.
abbrev pub EnoughAtOnceBy : (short : ℕ) → Scheduler → Type 0
EnoughAtOnceBy short c =
    (bytes : List ℕ) → refusal bytes ≡ 0 → (calls : List Call) (i : ℕ) → i < flow_count (plan_of bytes)
    → GivesBackAtOnce short (plan_of bytes) i (run c (plan_of bytes) calls).history
    → Each (AsksAt (λ P i w h. RoomFrom P i 0 h) (plan_of bytes) i) (run c (plan_of bytes) calls).history

-- That the reference scheduler keeps it is `enough-at-once`, in proofs/CellsAtOnce.antt.
abbrev pub EnoughAtOnce : Scheduler → Type 0
EnoughAtOnce = EnoughAtOnceBy 0
