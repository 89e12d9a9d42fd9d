-- What leaves in which slot, where tiles are sent ahead of their booked slots. It names no link, only calls and answers. Assumes nothing.
--
-- A sending is a history in which some pairs of a lend and a credit send a tile ahead. A pair sends the tile of its flow that waits for the slot of its
-- date, whether or not it has come; where none waits, no tile leaves. That there is one, and that it came before the current slot, is asked of each pair.
-- Then each booked tile leaves after the slot in which it comes, and none after its own slot; no two leave in one slot; and the tiles of a flow that have
-- left, less the cells given back, are at most its cells, in every slot. Every scheduler that meets demand 3 keeps these, since they count what demand 3
-- counts. That bookings stay, and the order of what leaves, hold of tiles that come in the very slot in which they are sent too.
-- The tiles of a flow leave in order, if each is sent ahead when those with earlier slots have left, and each new slot comes after those sent ahead.
use Rattle.std.specs.Prelude.{ℕ, suc, ◌+◌, ◌≤◌, ◌<◌, ◌≡◌, List, ◌∷◌, [], ◌++◌, Bool, ◌&&◌, cond, leb, ltb, eqb}
use Rattle.model.specs.Tables.{tally}
use Rattle.model.specs.Word.{flow_of, departure_of}
use Rattle.model.specs.Plan.{Plan, flow_count, entry, plan_of, refusal}
use Rattle.model.specs.Calls.{Call, Event, History, requested, credited, ticked, lent, accepted, refused}
use Rattle.model.specs.History.{ticks, slot_after, Mark, credit_at, up_to}
use Rattle.model.specs.Claim.{Each, AtLoan}
use Rattle.model.specs.Scheduler.{Scheduler, run}
use Rattle.arrival.specs.Delay.{due_slot, AsksAt}
use Rattle.model.specs.LessAsked.{HasRoom}
use Rattle.arrival.specs.SharesOfCells.{KeepsShares}
use Rattle.arrival.specs.BooksInOrder.{InTurn}
use Rattle.ahead.specs.AheadRuns.{WithAhead, start, both_tick, both_request, both_credit, both_lend, first_refused, second_refused, both_reset, sent_ahead}
use Rattle.ahead.specs.AheadRuns.{latest, NoneAcceptedAlone, SendersInTurn, SendersInOrder, BookedAlike}

-- ---- a sending

-- RULES 24.1: a history, and which pairs in it send a tile of flow i ahead of position p: a lend that is answered with i, and a credit of i dated p
-- that is taken.
pub data Sending : History → Type 0 where
  nothing : Sending []
  event : {h : History} (e : Event) → Sending h → Sending (e ∷ h)
  ahead : {h : History} {m : ℕ} (i p : ℕ) → Sending h → Sending (credited i p (accepted tt) ∷ lent m (accepted i) ∷ h)

-- A tile of a flow: the first slot in which it may leave, the one that is booked for it, or lent to it, and the one in which it leaves.
pub record Tile : Type 0 where
  pub flow : ℕ
  pub from : ℕ
  pub slot : ℕ
  pub leaves : ℕ

-- A grant and a lend give a tile a slot, and it leaves in it. RULES 24.2: a granted tile comes in the slot in which it is due (22.2). It has come when that
-- slot is over, and may leave from the next one on; so it is booked (6.2, 6.3). Nothing tells when a lent tile came: it leaves at once.
abbrev pub tile_at : Plan → Event → History → List Tile
tile_at P (requested w (accepted v)) h =
    record {
      flow = flow_of w;
      from = suc (due_slot P w h);
      slot = slot_after P (ticks h) (departure_of v);
      leaves = slot_after P (ticks h) (departure_of v);
    } ∷ []
tile_at P (requested w (refused r)) h = []
tile_at P (credited i p a) h = []
tile_at P (ticked x) h = []
tile_at P (lent m (accepted i)) h = record { flow = i; from = ticks h; slot = ticks h; leaves = ticks h } ∷ []
tile_at P (lent m (refused r)) h = []
tile_at P (Event.reset a) h = []

-- the tile of flow i with slot s waits for it
abbrev pub waits : (i s : ℕ) → Tile → Bool
waits i s m = eqb m.flow i && eqb m.slot s && eqb m.leaves s

-- RULES 24.2: and it came before slot t
abbrev pub ready : (i s t : ℕ) → Tile → Bool
ready i s t m = waits i s m && leb m.from t

-- the tile of flow i that waits for slot s leaves in slot t
unfoldable pub leaves_in : (i s t : ℕ) → List Tile → List Tile
leaves_in i s t [] = []
leaves_in i s t (m ∷ ms) = cond (waits i s m) (record { flow = i; from = m.from; slot = s; leaves = t } ∷ ms) (m ∷ leaves_in i s t ms)

module _ (P : Plan) where
  -- the tiles, the newest slot given first
  abbrev pub tiles : {h : History} → Sending h → List Tile
  tiles nothing = []
  tiles (event {h = h} e x) = tile_at P e h ++ tiles x
  tiles (ahead {h = h} i p x) = leaves_in i (slot_after P (ticks h) p) (ticks h) (tiles x)

  -- the cells that are given back: the slots that the other credits are dated
  abbrev pub given_back : {h : History} → Sending h → List Mark
  given_back nothing = []
  given_back (event {h = h} e x) = credit_at P e h ++ given_back x
  given_back (ahead i p x) = given_back x

  -- RULES 24.2: each tile that is sent ahead came before the slot in which it is sent, and waits for a slot of its own.
  abbrev pub EachReady : {h : History} → Sending h → Type 0
  EachReady nothing = Unit {0}
  EachReady (event e x) = EachReady x
  EachReady (ahead {h = h} i p x) = (0 < tally (ready i (slot_after P (ticks h) p) (ticks h)) (tiles x)) × EachReady x

  -- RULES 24.6: the same, but that it may come in that very slot: it is ready in the next. For the bookings this is enough (`ready-come`, in
  -- proofs/Sendings.antt).
  abbrev pub EachCome : {h : History} → Sending h → Type 0
  EachCome nothing = Unit {0}
  EachCome (event e x) = EachCome x
  EachCome (ahead {h = h} i p x) = (0 < tally (ready i (slot_after P (ticks h) p) (suc (ticks h))) (tiles x)) × EachCome x

  -- ---- never early, never late, never over, one to a slot

  -- the tiles of flow i that have left up to slot s
  abbrev pub left_up_to : {h : History} → Sending h → (i s : ℕ) → ℕ
  left_up_to x i s = tally (λ m. eqb m.flow i && leb m.leaves s) (tiles x)

  -- RULES 24.7: of every sending, whether or not its tiles have come
  pub record SentInTime {h : History} (x : Sending h) : Type 0 where
    pub never_late : tally (λ m. ltb m.slot m.leaves) (tiles x) ≡ 0
    pub never_over : (i s : ℕ) → i < flow_count P → left_up_to x i s ≤ tally (up_to i s) (given_back x) + (entry P i).cells
    pub one_to_a_slot : (s : ℕ) → tally (λ m. eqb m.leaves s) (tiles x) ≤ 1

  -- and where each tile that is sent ahead came before
  pub record SentWell {h : History} (x : Sending h) : Type 0 where
    pub never_early : tally (λ m. ltb m.leaves m.from) (tiles x) ≡ 0
    pub in_time : SentInTime x

  -- ---- in order

  -- Flow i has a tile with slot s that leaves in slot r.
  abbrev pub HasTile : {h : History} → Sending h → (i s r : ℕ) → Type 0
  HasTile x i s r = 0 < tally (λ m. eqb m.flow i && eqb m.slot s && eqb m.leaves r) (tiles x)

  -- A tile of flow i is sent ahead when each with an earlier slot has left; and each slot that it is given comes after those that it has sent ahead.
  abbrev pub KeepsOrder : {h : History} → Sending h → ℕ → Type 0
  KeepsOrder nothing i = Unit {0}
  KeepsOrder (event {h = h} e x) i =
      ((s : ℕ) → 0 < tally (λ m. eqb m.flow i && eqb m.slot s) (tile_at P e h) → (a r : ℕ) → HasTile x i a r → r < a → a < s) × KeepsOrder x i
  KeepsOrder (ahead {h = h} j p x) i =
      (j ≡ i → (a r : ℕ) → HasTile x i a r → a < slot_after P (ticks h) p → r < ticks h) × KeepsOrder x i

  -- a tile with an earlier slot leaves earlier
  abbrev pub LeaveInOrder : {h : History} → Sending h → ℕ → Type 0
  LeaveInOrder x i = (a r b s : ℕ) → HasTile x i a r → HasTile x i b s → a < b → r < s

-- That it follows from `KeepsOrder`, in every history, is `leave-in-order`, in proofs/LeaveInOrder.antt.
abbrev pub InOrder : Type 0
InOrder = (P : Plan) (h : History) (x : Sending h) (i : ℕ) → KeepsOrder P x i → LeaveInOrder P x i

-- ---- of a scheduler

-- RULES 24.7: sent in time in each list of calls, for the bytes of every accepted plan, whatever its pairs send; and sent well, if each pair sends a tile
-- that is ready. That a scheduler that meets demand 3 keeps both is `sends-in-time` and `sends-well`, in proofs/Sendings.antt.
abbrev pub SendsInTime : Scheduler → Type 0
SendsInTime c =
    (bytes : List ℕ) → refusal bytes ≡ 0 → (calls : List Call) (x : Sending (run c (plan_of bytes) calls).history) → SentInTime (plan_of bytes) x

abbrev pub SendsWell : Scheduler → Type 0
SendsWell c =
    (bytes : List ℕ) → refusal bytes ≡ 0 → (calls : List Call) (x : Sending (run c (plan_of bytes) calls).history) → EachReady (plan_of bytes) x
    → SentWell (plan_of bytes) x

-- ---- beside a run without any

-- the second of two runs, as a sending
abbrev pub sending_of : {h₁ h₂ : History} → WithAhead h₁ h₂ → Sending h₂
sending_of start = nothing
sending_of (both_tick x) = event _ (sending_of x)
sending_of (both_request w x) = event _ (sending_of x)
sending_of (both_credit j p x) = event _ (sending_of x)
sending_of (both_lend j x) = event _ (sending_of x)
sending_of (first_refused x) = sending_of x
sending_of (second_refused x) = event _ (sending_of x)
sending_of (both_reset x) = event _ (sending_of x)
sending_of (sent_ahead i p x) = ahead i p (sending_of x)

-- each flow that sends ahead has room at each of its requests in the first run
abbrev pub SendersHaveRoom : Plan → {h₁ h₂ : History} → WithAhead h₁ h₂ → Type 0
SendersHaveRoom P {h₁} x = (i : ℕ) → 0 < latest P x i → Each (AsksAt HasRoom P i) h₁

-- They send ahead tiles that have come and wait for their slots: nobody's bookings move; and if each came before, the tiles are sent well.
abbrev pub AheadOn : Scheduler → Plan → Type 0
AheadOn c P =
    (calls₁ calls₂ : List Call) (x : WithAhead (run c P calls₁).history (run c P calls₂).history)
    → EachCome P (sending_of x) → SendersHaveRoom P x → NoneAcceptedAlone x → BookedAlike P x × (EachReady P (sending_of x) → SentWell P (sending_of x))

-- That the reference scheduler keeps it is `sends-ahead`, in proofs/SendsAhead.antt.
abbrev pub Ahead : Scheduler → Type 0
Ahead c = (bytes : List ℕ) → refusal bytes ≡ 0 → AheadOn c (plan_of bytes)

-- ---- in order, beside a run without any

-- RULES 24.7: a tile of flow i is sent ahead when each with an earlier slot has left.
abbrev pub FirstFirst : Plan → {h : History} → Sending h → ℕ → Type 0
FirstFirst P nothing i = Unit {0}
FirstFirst P (event e x) i = FirstFirst P x i
FirstFirst P (ahead {h = h} j p x) i = (j ≡ i → (a r : ℕ) → HasTile P x i a r → a < slot_after P (ticks h) p → r < ticks h) × FirstFirst P x i

-- RULES 24.8: flow i is lent slots to send ahead only.
abbrev pub LentOnlyAhead : {h : History} → Sending h → ℕ → Type 0
LentOnlyAhead nothing i = Unit {0}
LentOnlyAhead (event {h = h} e x) i = AtLoan (λ m j. j ≡ i → ⊥) e h × LentOnlyAhead x i
LentOnlyAhead (ahead j p x) i = LentOnlyAhead x i

abbrev pub AheadInOrderOn : Scheduler → Plan → Type 0
AheadInOrderOn c P =
    (calls₁ calls₂ : List Call) (x : WithAhead (run c P calls₁).history (run c P calls₂).history)
    → EachCome P (sending_of x) → SendersHaveRoom P x → NoneAcceptedAlone x → (i : ℕ) → FirstFirst P (sending_of x) i
    → LentOnlyAhead (sending_of x) i → LeaveInOrder P (sending_of x) i

-- That the reference scheduler keeps it is `ahead-in-order`, in proofs/AheadInOrder.antt.
abbrev pub AheadInOrder : Scheduler → Type 0
AheadInOrder c = (bytes : List ℕ) → refusal bytes ≡ 0 → AheadInOrderOn c (plan_of bytes)

-- ---- by the run with sending ahead alone

-- RULES 24.6: the two promises above ask for room in the first run. It is enough that it is there in the second, or that the flow is in turn there.
abbrev pub SendersHaveRoomThere : Plan → {h₁ h₂ : History} → WithAhead h₁ h₂ → Type 0
SendersHaveRoomThere P {h₁} {h₂} x = (i : ℕ) → 0 < latest P x i → Each (AsksAt HasRoom P i) h₂

abbrev pub SendersInTurnThere : Plan → {h₁ h₂ : History} → WithAhead h₁ h₂ → Type 0
SendersInTurnThere P {h₁} {h₂} x = (i : ℕ) → 0 < latest P x i → Each (AsksAt InTurn P i) h₂

-- Then it was so in the first run too. On the reference scheduler that is `room-without` and `in-turn-without`, in proofs/InTurnWithout.antt.
abbrev pub RoomWithoutOn : Scheduler → Plan → Type 0
RoomWithoutOn c P =
    (calls₁ calls₂ : List Call) (x : WithAhead (run c P calls₁).history (run c P calls₂).history)
    → EachCome P (sending_of x) → NoneAcceptedAlone x → SendersHaveRoomThere P x → SendersHaveRoom P x

abbrev pub RoomWithout : Scheduler → Type 0
RoomWithout c = (bytes : List ℕ) → refusal bytes ≡ 0 → RoomWithoutOn c (plan_of bytes)

abbrev pub InTurnWithoutOn : Scheduler → Plan → Type 0
InTurnWithoutOn c P =
    (calls₁ calls₂ : List Call) (x : WithAhead (run c P calls₁).history (run c P calls₂).history)
    → EachCome P (sending_of x) → NoneAcceptedAlone x → SendersInTurnThere P x → SendersInTurn P x

abbrev pub InTurnWithout : Scheduler → Type 0
InTurnWithout c = (bytes : List ℕ) → refusal bytes ≡ 0 → InTurnWithoutOn c (plan_of bytes)

-- ---- by slots that are granted in order

-- RULES 24.6: the promises above, of flows that are granted their slots in order, whether or not they have room. That the reference scheduler keeps both is
-- `sends-by-order` and `leave-by-order`, in proofs/AheadByOrder.antt.
abbrev pub AheadByOrderOn : Scheduler → Plan → Type 0
AheadByOrderOn c P =
    (calls₁ calls₂ : List Call) (x : WithAhead (run c P calls₁).history (run c P calls₂).history)
    → EachCome P (sending_of x) → SendersInOrder P x → NoneAcceptedAlone x → BookedAlike P x × (EachReady P (sending_of x) → SentWell P (sending_of x))

abbrev pub AheadByOrder : Scheduler → Type 0
AheadByOrder c = (bytes : List ℕ) → refusal bytes ≡ 0 → AheadByOrderOn c (plan_of bytes)

abbrev pub LeaveByOrderOn : Scheduler → Plan → Type 0
LeaveByOrderOn c P =
    (calls₁ calls₂ : List Call) (x : WithAhead (run c P calls₁).history (run c P calls₂).history)
    → EachCome P (sending_of x) → SendersInOrder P x → NoneAcceptedAlone x → (i : ℕ) → FirstFirst P (sending_of x) i
    → LentOnlyAhead (sending_of x) i → LeaveInOrder P (sending_of x) i

abbrev pub LeaveByOrder : Scheduler → Type 0
LeaveByOrder c = (bytes : List ℕ) → refusal bytes ≡ 0 → LeaveByOrderOn c (plan_of bytes)

-- ---- by shares of cells

-- RULES 24.6: flow i asks within its share in h, with cells by how late they are given back. Two shares are such cells.
pub record HasShares (P : Plan) (i : ℕ) (h : History) : Type 0 where
  pub known : i < flow_count P
  pub late : ℕ
  pub keeps : KeepsShares late 0 P i h

abbrev pub SendersHaveShares : Plan → {h₁ h₂ : History} → WithAhead h₁ h₂ → Type 0
SendersHaveShares P {h₁} x = (i : ℕ) → 0 < latest P x i → HasShares P i h₁

abbrev pub SharesInOrderOn : Scheduler → Plan → Type 0
SharesInOrderOn c P =
    (calls₁ calls₂ : List Call) (x : WithAhead (run c P calls₁).history (run c P calls₂).history) → SendersHaveShares P x → SendersInOrder P x

-- Then it is granted its slots in order. On the reference scheduler that is `shares-order-senders`, in proofs/AheadByOrder.antt.
abbrev pub SharesOrderSenders : Scheduler → Type 0
SharesOrderSenders c = (bytes : List ℕ) → refusal bytes ≡ 0 → SharesInOrderOn c (plan_of bytes)
