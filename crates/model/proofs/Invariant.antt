-- The invariant that ties the link's tables, which go round, to the slots of the history, which are numbered on without end. Assumes nothing.
use Prim.Native.Nat.{ℕ, suc, ◌+◌, ◌-◌, ◌%◌, ◌≤◌, ◌<◌}
use mathlib.Core.Path.{◌≡◌}
use mathlib.Core.List.{List, [], ◌∷◌}
use mathlib.Core.Option.{Option, none}
use mathlib.Core.Bool.{Bool, false}
use native.Mathlib.Decide.{dec_lt}
use native.Mathlib.Omega.{arith}
use lib.ListN.{get_or}
use Rattle.model.specs.Tables.{tally}
use Rattle.model.specs.Plan.{Plan, positions, flow_count, entry}
use Rattle.model.specs.Link.{Link, Flow, flow}
use Rattle.model.specs.History.{Mark, frame_of, at_slot}
use Rattle.model.specs.Holding.{frame_start, InWindow}
use Rattle.model.proofs.Tallies.{All}
use Rattle.model.proofs.Marks.{marks_in, marks_up_to, up-to-past}
use Rattle.model.proofs.SlotOwners.{owner_in}
use Rattle.model.proofs.Slots.{some-position, last-in-window}
use Rattle.model.proofs.Window.{Current}

-- ---- what happened

pub record Ledger : Type 0 where
  pub now : ℕ  -- the current slot
  pub origin : ℕ  -- the frame with which the counts of grants begin
  pub grants : List Mark  -- the slots granted since then
  pub raises : List Mark  -- the slots from which a holding rose
  pub credits : List Mark  -- the slots from which a holding fell

abbrev pub with_grant : Ledger → Mark → Ledger
with_grant L m = record { now = L.now; origin = L.origin; grants = m ∷ L.grants; raises = m ∷ L.raises; credits = L.credits }

abbrev pub with_credit : Ledger → Mark → Ledger
with_credit L m = record { now = L.now; origin = L.origin; grants = L.grants; raises = L.raises; credits = m ∷ L.credits }

abbrev pub with_loan : Ledger → Mark → Ledger
with_loan L m = record { now = L.now; origin = L.origin; grants = L.grants; raises = m ∷ L.raises; credits = L.credits }

abbrev pub at_next_slot : Ledger → Ledger
at_next_slot L = record { now = suc L.now; origin = L.origin; grants = L.grants; raises = L.raises; credits = L.credits }

-- the counts of grants begin afresh
abbrev pub at_reset : Plan → Ledger → Ledger
at_reset P L = record { now = L.now; origin = frame_of P L.now; grants = []; raises = L.raises; credits = L.credits }

-- ---- a flow, where the grants are G, the raises B and the credits K

-- Of its share in frame a flow i has c left, and it has nothing in later frames.
pub record Spent (P : Plan) (G : List Mark) (i a c : ℕ) : Type 0 where
  pub spent : marks_in P i a G + c ≡ (entry P i).share
  pub none_after : (f : ℕ) → a < f → marks_in P i f G ≡ 0

-- In the frame k, flow i's injection frame is j and its remainder c.
pub record Injecting (P : Plan) (k : ℕ) (G : List Mark) (i j c : ℕ) : Type 0 where
  pub frame : ℕ  -- IF, numbered on without end
  pub low : k ≤ frame
  pub high : frame < k + P.frames
  pub injection_is : j ≡ frame % P.frames
  pub spends : Spent P G i frame c
  pub in_frames : (f : ℕ) → marks_in P i f G ≤ (entry P i).share

-- Where slot t is current, flow i's table of holdings says what it holds at slot s of the window; and at any slot it holds no more than its cells.
pub record HoldsAt (P : Plan) (t : ℕ) (B K : List Mark) (i : ℕ) (held : List ℕ) (s : ℕ) : Type 0 where
  pub at_slot : InWindow P t s → marks_up_to i s B ≡ marks_up_to i s K + get_or held (s % positions P) 0
  pub covered : marks_up_to i s K ≤ marks_up_to i s B
  pub within : marks_up_to i s B ≤ marks_up_to i s K + (entry P i).cells

abbrev pub Injects : Plan → ℕ → List Mark → ℕ → Flow → Type 0
Injects P k G i x = Injecting P k G i x.injection x.remainder

abbrev pub Holds : Plan → ℕ → List Mark → List Mark → ℕ → Flow → Type 0
Holds P t B K i x = (s : ℕ) → HoldsAt P t B K i x.held s

-- Flow i has room for one more from slot s on.
abbrev pub Room : Plan → List Mark → List Mark → ℕ → ℕ → Type 0
Room P B K i s = (r : ℕ) → s ≤ r → marks_up_to i r B < marks_up_to i r K + (entry P i).cells

-- ---- the marks, where slot t is current

-- m lies below the end of the window
abbrev pub Begun : Plan → ℕ → Mark → Type 0
Begun P t m = m.slot < frame_start P t + positions P

-- m is a grant to a flow of the plan, in a frame from o on
pub record Granted (P : Plan) (t o : ℕ) (m : Mark) : Type 0 where
  pub known : m.flow < flow_count P
  pub begun : Begun P t m
  pub since : o ≤ frame_of P m.slot

pub record MarksIn (P : Plan) (L : Ledger) : Type 0 where
  pub origin_le : L.origin ≤ frame_of P L.now
  pub grants_in : All (Granted P L.now L.origin) L.grants
  pub raises_in : All (Begun P L.now) L.raises
  pub credits_in : All (Begun P L.now) L.credits

-- ---- the owners, where the grants are G

-- The table says who was granted each slot of the window, and no slot was granted twice.
pub record Bookings (P : Plan) (t : ℕ) (G : List Mark) (owners : List (Option ℕ)) : Type 0 where
  pub owners_are : (s : ℕ) → InWindow P t s → get_or owners (s % positions P) none ≡ owner_in G s
  pub once : (s : ℕ) → tally (at_slot s) G ≤ 1

-- ---- the slots that have an owner, where slot t is current, the grants are G, all that raised a holding is B, and `marked` is the link's mark

-- No slot has two owners. A slot to come has one only if it is booked, and so has the current one where it is not marked.
pub record Owned (t : ℕ) (G B : List Mark) (marked : Bool) : Type 0 where
  pub one_owner : (s : ℕ) → tally (at_slot s) B ≤ 1
  pub to_come : (s : ℕ) → t < s → tally (at_slot s) B ≡ tally (at_slot s) G
  pub unmarked : marked ≡ false → tally (at_slot t) B ≡ tally (at_slot t) G

-- ---- the invariant

pub record Invariant (l : Link) (L : Ledger) : Type 0 where
  pub current : Current l.plan L.now l.current
  pub marks : MarksIn l.plan L
  pub bookings : Bookings l.plan L.now L.grants l.owners
  pub owned : Owned L.now L.grants L.raises l.marked
  pub injects : (i : ℕ) → i < flow_count l.plan → Injects l.plan (frame_of l.plan L.now) L.grants i (flow l i)
  pub holds : (i : ℕ) → i < flow_count l.plan → Holds l.plan L.now L.raises L.credits i (flow l i)

-- ---- past the window

-- What holds of the counts at each slot of the window from s on holds at each slot from s on.
pub from-the-window : {l : Link} {L : Ledger} → Invariant l L → (i : ℕ) (Q : ℕ → ℕ → Type 0) (s : ℕ) → InWindow l.plan L.now s
    → ((r : ℕ) → InWindow l.plan L.now r → s ≤ r → Q (marks_up_to i r L.raises) (marks_up_to i r L.credits))
    → (r : ℕ) → s ≤ r → Q (marks_up_to i r L.raises) (marks_up_to i r L.credits)
from-the-window {l} {L} v i Q s w h r le = go (dec_lt r b)
  where
    b : ℕ
    b = frame_start l.plan L.now + positions l.plan

    go : Dec (r < b) → Q (marks_up_to i r L.raises) (marks_up_to i r L.credits)
    go (yes below) = h r (record { low = omega (arith, w.low); high = below }) le
    go (no above) =
        let some = some-position v.current.accepted in
        rw (
          up-to-past i b r (b - 1) L.raises v.marks.raises_in (omega arith) (omega arith),
          up-to-past i b r (b - 1) L.credits v.marks.credits_in (omega arith) (omega arith),
        )
        (h (b - 1) (last-in-window v.current.accepted L.now) (omega (arith, w.high)))
