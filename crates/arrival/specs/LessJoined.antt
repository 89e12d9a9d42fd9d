-- What is asked of a stream from one board to the next, part by part, and what follows from it on the next board: so that a part can be left out, for short
-- lists of calls that show what it is for. Assumes nothing.
use Rattle.std.specs.Prelude.{ℕ, ◌+◌, ◌%◌, ◌≤◌, ◌<◌, ◌≡◌, List, ◌++◌, true, eqb, length}
use Rattle.model.specs.Tables.{any, tally}
use Rattle.model.specs.Word.{flow_of, quantum_of, departure_of}
use Rattle.model.specs.Plan.{Plan, positions, flow_count, entry, plan_of, refusal}
use Rattle.model.specs.Calls.{History}
use Rattle.model.specs.History.{ticks, frame_of, well_formed, is_granted_reset, marks_of, grant_at, lend_at, expected_number}
use Rattle.model.specs.Claim.{Each}
use Rattle.model.specs.Scheduler.{Scheduler}
use Rattle.model.specs.TwoHops.{InStep}
use Rattle.arrival.specs.Delay.{newest_frame, RoomFrom, next_frame_of, AtAnswer, IsGranted}
use Rattle.arrival.specs.SeveralLinks.{slots_of, sent_slots, tile, next_tile, Together, Ran}

-- ---- the parts of what is asked of a request on the second board

-- of flow i on a board with plan P and flow j on the next with plan Q, after h₁ and h₂, with word w
abbrev pub Joining : Type 1
Joining = (P Q : Plan) (i j : ℕ) (h₁ : History) (w : ℕ) (h₂ : History) → Type 0

abbrev pub And : Joining → Joining → Joining
And A B P Q i j h₁ w h₂ = A P Q i j h₁ w h₂ × B P Q i j h₁ w h₂

abbrev pub Numbered : Joining
Numbered P Q i j h₁ w h₂ = quantum_of w ≡ expected_number Q h₂ j

-- the slots in which flow i's tiles leave a board: `sent_slots`, and with those that were lent to it
abbrev pub Leaving : Type 0
Leaving = Plan → History → ℕ → List ℕ

abbrev pub with_lent : Leaving
with_lent P h i = slots_of i (marks_of (λ e h. grant_at P e h ++ lend_at e h) h)

module _ (left : Leaving) where
  -- the slot in which the tile that is asked for next leaves the first board
  abbrev pub next_left : (P Q : Plan) (i j : ℕ) (h₁ h₂ : History) → ℕ
  next_left P Q i j h₁ h₂ = tile (next_tile P Q i j h₂) (left P h₁ i)

  -- the word names that tile; and one of them, be it the next or not
  abbrev pub NamesNext : Joining
  NamesNext P Q i j h₁ w h₂ = (next_tile P Q i j h₂ < length (left P h₁ i)) × (departure_of w ≡ next_left P Q i j h₁ h₂ % positions Q)

  abbrev pub NamesOne : Joining
  NamesOne P Q i j h₁ w h₂ = any (length (left P h₁ i)) (λ n. eqb (departure_of w) (tile n (left P h₁ i) % positions Q)) ≡ true

  -- its slot has not gone by, and is not in the newest frame; and there is room from the frame after it on
  abbrev pub NotLate : Joining
  NotLate P Q i j h₁ w h₂ = ticks h₂ ≤ next_left P Q i j h₁ h₂

  abbrev pub BeforeNewest : Joining
  BeforeNewest P Q i j h₁ w h₂ = frame_of Q (next_left P Q i j h₁ h₂) < newest_frame Q h₂

  abbrev pub RoomAfter : Joining
  RoomAfter P Q i j h₁ w h₂ = RoomFrom Q j (next_frame_of Q (next_left P Q i j h₁ h₂)) h₂

  -- nothing left out, as `AsksForNext` asks it; and one part left out
  abbrev pub AllAsked : Joining
  AllAsked = And NamesNext (And NotLate (And BeforeNewest (And RoomAfter Numbered)))

  abbrev pub AllButOrder : Joining
  AllButOrder = And NamesOne (And NotLate (And BeforeNewest (And RoomAfter Numbered)))

  abbrev pub AllButLate : Joining
  AllButLate = And NamesNext (And BeforeNewest (And RoomAfter Numbered))

  abbrev pub AllButNewest : Joining
  AllButNewest = And NamesNext (And NotLate (And RoomAfter Numbered))

  abbrev pub AllButRoom : Joining
  AllButRoom = And NamesNext (And NotLate (And BeforeNewest Numbered))

  abbrev pub AllButNumber : Joining
  AllButNumber = And NamesNext (And NotLate (And BeforeNewest RoomAfter))

-- ---- what follows on the second board

-- Every request is granted, and each tile comes up at the latest in the frame after the one in which it left the first. Tiles are told by number: grant
-- number n on the second board is of tile n, as it is where they are asked for in order.
pub record NextInTime (left : Leaving) (P Q : Plan) (i j : ℕ) (h₁ h₂ : History) : Type 0 where
  pub granted : Each (AtAnswer (λ w x h. well_formed Q w ≡ true → flow_of w ≡ j → IsGranted x)) h₂
  pub frames_later : (n : ℕ) → n < length (sent_slots Q h₂ j) → frame_of Q (tile n (sent_slots Q h₂ j)) ≤ frame_of P (tile n (left P h₁ i)) + 1

abbrev pub SharesKept : (share₁ share₂ : ℕ) → Type 0
SharesKept share₁ share₂ = share₁ ≤ share₂

abbrev pub NoReset : History → Type 0
NoReset h = tally is_granted_reset h ≡ 0

-- RULES 22.11: of any two boards whose plans are as I says, whose shares are as S says and whose events are as N says, and on which the stream asks
-- as A says. That the reference scheduler keeps it with nothing left out is `two-boards`, in proofs/LessJoined.antt.
abbrev pub TwoBoardsBy : (I : (P Q : Plan) → Type 0) (S : (share₁ share₂ : ℕ) → Type 0) (N : History → Type 0) (left : Leaving) (A : Joining) → Scheduler → Type 0
TwoBoardsBy I S N left A c =
    (bytes₁ bytes₂ : List ℕ) → refusal bytes₁ ≡ 0 → refusal bytes₂ ≡ 0 → I (plan_of bytes₁) (plan_of bytes₂)
    → (i j : ℕ) → i < flow_count (plan_of bytes₁) → j < flow_count (plan_of bytes₂) → S (entry (plan_of bytes₁) i).share (entry (plan_of bytes₂) j).share
    → (h₁ h₂ : History) → Ran c (plan_of bytes₁) h₁ → Ran c (plan_of bytes₂) h₂ → N h₁ → N h₂
    → Together (plan_of bytes₁) (plan_of bytes₂) i j (A (plan_of bytes₁) (plan_of bytes₂) i j) h₁ h₂ → NextInTime left (plan_of bytes₁) (plan_of bytes₂) i j h₁ h₂

abbrev pub TwoBoards : Scheduler → Type 0
TwoBoards = TwoBoardsBy InStep SharesKept NoReset sent_slots (AllAsked sent_slots)
