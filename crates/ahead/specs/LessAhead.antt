-- What is asked of two runs, the second of which sends tiles ahead, with one part of it left out: for short lists of calls that show what each part is for.
-- Assumes nothing.
use Rattle.std.specs.Prelude.{ℕ, ◌<◌, ◌≡◌, List}
use Rattle.model.specs.Plan.{Plan, flow_count, plan_of, refusal}
use Rattle.model.specs.Calls.{Call, History}
use Rattle.model.specs.Claim.{Each, EachSince}
use Rattle.model.specs.Scheduler.{Scheduler, run}
use Rattle.model.specs.OtherPremises.{Premise}
use Rattle.arrival.specs.Delay.{due_slot, AsksAt}
use Rattle.arrival.specs.SeveralLinks.{Board, plan_on, Joined, Within}
use Rattle.arrival.specs.BooksInOrder.{NoneDueAfter, InOrder}
use Rattle.ahead.specs.AheadRuns.{WithAhead, latest, GrantsAfter, ResetsAfter, NoneAcceptedAlone, BookedAlike, OfBooked, SendersInTurn}
use Rattle.ahead.specs.Sendings.{EachReady, EachCome, sending_of, SendersHaveRoom, SendersHaveRoomThere, FirstFirst, LentOnlyAhead, LeaveInOrder}
use Rattle.ahead.specs.AheadOverLinks.{LeaveWithin, LeaveAfter}

-- what may be asked of two runs, and what may follow
abbrev pub Asked : Type 1
Asked = (P : Plan) (h₁ h₂ : History) → WithAhead h₁ h₂ → Type 0

-- so of two lists of calls on a scheduler
abbrev pub FollowsIf : (asked follows : Asked) → Scheduler → Type 0
FollowsIf Q R c =
    (bytes : List ℕ) → refusal bytes ≡ 0 → (calls₁ calls₂ : List Call)
    (x : WithAhead (run c (plan_of bytes) calls₁).history (run c (plan_of bytes) calls₂).history)
    → Q (plan_of bytes) (run c (plan_of bytes) calls₁).history (run c (plan_of bytes) calls₂).history x
    → R (plan_of bytes) (run c (plan_of bytes) calls₁).history (run c (plan_of bytes) calls₂).history x

-- ---- nobody's bookings move

-- RULES 24.9: what is asked for, so that bookings stay.
abbrev pub BookedAlikeIf : Asked → Scheduler → Type 0
BookedAlikeIf Q = FollowsIf Q (λ P h₁ h₂ x. BookedAlike P x)

-- `NobodyMoves` without the order of grants, without that of resets, and without the credits
abbrev pub ButOrder : Asked
ButOrder P h₁ h₂ x = ResetsAfter P x × NoneAcceptedAlone x

abbrev pub ButResets : Asked
ButResets P h₁ h₂ x = GrantsAfter P x × NoneAcceptedAlone x

abbrev pub ButCredits : Asked
ButCredits P h₁ h₂ x = GrantsAfter P x × ResetsAfter P x

-- no grant before is for a tile that is due after this one
abbrev pub DueInTurn : Premise
DueInTurn P i w h = NoneDueAfter P h i (due_slot P w h)

abbrev pub SendersDueInTurn : Asked
SendersDueInTurn P h₁ h₂ x = (i : ℕ) → 0 < latest P x i → Each (AsksAt DueInTurn P i) h₁

-- `InTurnNobodyMoves` without the bookings, and without each part of a flow in turn
abbrev pub TurnButBooked : Asked
TurnButBooked P h₁ h₂ x = SendersInTurn P x × NoneAcceptedAlone x

abbrev pub TurnButRoom : Asked
TurnButRoom P h₁ h₂ x = OfBooked P x × (SendersDueInTurn P h₁ h₂ x × NoneAcceptedAlone x)

abbrev pub TurnButDue : Asked
TurnButDue P h₁ h₂ x = OfBooked P x × (SendersHaveRoom P x × NoneAcceptedAlone x)

-- what is left of it, and of `Ahead`, without the credits
abbrev pub TurnButCredits : Asked
TurnButCredits P h₁ h₂ x = OfBooked P x × (SendersInTurn P x × EachReady P (sending_of x))

-- `Ahead` without tiles that have come, and without room
abbrev pub AheadButReady : Asked
AheadButReady P h₁ h₂ x = SendersHaveRoom P x × NoneAcceptedAlone x

abbrev pub AheadButRoom : Asked
AheadButRoom P h₁ h₂ x = EachReady P (sending_of x) × NoneAcceptedAlone x

-- ---- flow 0's tiles leave in order

abbrev pub LeaveInOrderIf : Asked → Scheduler → Type 0
LeaveInOrderIf Q = FollowsIf Q (λ P h₁ h₂ x. LeaveInOrder P (sending_of x) 0)

-- which tile is sent ahead, and that flow 0 is lent slots for nothing else
abbrev pub Order : Asked
Order P h₁ h₂ x = FirstFirst P (sending_of x) 0 × LentOnlyAhead (sending_of x) 0

-- `AheadInOrder` without tiles that have come, without room, without the credits, and without each part of the order
abbrev pub OrderButReady : Asked
OrderButReady P h₁ h₂ x = AheadButReady P h₁ h₂ x × Order P h₁ h₂ x

abbrev pub OrderButRoom : Asked
OrderButRoom P h₁ h₂ x = AheadButRoom P h₁ h₂ x × Order P h₁ h₂ x

abbrev pub OrderButCredits : Asked
OrderButCredits P h₁ h₂ x = EachReady P (sending_of x) × (SendersHaveRoom P x × Order P h₁ h₂ x)

abbrev pub OrderButFirst : Asked
OrderButFirst P h₁ h₂ x = EachReady P (sending_of x) × (AheadButReady P h₁ h₂ x × LentOnlyAhead (sending_of x) 0)

abbrev pub OrderButLent : Asked
OrderButLent P h₁ h₂ x = EachReady P (sending_of x) × (AheadButReady P h₁ h₂ x × FirstFirst P (sending_of x) 0)

-- ---- room in the run without any

abbrev pub RoomIf : Asked → Scheduler → Type 0
RoomIf Q = FollowsIf Q (λ P h₁ h₂ x. SendersHaveRoom P x)

-- `RoomWithout` without tiles that have come, and without the credits
abbrev pub RoomButReady : Asked
RoomButReady P h₁ h₂ x = NoneAcceptedAlone x × SendersHaveRoomThere P x

abbrev pub RoomButCredits : Asked
RoomButCredits P h₁ h₂ x = EachReady P (sending_of x) × SendersHaveRoomThere P x

-- ---- over several links

-- `KeptWithin` without bookings that are alike, and without a stream that is lent nothing else
abbrev pub WithinButAlike : Scheduler → Type 0
WithinButAlike c =
    (k : ℕ) (P : Plan) (from : List ℕ) (b : Board c) → Within k P from b → (calls₂ : List Call) (x : WithAhead b.events (run c (plan_on b) calls₂).history)
    → LentOnlyAhead (sending_of x) b.stream → LeaveWithin k P from b x

abbrev pub WithinButLent : Scheduler → Type 0
WithinButLent c =
    (k : ℕ) (P : Plan) (from : List ℕ) (b : Board c) → Within k P from b → (calls₂ : List Call) (x : WithAhead b.events (run c (plan_on b) calls₂).history)
    → BookedAlike (plan_on b) x → LeaveWithin k P from b x

-- `KeptAfter` with tiles that may come in the very slot in which they are sent, in the place of those that are sent well
abbrev pub AfterButReady : Scheduler → Type 0
AfterButReady c =
    (a b : Board c) → Joined a b → (calls₁ calls₂ : List Call)
    (x : WithAhead a.events (run c (plan_on a) calls₁).history) (y : WithAhead b.events (run c (plan_on b) calls₂).history)
    → BookedAlike (plan_on a) x → LentOnlyAhead (sending_of x) a.stream
    → BookedAlike (plan_on b) y → LentOnlyAhead (sending_of y) b.stream → EachCome (plan_on b) (sending_of y) → LeaveAfter a b x y

-- ---- a flow that books in order

-- `BooksInOrder` with another premise on its requests
abbrev pub BooksInOrderBy : Premise → Scheduler → Type 0
BooksInOrderBy Q c =
    (bytes : List ℕ) → refusal bytes ≡ 0 → (calls : List Call) (i : ℕ) → i < flow_count (plan_of bytes)
    → EachSince (AsksAt Q (plan_of bytes) i) (run c (plan_of bytes) calls).history → InOrder (plan_of bytes) i (run c (plan_of bytes) calls).history
