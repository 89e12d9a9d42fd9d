-- Two runs from one plan, the second of which sends tiles ahead of their booked slots: nobody's bookings move. It names no link, only calls and answers.
-- Assumes nothing.
--
-- Its limits:
-- - The flow that sends ahead keeps its bookings as long as each of its grants in the first run comes after the slots that it has sent ahead. A flow that
--   sends nothing ahead keeps its own whatever the others do.
-- - A refusal of the flow that sends ahead may have another number: 12 in the second run where it is 20 in the first.
-- - Credits that the first run refuses are to be refused in the second too. One for a cell that only the second run counts would be taken there.
-- - Lends are answered with one flow in both runs, or refused. Refused ones may stand in one run alone.
-- - A reset is made in both. The first run is to be granted one only when the slots sent ahead have come up: while one is to come, its flow holds a cell
--   more in the second run, and that refuses. Where each slot sent ahead was booked, this is so by itself.
use Rattle.std.specs.Prelude.{ℕ, ◌≤◌, ◌<◌, ◌≡◌, List, ◌∷◌, [], cond, leb, eqb}
use Rattle.model.specs.Word.{flow_of, departure_of}
use Rattle.model.specs.Plan.{Plan, plan_of, refusal}
use Rattle.model.specs.Calls.{Call, Grant, CreditAnswer, TickAnswer, ResetAnswer, Event, History, requested, credited, ticked, lent, accepted, refused}
use Rattle.model.specs.History.{ticks, slot_after, grants, WasGranted}
use Rattle.model.specs.Claim.{Each}
use Rattle.model.specs.Scheduler.{Scheduler, run}
use Rattle.arrival.specs.Delay.{AsksAt}
use Rattle.arrival.specs.BooksInOrder.{InTurn, AfterThoseAt}

-- ---- the two runs

-- RULES 24.4: they make the same calls in the same places, whatever the answers are, but for the tiles that the second run sends ahead. As in a
-- history, the newest event is first.
pub data WithAhead : (h₁ h₂ : History) → Type 0 where
  start : WithAhead [] []
  both_tick : {h₁ h₂ : History} {x₁ x₂ : TickAnswer} → WithAhead h₁ h₂ → WithAhead (ticked x₁ ∷ h₁) (ticked x₂ ∷ h₂)
  both_request : {h₁ h₂ : History} {a₁ a₂ : Grant} (w : ℕ) → WithAhead h₁ h₂ → WithAhead (requested w a₁ ∷ h₁) (requested w a₂ ∷ h₂)
  both_credit : {h₁ h₂ : History} {a₁ a₂ : CreditAnswer} (j p : ℕ) → WithAhead h₁ h₂ → WithAhead (credited j p a₁ ∷ h₁) (credited j p a₂ ∷ h₂)
  both_lend : {h₁ h₂ : History} {m₁ m₂ : ℕ} (j : ℕ) → WithAhead h₁ h₂ → WithAhead (lent m₁ (accepted j) ∷ h₁) (lent m₂ (accepted j) ∷ h₂)
  first_refused : {h₁ h₂ : History} {m r : ℕ} → WithAhead h₁ h₂ → WithAhead (lent m (refused r) ∷ h₁) h₂
  second_refused : {h₁ h₂ : History} {m r : ℕ} → WithAhead h₁ h₂ → WithAhead h₁ (lent m (refused r) ∷ h₂)
  both_reset : {h₁ h₂ : History} {a₁ a₂ : ResetAnswer} → WithAhead h₁ h₂ → WithAhead (Event.reset a₁ ∷ h₁) (Event.reset a₂ ∷ h₂)
  -- A tile of flow i leaves in the current slot, ahead of position p. Since the credit is taken, p is later than CP.
  sent_ahead : {h₁ h₂ : History} {m : ℕ} (i p : ℕ) → WithAhead h₁ h₂ → WithAhead h₁ (credited i p (accepted tt) ∷ lent m (accepted i) ∷ h₂)

-- the later of two slots
abbrev pub later_of : ℕ → ℕ → ℕ
later_of a b = cond (leb a b) b a

-- the latest slot that flow j has sent ahead so far, and 0 where there is none
abbrev pub latest : Plan → {h₁ h₂ : History} → WithAhead h₁ h₂ → ℕ → ℕ
latest P start j = 0
latest P (both_tick x) j = latest P x j
latest P (both_request w x) j = latest P x j
latest P (both_credit k p x) j = latest P x j
latest P (both_lend k x) j = latest P x j
latest P (first_refused x) j = latest P x j
latest P (second_refused x) j = latest P x j
latest P (both_reset x) j = latest P x j
latest P (sent_ahead {h₁ = h₁} i p x) j = cond (eqb j i) (later_of (slot_after P (ticks h₁) p) (latest P x j)) (latest P x j)

-- ---- what is asked of them

-- The answer after t ticks, if it is a grant, is of slot b or a later one.
abbrev pub GrantFrom : Plan → (t b : ℕ) → Grant → Type 0
GrantFrom P t b (accepted v) = b ≤ slot_after P t (departure_of v)
GrantFrom P t b (refused r) = Unit {0}

-- The answer to a reset, where slot t is current: if it is granted, slot b j of each flow j has come up.
abbrev pub ResetFrom : (t : ℕ) (b : ℕ → ℕ) → ResetAnswer → Type 0
ResetFrom t b (accepted u) = (j : ℕ) → b j ≤ t
ResetFrom t b (refused r) = Unit {0}

-- a credit that is refused in the first run is refused in the second
abbrev pub RefusedToo : CreditAnswer → CreditAnswer → Type 0
RefusedToo (accepted u₁) a₂ = Unit {0}
RefusedToo (refused r₁) (accepted u₂) = ⊥
RefusedToo (refused r₁) (refused r₂) = Unit {0}

-- RULES 24.5: in the first run no flow is granted a slot before one that it has sent ahead.
abbrev pub GrantsAfter : Plan → {h₁ h₂ : History} → WithAhead h₁ h₂ → Type 0
GrantsAfter P start = Unit {0}
GrantsAfter P (both_tick x) = GrantsAfter P x
GrantsAfter P (both_request {h₁ = h₁} {a₁ = a₁} w x) = GrantFrom P (ticks h₁) (latest P x (flow_of w)) a₁ × GrantsAfter P x
GrantsAfter P (both_credit j p x) = GrantsAfter P x
GrantsAfter P (both_lend j x) = GrantsAfter P x
GrantsAfter P (first_refused x) = GrantsAfter P x
GrantsAfter P (second_refused x) = GrantsAfter P x
GrantsAfter P (both_reset x) = GrantsAfter P x
GrantsAfter P (sent_ahead i p x) = GrantsAfter P x

-- In the first run no reset is granted while a slot that was sent ahead is to come.
abbrev pub ResetsAfter : Plan → {h₁ h₂ : History} → WithAhead h₁ h₂ → Type 0
ResetsAfter P start = Unit {0}
ResetsAfter P (both_tick x) = ResetsAfter P x
ResetsAfter P (both_request w x) = ResetsAfter P x
ResetsAfter P (both_credit j p x) = ResetsAfter P x
ResetsAfter P (both_lend j x) = ResetsAfter P x
ResetsAfter P (first_refused x) = ResetsAfter P x
ResetsAfter P (second_refused x) = ResetsAfter P x
ResetsAfter P (both_reset {h₁ = h₁} {a₁ = a₁} x) = ResetFrom (ticks h₁) (λ j. latest P x j) a₁ × ResetsAfter P x
ResetsAfter P (sent_ahead i p x) = ResetsAfter P x

-- RULES 24.5: no credit that both make is taken in the second run alone.
abbrev pub NoneAcceptedAlone : {h₁ h₂ : History} → WithAhead h₁ h₂ → Type 0
NoneAcceptedAlone start = Unit {0}
NoneAcceptedAlone (both_tick x) = NoneAcceptedAlone x
NoneAcceptedAlone (both_request w x) = NoneAcceptedAlone x
NoneAcceptedAlone (both_credit {a₁ = a₁} {a₂ = a₂} j p x) = RefusedToo a₁ a₂ × NoneAcceptedAlone x
NoneAcceptedAlone (both_lend j x) = NoneAcceptedAlone x
NoneAcceptedAlone (first_refused x) = NoneAcceptedAlone x
NoneAcceptedAlone (second_refused x) = NoneAcceptedAlone x
NoneAcceptedAlone (both_reset x) = NoneAcceptedAlone x
NoneAcceptedAlone (sent_ahead i p x) = NoneAcceptedAlone x

-- ---- what follows

-- granted in both, at one position and with one word, or refused in both
abbrev pub SameGrant : Grant → Grant → Type 0
SameGrant (accepted v₁) (accepted v₂) = v₁ ≡ v₂
SameGrant (accepted v₁) (refused r₂) = ⊥
SameGrant (refused r₁) (accepted v₂) = ⊥
SameGrant (refused r₁) (refused r₂) = Unit {0}

-- RULES 24.5: the answers to a request after t ticks, where b is the latest slot that its flow has sent ahead. If that has come up, they are the
-- same, the number of a refusal with them.
pub record AnsweredAlike (t b : ℕ) (a₁ a₂ : Grant) : Type 0 where
  pub same_grant : SameGrant a₁ a₂
  pub same_answer : b ≤ t → a₁ ≡ a₂

-- a credit that is taken in the first run is taken in the second
abbrev pub AcceptedToo : CreditAnswer → CreditAnswer → Type 0
AcceptedToo (accepted u₁) a₂ = a₂ ≡ accepted tt
AcceptedToo (refused r₁) a₂ = Unit {0}

-- so of each call that both make
abbrev pub Unmoved : Plan → {h₁ h₂ : History} → WithAhead h₁ h₂ → Type 0
Unmoved P start = Unit {0}
Unmoved P (both_tick {x₁ = x₁} {x₂ = x₂} x) = (x₁ ≡ x₂) × Unmoved P x
Unmoved P (both_request {h₁ = h₁} {a₁ = a₁} {a₂ = a₂} w x) = AnsweredAlike (ticks h₁) (latest P x (flow_of w)) a₁ a₂ × Unmoved P x
Unmoved P (both_credit {a₁ = a₁} {a₂ = a₂} j p x) = AcceptedToo a₁ a₂ × Unmoved P x
Unmoved P (both_lend j x) = Unmoved P x
Unmoved P (first_refused x) = Unmoved P x
Unmoved P (second_refused x) = Unmoved P x
Unmoved P (both_reset {a₁ = a₁} {a₂ = a₂} x) = (a₁ ≡ a₂) × Unmoved P x
Unmoved P (sent_ahead i p x) = Unmoved P x

-- the calls are answered so, and the granted slots are the same, flow by flow
pub record BookedAlike (P : Plan) {h₁ h₂ : History} (x : WithAhead h₁ h₂) : Type 0 where
  pub unmoved : Unmoved P x
  pub same_grants : grants P h₁ ≡ grants P h₂

-- RULES 24.5: two lists of calls on a scheduler, from one plan.
abbrev pub NobodyMovesOn : Scheduler → Plan → Type 0
NobodyMovesOn c P =
    (calls₁ calls₂ : List Call) (x : WithAhead (run c P calls₁).history (run c P calls₂).history)
    → GrantsAfter P x → ResetsAfter P x → NoneAcceptedAlone x → BookedAlike P x

-- for the bytes of every accepted plan. That the reference scheduler keeps it is `nobody-moves`, in proofs/AheadRuns.antt.
abbrev pub NobodyMoves : Scheduler → Type 0
NobodyMoves c = (bytes : List ℕ) → refusal bytes ≡ 0 → NobodyMovesOn c (plan_of bytes)

-- ---- a flow that is in turn at each request may send ahead what it has booked

-- each slot that is sent ahead was granted to the flow
abbrev pub OfBooked : Plan → {h₁ h₂ : History} → WithAhead h₁ h₂ → Type 0
OfBooked P start = Unit {0}
OfBooked P (both_tick x) = OfBooked P x
OfBooked P (both_request w x) = OfBooked P x
OfBooked P (both_credit j p x) = OfBooked P x
OfBooked P (both_lend j x) = OfBooked P x
OfBooked P (first_refused x) = OfBooked P x
OfBooked P (second_refused x) = OfBooked P x
OfBooked P (both_reset x) = OfBooked P x
OfBooked P (sent_ahead {h₁ = h₁} i p x) = WasGranted P h₁ i (slot_after P (ticks h₁) p) × OfBooked P x

-- RULES 24.6: each flow that sends ahead is in turn at each of its requests in the first run
abbrev pub SendersInTurn : Plan → {h₁ h₂ : History} → WithAhead h₁ h₂ → Type 0
SendersInTurn P {h₁} x = (i : ℕ) → 0 < latest P x i → Each (AsksAt InTurn P i) h₁

abbrev pub InTurnNobodyMovesOn : Scheduler → Plan → Type 0
InTurnNobodyMovesOn c P =
    (calls₁ calls₂ : List Call) (x : WithAhead (run c P calls₁).history (run c P calls₂).history)
    → OfBooked P x → SendersInTurn P x → NoneAcceptedAlone x → BookedAlike P x

-- That the reference scheduler keeps it is `in-turn-nobody-moves`, in proofs/AheadInTurn.antt.
abbrev pub InTurnNobodyMoves : Scheduler → Type 0
InTurnNobodyMoves c = (bytes : List ℕ) → refusal bytes ≡ 0 → InTurnNobodyMovesOn c (plan_of bytes)

-- ---- so may one that is granted its slots in order

-- RULES 24.6: each flow that sends ahead is granted its slots in order in the first run. A flow in turn is; so is one that keeps its shares of cells, which
-- may lack room at a request (`SharesInOrder`, in SharesOfCells.antt of the crate arrival).
abbrev pub SendersInOrder : Plan → {h₁ h₂ : History} → WithAhead h₁ h₂ → Type 0
SendersInOrder P {h₁} x = (i : ℕ) → 0 < latest P x i → Each (AfterThoseAt P i) h₁

abbrev pub InOrderNobodyMovesOn : Scheduler → Plan → Type 0
InOrderNobodyMovesOn c P =
    (calls₁ calls₂ : List Call) (x : WithAhead (run c P calls₁).history (run c P calls₂).history)
    → OfBooked P x → SendersInOrder P x → NoneAcceptedAlone x → BookedAlike P x

-- That the reference scheduler keeps it is `in-order-nobody-moves`, in proofs/AheadInTurn.antt.
abbrev pub InOrderNobodyMoves : Scheduler → Type 0
InOrderNobodyMoves c = (bytes : List ℕ) → refusal bytes ≡ 0 → InOrderNobodyMovesOn c (plan_of bytes)
