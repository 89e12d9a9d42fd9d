-- Two lists of calls from one plan, the second with lends and credits besides, and the two premises that make them a run without and one with tiles sent
-- ahead (`WithAhead`): lends that both make are answered alike, and nothing stands between a lend of the second and its credit. It names no link, only
-- calls and answers. Assumes nothing.
use Rattle.std.specs.Prelude.{ℕ, ◌<◌, ◌≡◌, List, ◌∷◌, []}
use Rattle.std.proofs.Math.Option.{Option, some, none}
use Rattle.model.specs.Plan.{Plan, flow_count, plan_of, refusal}
use Rattle.model.specs.Calls.{Call, Grant, CreditAnswer, TickAnswer, LendAnswer, ResetAnswer, Event, History, requested, credited, ticked, lent, accepted, refused}
use Rattle.model.specs.History.{grants}
use Rattle.model.specs.Claim.{Each}
use Rattle.model.specs.Scheduler.{Scheduler, run}
use Rattle.model.specs.LessAsked.{HasRoom}
use Rattle.arrival.specs.AcceptedCredits.{AtCredit, IsAccepted}
use Rattle.arrival.specs.AnsweredLends.{AtReset}
use Rattle.arrival.specs.Delay.{AsksAt}
use Rattle.ahead.specs.AheadRuns.{WithAhead}

-- ---- the same calls

-- RULES 24.4: they make the same calls in the same places, whatever the answers are, but that refused lends may stand in one alone; and the second has lends
-- that are answered and credits that are taken besides, at any place. As in a history, the newest event is first.
pub data SameCalls : (h₁ h₂ : History) → Type 0 where
  no_call : SameCalls [] []
  same_tick : {h₁ h₂ : History} {x₁ x₂ : TickAnswer} → SameCalls h₁ h₂ → SameCalls (ticked x₁ ∷ h₁) (ticked x₂ ∷ h₂)
  same_request : {h₁ h₂ : History} {a₁ a₂ : Grant} (w : ℕ) → SameCalls h₁ h₂ → SameCalls (requested w a₁ ∷ h₁) (requested w a₂ ∷ h₂)
  same_credit : {h₁ h₂ : History} {a₁ a₂ : CreditAnswer} (j p : ℕ) → SameCalls h₁ h₂ → SameCalls (credited j p a₁ ∷ h₁) (credited j p a₂ ∷ h₂)
  same_lend : {h₁ h₂ : History} {a₁ a₂ : LendAnswer} (m₁ m₂ : ℕ) → SameCalls h₁ h₂ → SameCalls (lent m₁ a₁ ∷ h₁) (lent m₂ a₂ ∷ h₂)
  same_reset : {h₁ h₂ : History} {a₁ a₂ : ResetAnswer} → SameCalls h₁ h₂ → SameCalls (Event.reset a₁ ∷ h₁) (Event.reset a₂ ∷ h₂)
  refused_first : {h₁ h₂ : History} {m r : ℕ} → SameCalls h₁ h₂ → SameCalls (lent m (refused r) ∷ h₁) h₂
  refused_second : {h₁ h₂ : History} {m r : ℕ} → SameCalls h₁ h₂ → SameCalls h₁ (lent m (refused r) ∷ h₂)
  lent_besides : {h₁ h₂ : History} (m i : ℕ) → SameCalls h₁ h₂ → SameCalls h₁ (lent m (accepted i) ∷ h₂)
  credited_besides : {h₁ h₂ : History} (i p : ℕ) → SameCalls h₁ h₂ → SameCalls h₁ (credited i p (accepted tt) ∷ h₂)

-- ---- the two premises

-- answered with one flow, or refused in both
abbrev pub SameLoan : LendAnswer → LendAnswer → Type 0
SameLoan (accepted i) (accepted j) = i ≡ j
SameLoan (accepted i) (refused s) = ⊥
SameLoan (refused r) (accepted j) = ⊥
SameLoan (refused r) (refused s) = Unit {0}

-- RULES 24.4: lends that both make are answered alike. A pair moves the turn on, and with it who gets the next lend.
abbrev pub LendsAlike : {h₁ h₂ : History} → SameCalls h₁ h₂ → Type 0
LendsAlike no_call = Unit {0}
LendsAlike (same_tick x) = LendsAlike x
LendsAlike (same_request w x) = LendsAlike x
LendsAlike (same_credit j p x) = LendsAlike x
LendsAlike (same_lend {a₁ = a₁} {a₂ = a₂} m₁ m₂ x) = SameLoan a₁ a₂ × LendsAlike x
LendsAlike (same_reset x) = LendsAlike x
LendsAlike (refused_first x) = LendsAlike x
LendsAlike (refused_second x) = LendsAlike x
LendsAlike (lent_besides m i x) = LendsAlike x
LendsAlike (credited_besides i p x) = LendsAlike x

-- no credit waits for its lend; and one of flow i does, which the lend is answered with
abbrev pub NoneWaits : Option ℕ → Type 0 → Type 0
NoneWaits none rest = rest
NoneWaits (some i) rest = ⊥

abbrev pub WaitsFor : Option ℕ → ℕ → Type 0 → Type 0
WaitsFor none j rest = ⊥
WaitsFor (some i) j rest = (j ≡ i) × rest

-- RULES 24.1: each lend that the second has besides is followed at once by a credit of its flow that it has besides, and each such credit follows such a
-- lend. `o` is the flow of a credit whose lend comes next, seen from the newest event on.
abbrev pub AtOnceAfter : {h₁ h₂ : History} → (o : Option ℕ) → SameCalls h₁ h₂ → Type 0
AtOnceAfter o no_call = NoneWaits o (Unit {0})
AtOnceAfter o (same_tick x) = NoneWaits o (AtOnceAfter none x)
AtOnceAfter o (same_request w x) = NoneWaits o (AtOnceAfter none x)
AtOnceAfter o (same_credit j p x) = NoneWaits o (AtOnceAfter none x)
AtOnceAfter o (same_lend m₁ m₂ x) = NoneWaits o (AtOnceAfter none x)
AtOnceAfter o (same_reset x) = NoneWaits o (AtOnceAfter none x)
AtOnceAfter o (refused_first x) = NoneWaits o (AtOnceAfter none x)
AtOnceAfter o (refused_second x) = NoneWaits o (AtOnceAfter none x)
AtOnceAfter o (lent_besides m j x) = WaitsFor o j (AtOnceAfter none x)
AtOnceAfter o (credited_besides i p x) = NoneWaits o (AtOnceAfter (some i) x)

abbrev pub AtOnce : {h₁ h₂ : History} → SameCalls h₁ h₂ → Type 0
AtOnce x = AtOnceAfter none x

-- Then the second run is one with tiles sent ahead. That it is so is `same-is-ahead`, in proofs/SameCalls.antt.
abbrev pub SameIsAhead : Type 0
SameIsAhead = (h₁ h₂ : History) (x : SameCalls h₁ h₂) → LendsAlike x → AtOnce x → WithAhead h₁ h₂

-- and each run with tiles sent ahead is one: `ahead-is-same`, there
pub record SameButAhead (h₁ h₂ : History) : Type 0 where
  pub same : SameCalls h₁ h₂
  pub lends_alike : LendsAlike same
  pub at-once : AtOnce same

abbrev pub AheadIsSame : Type 0
AheadIsSame = (h₁ h₂ : History) → WithAhead h₁ h₂ → SameButAhead h₁ h₂

-- ---- what each is for

-- in the first run each flow has room at each request, each credit is taken, and there is no reset
pub record Plain (P : Plan) (h : History) : Type 0 where
  pub room : (i : ℕ) → i < flow_count P → Each (AsksAt HasRoom P i) h
  pub credits_accepted : Each (AtCredit (λ i p a h. IsAccepted a)) h
  pub no_reset : Each (AtReset (λ a h. ⊥)) h

-- RULES 24.9: the same slots are granted, if the calls are as Q says. With one of the two premises alone that is false: `not-without-alike` and
-- `not-without-at-once`, in proofs/SameCalls.antt.
abbrev pub SameGrantsIf : ((h₁ h₂ : History) → SameCalls h₁ h₂ → Type 0) → Scheduler → Type 0
SameGrantsIf Q c =
    (bytes : List ℕ) → refusal bytes ≡ 0 → (calls₁ calls₂ : List Call)
    (x : SameCalls (run c (plan_of bytes) calls₁).history (run c (plan_of bytes) calls₂).history) → Plain (plan_of bytes) (run c (plan_of bytes) calls₁).history
    → Q (run c (plan_of bytes) calls₁).history (run c (plan_of bytes) calls₂).history x
    → grants (plan_of bytes) (run c (plan_of bytes) calls₁).history ≡ grants (plan_of bytes) (run c (plan_of bytes) calls₂).history
