-- A flow that has room at each request of a run with tiles sent ahead, or is in turn there, is so in the run without any: it holds no more there. Assumes
-- nothing.
use Prim.Native.Nat.{ℕ, ◌+◌, ◌<◌}
use mathlib.Core.Path.{◌≡◌, refl, ap₂, subst}
use mathlib.Core.List.{◌∷◌, []}
use mathlib.Core.Bool.{cond}
use native.Mathlib.Omega.{arith}
use lib.Dec.{eqb}
use Rattle.model.specs.Word.{flow_of}
use Rattle.model.specs.Plan.{Plan, Accepted, flow_count, plan_of, entry}
use Rattle.model.specs.Calls.{Grant, ResetAnswer, Event, History, requested, credited, ticked, lent, accepted, refused}
use Rattle.model.specs.Link.{Link}
use Rattle.model.specs.History.{ticks, slot_after, is_granted_reset, up_to}
use Rattle.model.specs.Holding.{InWindow}
use Rattle.model.specs.Claim.{Each}
use Rattle.model.specs.Claim as claim
use Rattle.model.specs.Scheduler.{reference}
use Rattle.arrival.specs.Delay.{due_since, AsksAt}
use Rattle.model.specs.LessAsked.{HasRoom}
use Rattle.arrival.specs.BooksInOrder.{InTurn}
use Rattle.ahead.specs.AheadRuns.{WithAhead, start, both_tick, both_request, both_credit, both_lend, first_refused, second_refused, both_reset, sent_ahead}
use Rattle.ahead.specs.AheadRuns.{latest, NoneAcceptedAlone, SameGrant, Unmoved}
use Rattle.ahead.specs.Sendings.{EachCome, sending_of, RoomWithout, InTurnWithout}
use Rattle.model.proofs.Plan.{accepted as accepted_plan}
use Rattle.model.proofs.Slots.{current-in-window}
use Rattle.model.proofs.Invariant.{Invariant, from-the-window}
use Rattle.model.proofs.HistoryCounts.{flow_below, raises-are}
use Rattle.model.proofs.AfterHistory.{After, ledger_of}
use Rattle.model.proofs.EventsOfRuns.{Happened, each-happened}
use Rattle.arrival.proofs.GrantsInOrder.{FrameInOrderAt, frames-in-order}
use Rattle.arrival.proofs.BooksInOrder.{EarliestAt, each-earliest}
use Rattle.ahead.proofs.Replays.{Replayed, replays, link_after}
use Rattle.ahead.proofs.CloseLinks.{Close, Parts, with, by-base}
use Rattle.ahead.proofs.AheadRuns.{Follows, follows}
use Rattle.ahead.proofs.AheadInTurn.{latest-on}
use Rattle.ahead.proofs.SendsAhead.{same_ticks, due-same, room-orders, come-asked}

-- ---- room

-- what has room in the second run has it in the first
room-too : (h₁ h₂ : History) (b : ℕ → ℕ) (i : ℕ) → ticks h₁ ≡ ticks h₂ → (base : Link) (x y : Parts)
    → Invariant (with base x) (ledger_of base.plan h₁) → Invariant (with base y) (ledger_of base.plan h₂)
    → Close base.plan (ticks h₁) b (with base x) (with base y) → i < flow_count base.plan → claim.Room base.plan i h₂ → claim.Room base.plan i h₁
room-too h₁ h₂ b i same base x y v₁ v₂ c known room s le =
    let P = base.plan in
    let all =
    from-the-window v₁ i (λ raised credited. raised < credited + (entry P i).cells) (ticks h₁) (current-in-window v₁.current.accepted (ticks h₁)) (λ r w-r from.
    omega (
      arith,
      (v₁.holds i known r).at_slot w-r,
      (v₂.holds i known r).at_slot (subst (λ t. InWindow P t r) same w-r),
      (c.flows i known).no_less r w-r from,
      room r (omega (arith, same)),
      raises-are P (up_to i r) h₂,
    )) s le in
    omega (arith, raises-are P (up_to i s) h₁)

-- ---- due slots

module _ (P : Plan) where
  one-due : (w : ℕ) (a₁ a₂ : Grant) (h₁ h₂ : History) → SameGrant a₁ a₂ → ticks h₁ ≡ ticks h₂ → due_since P h₁ ≡ due_since P h₂
      → due_since P (requested w a₁ ∷ h₁) ≡ due_since P (requested w a₂ ∷ h₂)
  unfolding due_since
  one-due w (accepted v₁) (accepted v₂) h₁ h₂ same at_once before = ap₂ (λ s rest. record { flow = flow_of w; slot = s } ∷ rest) (due-same P w h₁ h₂ at_once) before
  one-due w (accepted v₁) (refused r₂) h₁ h₂ same at_once before = absurd same
  one-due w (refused r₁) (accepted v₂) h₁ h₂ same at_once before = absurd same
  one-due w (refused r₁) (refused r₂) h₁ h₂ same at_once before = before

  one-reset : (a₁ a₂ : ResetAnswer) (h₁ h₂ : History) → a₁ ≡ a₂ → due_since P h₁ ≡ due_since P h₂ → due_since P (Event.reset a₁ ∷ h₁) ≡ due_since P (Event.reset a₂ ∷ h₂)
  unfolding due_since
  one-reset a₁ a₂ h₁ h₂ same before = ap₂ (λ a rest. cond (is_granted_reset (Event.reset a)) [] rest) same before

  dues-same : {h₁ h₂ : History} (x : WithAhead h₁ h₂) → Unmoved P x → due_since P h₁ ≡ due_since P h₂
  unfolding due_since
  dues-same start unmoved = refl
  dues-same (both_tick x) unmoved = dues-same x unmoved.1
  dues-same (both_request {h₁ = h₁} {h₂ = h₂} {a₁ = a₁} {a₂ = a₂} w x) unmoved =
      one-due w a₁ a₂ h₁ h₂ unmoved.0.same_grant (same_ticks x) (dues-same x unmoved.1)
  dues-same (both_credit j p x) unmoved = dues-same x unmoved.1
  dues-same (both_lend j x) unmoved = dues-same x unmoved
  dues-same (first_refused x) unmoved = dues-same x unmoved
  dues-same (second_refused x) unmoved = dues-same x unmoved
  dues-same (both_reset {h₁ = h₁} {h₂ = h₂} {a₁ = a₁} {a₂ = a₂} x) unmoved = one-reset a₁ a₂ h₁ h₂ unmoved.0 (dues-same x unmoved.1)
  dues-same (sent_ahead i p x) unmoved = dues-same x unmoved

-- ---- two runs

module _ (P : Plan) (ok : Accepted P) where
  -- flow i's request with word w, after both: what holds of it in the second run holds in the first
  abbrev Too : (Plan → (i w : ℕ) → History → Type 0) → Type 0
  Too Q = (h₁ h₂ : History) (x : WithAhead h₁ h₂) → After P (link_after P h₁) h₁ → After P (link_after P h₂) h₂ → Follows P ok x → (i w : ℕ) → i < flow_count P
      → Q P i w h₂ → Q P i w h₁

  has-room-too : Too HasRoom
  has-room-too h₁ h₂ x g₁ g₂ r i w known room =
      by-base
      (λ Q k l. Invariant k (ledger_of Q h₁) → Invariant l (ledger_of Q h₂) → Close Q (ticks h₁) (λ j. latest P x j) k l → i < flow_count Q
      → claim.Room Q i h₂ → claim.Room Q i h₁)
      (room-too h₁ h₂ (λ j. latest P x j) i r.same_ticks) P (link_after P h₁) (link_after P h₂) r.close.plan_first r.close.plan_second
      r.close.current g₁.invariant g₂.invariant r.close known room

  turn-too : Too InTurn
  turn-too h₁ h₂ x g₁ g₂ r i w known turn = record {
    room = has-room-too h₁ h₂ x g₁ g₂ r i w known turn.room;
    none_due_after = rw (due-same P w h₁ h₂ r.same_ticks, dues-same P x r.unmoved) turn.none_due_after;
  }

  -- S are the flows that send ahead, and may be more
  module _ (Q : Plan → (i w : ℕ) → History → Type 0) (too : Too Q) (room : (i w : ℕ) (h : History) → Q P i w h → HasRoom P i w h) (S : ℕ → Type 0) where
    with-room : (i : ℕ) (h : History) → Each (AsksAt Q P i) h → Each (AsksAt HasRoom P i) h
    with-room i [] asks = tt
    with-room i (e ∷ h) asks = (go e asks.0, with-room i h asks.1)
      where
        go : (e : Event) → AsksAt Q P i e h → AsksAt HasRoom P i e h
        go (requested w a) one = λ well own. room i w h (one well own)
        go (credited j p a) one = tt
        go (ticked y) one = tt
        go (lent m a) one = tt
        go (Event.reset a) one = tt

    turns-too : {h₁ h₂ : History} (x : WithAhead h₁ h₂) → ((i : ℕ) → 0 < latest P x i → S i) → Each (Replayed P) h₁ → Each (Replayed P) h₂
        → Each (EarliestAt P) h₁ → Each (FrameInOrderAt P) h₁ → Each (Happened P) h₁ → EachCome P (sending_of x) → NoneAcceptedAlone x
        → ((i : ℕ) → S i → Each (AsksAt Q P i) h₂) → (i : ℕ) → S i → Each (AsksAt Q P i) h₁
    turns-too start all e₁ e₂ first frames happened each alone turns i some = tt
    turns-too (both_tick x) all e₁ e₂ first frames happened each alone turns i some =
        (tt, turns-too x all e₁.1 e₂.1 first.1 frames.1 happened.1 each alone (λ k z. (turns k z).1) i some)
    turns-too (both_request {h₁ = h₁} {h₂ = h₂} w x) all e₁ e₂ first frames happened each alone turns i some =
        let so_far : (k : ℕ) → S k → Each (AsksAt Q P k) h₁ =
        λ k z. turns-too x all e₁.1 e₂.1 first.1 frames.1 happened.1 each alone (λ j y. (turns j y).1) k z in
        let order = room-orders P ok x first.1 frames.1 happened.1 (λ k z. with-room k h₁ (so_far k (all k z))) in
        let asked = come-asked P ok x e₁.1 e₂.1 each order alone in
        let r = follows P ok x e₁.1 e₂.1 asked.grants_after asked.resets_after alone in (
          λ well own. too h₁ h₂ x e₁.0.stands e₂.0.stands r i w (subst (◌< flow_count P) own (flow_below P w well)) ((turns i some).0 well own),
          so_far i some,
        )
    turns-too (both_credit j p x) all e₁ e₂ first frames happened each alone turns i some =
        (tt, turns-too x all e₁.1 e₂.1 first.1 frames.1 happened.1 each alone.1 (λ k z. (turns k z).1) i some)
    turns-too (both_lend j x) all e₁ e₂ first frames happened each alone turns i some =
        (tt, turns-too x all e₁.1 e₂.1 first.1 frames.1 happened.1 each alone (λ k z. (turns k z).1) i some)
    turns-too (first_refused x) all e₁ e₂ first frames happened each alone turns i some =
        (tt, turns-too x all e₁.1 e₂ first.1 frames.1 happened.1 each alone turns i some)
    turns-too (second_refused x) all e₁ e₂ first frames happened each alone turns i some =
        turns-too x all e₁ e₂.1 first frames happened each alone (λ k z. (turns k z).1) i some
    turns-too (both_reset x) all e₁ e₂ first frames happened each alone turns i some =
        (tt, turns-too x all e₁.1 e₂.1 first.1 frames.1 happened.1 each alone (λ k z. (turns k z).1) i some)
    turns-too (sent_ahead {h₁ = h₁} j p x) all e₁ e₂ first frames happened each alone turns i some =
        turns-too x (λ k z. all k (latest-on (slot_after P (ticks h₁) p) (latest P x k) (eqb k j) z)) e₁ e₂.1.1 first frames happened each.1 alone
        (λ k z. (turns k z).1.1) i some

pub room-without : RoomWithout reference
room-without bytes passes calls₁ calls₂ x each alone room =
    let P = plan_of bytes in
    let ok = accepted_plan bytes passes in
    turns-too P ok HasRoom (has-room-too P ok) (λ i w h y. y) (λ i. 0 < latest P x i) x (λ i some. some) (replays P ok calls₁).each (replays P ok calls₂).each
    (each-earliest P ok calls₁) (frames-in-order P ok calls₁) (each-happened P ok calls₁) each alone room

pub in-turn-without : InTurnWithout reference
in-turn-without bytes passes calls₁ calls₂ x each alone turns =
    let P = plan_of bytes in
    let ok = accepted_plan bytes passes in
    turns-too P ok InTurn (turn-too P ok) (λ i w h y. y.room) (λ i. 0 < latest P x i) x (λ i some. some) (replays P ok calls₁).each
    (replays P ok calls₂).each (each-earliest P ok calls₁) (frames-in-order P ok calls₁) (each-happened P ok calls₁) each alone turns
