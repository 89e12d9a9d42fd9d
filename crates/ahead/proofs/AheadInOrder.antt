-- The tiles of a flow that has room at each request leave in order, if the first that waits is sent ahead first. Assumes nothing.
use Prim.Native.Nat.{ℕ, suc, ◌≤◌, ◌<◌}
use mathlib.Core.Path.{◌≡◌, refl, sym, ap, subst}
use mathlib.Core.List.{List}
use mathlib.Core.Bool.{Bool, true, false, ◌&&◌, cond}
use native.Mathlib.Decide.{dec_le, ℕ_discrete}
use native.Mathlib.Omega.{arith}
use lib.Dec.{leb, eqb}
use borrow.Author.Tests.{leb-true, leb-false, eq-eqb, eqb-true}
use Rattle.model.specs.Tables.{tally}
use Rattle.model.specs.Word.{flow_of, departure_of}
use Rattle.model.specs.Plan.{Plan, Accepted, plan_of, refusal}
use Rattle.model.specs.Calls.{Call, Grant, Event, History, requested, credited, ticked, lent, accepted, refused}
use Rattle.model.specs.History.{ticks, slot_after, grants, grants_since, of_flow, at_slot, WasGranted}
use Rattle.model.specs.Claim.{Each}
use Rattle.model.specs.Scheduler.{reference, run}
use Rattle.arrival.specs.Delay.{due_slot}
use Rattle.ahead.specs.AheadRuns.{WithAhead, start, both_tick, both_request, both_credit, both_lend, first_refused, second_refused, both_reset, sent_ahead}
use Rattle.ahead.specs.AheadRuns.{later_of, latest, GrantFrom, GrantsAfter, ResetsAfter, NoneAcceptedAlone, SameGrant}
use Rattle.ahead.specs.Sendings.{Sending, event, Tile, tile_at, tiles, EachCome, HasTile, KeepsOrder, LeaveInOrder, FirstFirst, LentOnlyAhead, sending_of, AheadInOrder}
use Rattle.model.proofs.Tests.{and-true}
use Rattle.model.proofs.Tallies.{tally-le}
use Rattle.model.proofs.Plan.{accepted as accepted_plan}
use Rattle.model.proofs.NewestGrants.{slot-to-come}
use Rattle.model.proofs.AfterHistory.{After}
use Rattle.model.proofs.EventsOfRuns.{each-happened}
use Rattle.arrival.proofs.GrantsInOrder.{frames-in-order}
use Rattle.arrival.proofs.BooksInOrder.{EarliestAt, each-earliest}
use Rattle.ahead.proofs.Replays.{Replayed, replays, link_after}
use Rattle.ahead.proofs.AheadRuns.{follows}
use Rattle.ahead.proofs.AheadInTurn.{granted-since, Orders}
use Rattle.ahead.proofs.LeaveInOrder.{is, counted, moved-has, new-tile, new-leaves, split, leave-in-order}
use Rattle.ahead.proofs.SendsAhead.{has, tiles-granted, Come, room-orders, come-asked}

-- ---- a tile that was sent ahead

-- the later of two slots is before neither
later_first : (a b : ℕ) → a ≤ later_of a b
later_first a b = go (leb a b) refl
  where
    go : (e : Bool) → leb a b ≡ e → a ≤ cond e b a
    go true e = leb-true a b e
    go false e = omega arith

later_second : (a b : ℕ) → b ≤ later_of a b
later_second a b = go (leb a b) refl
  where
    go : (e : Bool) → leb a b ≡ e → b ≤ cond e b a
    go true e = omega arith
    go false e = omega (arith, leb-false a b e)

module _ (P : Plan) (i : ℕ) where
  -- a new tile is not one
  old-tile : {h : History} (e : Event) (x : Sending h) (a r : ℕ) → HasTile P (event e x) i a r → r < a → HasTile P x i a r
  old-tile {h} e x a r has early = split P i e x a r has (λ new. let z = new-leaves i a r (new-tile P e h) new in absurd (omega arith)) (λ old. old)

  -- its slot is not after the latest that its flow has sent ahead
  sent-latest : {h₁ h₂ : History} (x : WithAhead h₁ h₂) → ticks h₁ ≡ ticks h₂ → (a r : ℕ) → HasTile P (sending_of x) i a r → r < a → a ≤ latest P x i
  unfolding tally ticks
  sent-latest start same a r has early = absurd (omega arith)
  sent-latest (both_tick {x₂ = y} x) same a r has early = sent-latest x (omega arith) a r (old-tile (ticked y) (sending_of x) a r has early) early
  sent-latest (both_request {a₂ = y} w x) same a r has early = sent-latest x same a r (old-tile (requested w y) (sending_of x) a r has early) early
  sent-latest (both_credit {a₂ = y} j p x) same a r has early = sent-latest x same a r (old-tile (credited j p y) (sending_of x) a r has early) early
  sent-latest (both_lend {m₂ = m} j x) same a r has early = sent-latest x same a r (old-tile (lent m (accepted j)) (sending_of x) a r has early) early
  sent-latest (first_refused x) same a r has early = sent-latest x same a r has early
  sent-latest (second_refused {m = m} {r = n} x) same a r has early = sent-latest x same a r (old-tile (lent m (refused n)) (sending_of x) a r has early) early
  sent-latest (both_reset {a₂ = y} x) same a r has early = sent-latest x same a r (old-tile (Event.reset y) (sending_of x) a r has early) early
  sent-latest (sent_ahead {h₁ = h₁} {h₂ = h₂} j p x) same a r has early =
      moved-has i a r j (slot_after P (ticks h₂) p) (ticks h₂) (tiles P (sending_of x)) has
      (λ old. grows (eqb i j) (sent-latest x same a r old early))
      (λ own at_a leaves waited. rw (eq-eqb i j (sym own)) (first at_a))
    where
      grows : (e : Bool) → a ≤ latest P x i → a ≤ cond e (later_of (slot_after P (ticks h₁) p) (latest P x i)) (latest P x i)
      grows true le = omega (arith, later_second (slot_after P (ticks h₁) p) (latest P x i))
      grows false le = le

      first : slot_after P (ticks h₂) p ≡ a → a ≤ later_of (slot_after P (ticks h₁) p) (latest P x i)
      first at_a =
          omega (arith, ap (λ t. slot_after P t p) same, later_first (slot_after P (ticks h₁) p) (latest P x i))

  -- ---- a slot that is granted comes after those sent ahead

  -- what is known after both runs
  pub record SoFar {h₁ h₂ : History} (x : WithAhead h₁ h₂) : Type 0 where
    pub stands : After P (link_after P h₁) h₁
    pub same_ticks : ticks h₁ ≡ ticks h₂
    pub same_grants : grants P h₁ ≡ grants P h₂

  granted-after : {h₁ h₂ : History} (x : WithAhead h₁ h₂) → SoFar x → (w v : ℕ) → EarliestAt P (requested w (accepted v)) h₁
      → latest P x i ≤ slot_after P (ticks h₁) (departure_of v) → (a r : ℕ) → HasTile P (sending_of x) i a r → r < a → a < slot_after P (ticks h₂) (departure_of v)
  granted-after {h₁} {h₂} x so_far w v one after a r tile early = go (dec_le a (ticks h₂))
    where
      before : a ≤ latest P x i
      before = sent-latest x so_far.same_ticks a r tile early

      was : ticks h₂ < a → WasGranted P h₁ i a
      was to_come =
          let some : 0 < tally (has i a) (tiles P (sending_of x)) =
          omega (arith, tally-le (is i a r) (has i a) (λ m e. (and-true (has i a m) (eqb m.leaves r) e).0) (tiles P (sending_of x))) in
          let granted : WasGranted P h₂ i a = omega (arith, tiles-granted P i a (sending_of x) to_come) in
          rw so_far.same_grants granted

      go : Dec (a ≤ ticks h₂) → a < slot_after P (ticks h₂) (departure_of v)
      go (yes le) = omega (arith, slot-to-come P (ticks h₂) (departure_of v))
      go (no gt) =
          other (ℕ_discrete a (slot_after P (ticks h₁) (departure_of v)))
        where
          slot_same : slot_after P (ticks h₁) (departure_of v) ≡ slot_after P (ticks h₂) (departure_of v)
          slot_same = ap (λ t. slot_after P t (departure_of v)) so_far.same_ticks

          owned : 0 < tally (at_slot a) (grants_since P h₁)
          owned =
              omega (
                arith,
                granted-since P h₁ i a so_far.stands (omega (arith, so_far.same_ticks)) (was (omega arith)),
                tally-le (λ m. of_flow i m && at_slot a m) (at_slot a) (λ m e. (and-true (of_flow i m) (at_slot a m) e).1) (grants_since P h₁),
              )

          -- it is not the new slot, which had no owner
          other : Dec (a ≡ slot_after P (ticks h₁) (departure_of v)) → a < slot_after P (ticks h₂) (departure_of v)
          other (yes same) = absurd (omega (arith, one.unowned, owned, ap (λ s. tally (at_slot s) (grants_since P h₁)) same))
          other (no not_same) = omega (arith, before, after, slot_same)

  -- a request that is answered alike
  request-keeps : {h₁ h₂ : History} (x : WithAhead h₁ h₂) → SoFar x → (w : ℕ) (a₁ a₂ : Grant) → SameGrant a₁ a₂
      → EarliestAt P (requested w a₁) h₁ → GrantFrom P (ticks h₁) (latest P x (flow_of w)) a₁ → (s : ℕ)
      → 0 < tally (λ m. eqb m.flow i && eqb m.slot s) (tile_at P (requested w a₂) h₂) → (a r : ℕ) → HasTile P (sending_of x) i a r → r < a → a < s
  unfolding tally
  request-keeps x so_far w a₁ (refused r₂) same one after s new a r tile early = absurd (omega arith)
  request-keeps x so_far w (refused r₁) (accepted v₂) same one after s new a r tile early = absurd same
  request-keeps {h₁} {h₂} x so_far w (accepted v₁) (accepted v₂) same one after s new a r tile early =
      let m : Tile = record {
        flow = flow_of w;
        from = suc (due_slot P w h₂);
        slot = slot_after P (ticks h₂) (departure_of v₂);
        leaves = slot_after P (ticks h₂) (departure_of v₂);
      } in
      let is-new = counted (λ m. eqb m.flow i && eqb m.slot s) m new in
      let both = and-true (eqb (flow_of w) i) (eqb (slot_after P (ticks h₂) (departure_of v₂)) s) is-new in
      let own = eqb-true (flow_of w) i both.0 in
      let at-s = eqb-true (slot_after P (ticks h₂) (departure_of v₂)) s both.1 in
      let from = subst (λ j. latest P x j ≤ slot_after P (ticks h₁) (departure_of v₁)) own after in
      let before = granted-after x so_far w v₁ one from a r tile early in
      omega (arith, ap (λ v. slot_after P (ticks h₂) (departure_of v)) same)

  -- a lend to another flow gives it no tile
  of-another : (h : History) (m j s : ℕ) → (j ≡ i → ⊥) → 0 < tally (λ m. eqb m.flow i && eqb m.slot s) (tile_at P (lent m (accepted j)) h) → ⊥
  of-another h m j s other new =
      let tile : Tile = record { flow = j; from = ticks h; slot = ticks h; leaves = ticks h } in
      let is-new = counted (λ m. eqb m.flow i && eqb m.slot s) tile new in
      other (eqb-true j i (and-true (eqb j i) (eqb (ticks h) s) is-new).0)

  -- ---- two runs

  module _ (ok : Accepted P) where
    keeps : {h₁ h₂ : History} (x : WithAhead h₁ h₂) → Each (Replayed P) h₁ → Each (Replayed P) h₂ → Each (EarliestAt P) h₁ → GrantsAfter P x → ResetsAfter P x
        → NoneAcceptedAlone x → FirstFirst P (sending_of x) i → LentOnlyAhead (sending_of x) i → KeepsOrder P (sending_of x) i
    unfolding tally
    keeps start e₁ e₂ earliest after resets alone first only = tt
    keeps (both_tick x) e₁ e₂ earliest after resets alone first only =
        (λ s new. absurd (omega arith), keeps x e₁.1 e₂.1 earliest.1 after resets alone first only.1)
    keeps (both_request {h₁ = h₁} {h₂ = h₂} {a₁ = a₁} {a₂ = a₂} w x) e₁ e₂ earliest after resets alone first only =
        let r = follows P ok x e₁.1 e₂.1 after.1 resets alone in
        let so_far : SoFar x = record { stands = e₁.0.stands; same_ticks = r.same_ticks; same_grants = r.same_grants } in
        let whole = follows P ok (both_request {h₁ = h₁} {h₂ = h₂} {a₁ = a₁} {a₂ = a₂} w x) e₁ e₂ after resets alone in (
          request-keeps x so_far w a₁ a₂ whole.unmoved.0.same_grant earliest.0 after.0,
          keeps x e₁.1 e₂.1 earliest.1 after.1 resets alone first only.1,
        )
    keeps (both_credit j p x) e₁ e₂ earliest after resets alone first only =
        (λ s new. absurd (omega arith), keeps x e₁.1 e₂.1 earliest.1 after resets alone.1 first only.1)
    keeps (both_lend {h₂ = h₂} {m₂ = m₂} j x) e₁ e₂ earliest after resets alone first only = (
      λ s new. absurd (of-another h₂ m₂ j s only.0 new),
      keeps x e₁.1 e₂.1 earliest.1 after resets alone first only.1,
    )
    keeps (first_refused x) e₁ e₂ earliest after resets alone first only = keeps x e₁.1 e₂ earliest.1 after resets alone first only
    keeps (second_refused x) e₁ e₂ earliest after resets alone first only =
        (λ s new. absurd (omega arith), keeps x e₁ e₂.1 earliest after resets alone first only.1)
    keeps (both_reset x) e₁ e₂ earliest after resets alone first only =
        (λ s new. absurd (omega arith), keeps x e₁.1 e₂.1 earliest.1 after resets.1 alone first only.1)
    keeps (sent_ahead j p x) e₁ e₂ earliest after resets alone first only =
        (first.0, keeps x e₁ e₂.1.1 earliest after resets alone first.1 only)

pub leave-after : (bytes : List ℕ) → refusal bytes ≡ 0 → (calls₁ calls₂ : List Call)
    (x : WithAhead (run reference (plan_of bytes) calls₁).history (run reference (plan_of bytes) calls₂).history)
    → EachCome (plan_of bytes) (sending_of x) → Orders (plan_of bytes) (Come (plan_of bytes)) x → NoneAcceptedAlone x → (i : ℕ)
    → FirstFirst (plan_of bytes) (sending_of x) i → LentOnlyAhead (sending_of x) i → LeaveInOrder (plan_of bytes) (sending_of x) i
leave-after bytes passes calls₁ calls₂ x each order alone i first only =
    let P = plan_of bytes in
    let ok = accepted_plan bytes passes in
    let r₁ = (replays P ok calls₁).each in
    let r₂ = (replays P ok calls₂).each in
    let asked = come-asked P ok x r₁ r₂ each order alone in
    leave-in-order P (run reference P calls₂).history (sending_of x) i
    (keeps P i ok x r₁ r₂ (each-earliest P ok calls₁) asked.grants_after asked.resets_after alone first only)

pub ahead-in-order : AheadInOrder reference
ahead-in-order bytes passes calls₁ calls₂ x each room =
    let P = plan_of bytes in
    let ok = accepted_plan bytes passes in
    leave-after bytes passes calls₁ calls₂ x each (room-orders P ok x (each-earliest P ok calls₁) (frames-in-order P ok calls₁) (each-happened P ok calls₁) room)
