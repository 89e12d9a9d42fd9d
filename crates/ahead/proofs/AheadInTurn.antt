-- Flows that are in turn at each request may send ahead what they have booked: nobody's bookings move. Assumes nothing.
use Prim.Native.Nat.{ℕ, ◌≤◌, ◌<◌}
use mathlib.Core.Path.{◌≡◌, refl, sym, subst}
use mathlib.Core.List.{◌∷◌}
use mathlib.Core.Bool.{Bool, true, false, ◌&&◌, cond}
use native.Mathlib.Decide.{dec_le}
use native.Mathlib.Omega.{arith}
use lib.Dec.{leb, eqb}
use borrow.Author.Tests.{leb-false, eqb-true}
use Rattle.model.specs.Tables.{tally}
use Rattle.model.specs.Word.{flow_of, departure_of}
use Rattle.model.specs.Plan.{Plan, Accepted, plan_of}
use Rattle.model.specs.Calls.{Grant, ResetAnswer, Event, History, requested, accepted, refused}
use Rattle.model.specs.Link.{Link}
use Rattle.model.specs.History.{ticks, slot_after, is_granted_reset, marks_of, grant_at, grants, grants_since, of_flow, at_slot, WasGranted}
use Rattle.model.specs.Claim.{Each, AtGrant}
use Rattle.model.specs.Scheduler.{reference, run}
use Rattle.arrival.specs.BooksInOrder.{GrantedSince}
use Rattle.ahead.specs.AheadRuns.{WithAhead, start, both_tick, both_request, both_credit, both_lend, first_refused, second_refused, both_reset, sent_ahead}
use Rattle.ahead.specs.AheadRuns.{later_of, latest, GrantFrom, ResetFrom, GrantsAfter, ResetsAfter, OfBooked, InTurnNobodyMoves, InOrderNobodyMoves}
use Rattle.model.proofs.Plan.{accepted as accepted_plan}
use Rattle.model.proofs.Tests.{and-true}
use Rattle.model.proofs.Tallies.{tally-append, tally-le}
use Rattle.model.proofs.HistoryCounts.{marks_before, split-at-reset, raises-are}
use Rattle.model.proofs.AfterHistory.{After}
use Rattle.model.proofs.EventsOfRuns.{each-happened}
use Rattle.arrival.proofs.GrantsInOrder.{frames-in-order}
use Rattle.model.proofs.NewestGrants.{slot-to-come}
use Rattle.arrival.proofs.BooksInOrder.{each-earliest, all-in-order}
use Rattle.ahead.proofs.Replays.{Replayed, replays, stands_after}
use Rattle.ahead.proofs.AheadRuns.{nobody-moves}

module _ (P : Plan) where
  -- ---- a reset is granted when no granted slot is to come: one that is to come was granted since

  pub granted-since : {l : Link} (h : History) (i s : ℕ) → After P l h → ticks h < s → WasGranted P h i s → GrantedSince P h i s
  unfolding grants grants_since
  granted-since h i s g to_come was =
      omega (
        arith,
        g.invariant.owned.to_come s to_come,
        raises-are P (at_slot s) h,
        split-at-reset (grant_at P) (at_slot s) h,
        split-at-reset (grant_at P) (λ m. of_flow i m && at_slot s m) h,
        tally-le (λ m. of_flow i m && at_slot s m) (at_slot s) (λ m e. (and-true (of_flow i m) (at_slot s m) e).1) (marks_before (grant_at P) h),
      )

  -- a granted reset leaves none to come
  pub none_left : {l : Link} (u : Unit {0}) (h : History) (j s : ℕ) → After P l (Event.reset (accepted u) ∷ h) → ticks h < s → GrantedSince P h j s → ⊥
  unfolding ticks grants marks_of grants_since tally
  none_left u h j s g to_come was =
      let since = granted-since (Event.reset (accepted u) ∷ h) j s g to_come (omega (arith, split-at-reset (grant_at P) (λ m. of_flow j m && at_slot s m) h)) in
      absurd (omega arith)

-- ---- each slot that is sent ahead is as B says, in the first run

abbrev pub EachSent : Plan → (B : History → (j s : ℕ) → Type 0) → {h₁ h₂ : History} → WithAhead h₁ h₂ → Type 0
EachSent P B start = Unit {0}
EachSent P B (both_tick x) = EachSent P B x
EachSent P B (both_request w x) = EachSent P B x
EachSent P B (both_credit j p x) = EachSent P B x
EachSent P B (both_lend j x) = EachSent P B x
EachSent P B (first_refused x) = EachSent P B x
EachSent P B (second_refused x) = EachSent P B x
EachSent P B (both_reset x) = EachSent P B x
EachSent P B (sent_ahead {h₁ = h₁} i p x) = B h₁ i (slot_after P (ticks h₁) p) × EachSent P B x

-- where the event is a grant to flow i: it comes after the slots that are as B says
abbrev pub AfterAt : Plan → (B : History → (j s : ℕ) → Type 0) → ℕ → Event → History → Type 0
AfterAt P B i = AtGrant (λ w v h. flow_of w ≡ i → (s : ℕ) → B h i s → s < slot_after P (ticks h) (departure_of v))

-- so of each flow that sends ahead
abbrev pub Orders : Plan → (B : History → (j s : ℕ) → Type 0) → {h₁ h₂ : History} → WithAhead h₁ h₂ → Type 0
Orders P B {h₁} x = (i : ℕ) → 0 < latest P x i → Each (AfterAt P B i) h₁

-- a flow that had sent ahead has so still
pub latest-on : (a b : ℕ) (e : Bool) → 0 < b → 0 < cond e (later_of a b) b
latest-on a b true some = go (leb a b) refl
  where
    go : (e : Bool) → leb a b ≡ e → 0 < cond e b a
    go true e = some
    go false e = omega (arith, leb-false a b e)
latest-on a b false some = some

module _ (P : Plan) (B : History → (j s : ℕ) → Type 0) (on : (e : Event) (h : History) (j s : ℕ) → is_granted_reset e ≡ false → B h j s → B (e ∷ h) j s)
    (granted : (h : History) (j s : ℕ) → B h j s → GrantedSince P h j s) where
  -- ---- the latest slot that a flow has sent ahead, where it is to come

  -- the later of two slots is one of them
  of_two : (Q : ℕ → Type 0) (t a b : ℕ) → Q a → (t < b → Q b) → t < later_of a b → Q (later_of a b)
  of_two Q t a b qa qb = go (leb a b)
    where
      go : (e : Bool) → t < cond e b a → Q (cond e b a)
      go true to_come = qb to_come
      go false to_come = qa

  after-reset : {l : Link} (a : ResetAnswer) (h : History) (j s : ℕ) → After P l (Event.reset a ∷ h) → ticks h < s → B h j s → B (Event.reset a ∷ h) j s
  after-reset (accepted u) h j s g to_come was = absurd (none_left P u h j s g to_come (granted h j s was))
  after-reset (refused r) h j s g to_come was = on (Event.reset (refused r)) h j s refl was

  latest-sent : {h₁ h₂ : History} (x : WithAhead h₁ h₂) → Each (Replayed P) h₁ → EachSent P B x → (j : ℕ) → ticks h₁ < latest P x j → B h₁ j (latest P x j)
  unfolding ticks
  latest-sent start e sent j to_come = absurd (omega arith)
  latest-sent (both_tick x) e sent j to_come = on _ _ j (latest P x j) refl (latest-sent x e.1 sent j (omega arith))
  latest-sent (both_request w x) e sent j to_come = on _ _ j (latest P x j) refl (latest-sent x e.1 sent j to_come)
  latest-sent (both_credit k p x) e sent j to_come = on _ _ j (latest P x j) refl (latest-sent x e.1 sent j to_come)
  latest-sent (both_lend k x) e sent j to_come = on _ _ j (latest P x j) refl (latest-sent x e.1 sent j to_come)
  latest-sent (first_refused x) e sent j to_come = on _ _ j (latest P x j) refl (latest-sent x e.1 sent j to_come)
  latest-sent (second_refused x) e sent j to_come = latest-sent x e sent j to_come
  latest-sent (both_reset {h₁ = h₁} {a₁ = a₁} x) e sent j to_come =
      after-reset a₁ h₁ j (latest P x j) e.0.then_stands to_come (latest-sent x e.1 sent j to_come)
  latest-sent (sent_ahead {h₁ = h₁} i p x) e sent j to_come = go (eqb j i) refl (λ y. latest-sent x e sent.1 j y) to_come
    where
      go : (b : Bool) → eqb j i ≡ b → (ticks h₁ < latest P x j → B h₁ j (latest P x j))
          → ticks h₁ < cond b (later_of (slot_after P (ticks h₁) p) (latest P x j)) (latest P x j)
          → B h₁ j (cond b (later_of (slot_after P (ticks h₁) p) (latest P x j)) (latest P x j))
      go true own before =
          of_two (B h₁ j) (ticks h₁) (slot_after P (ticks h₁) p) (latest P x j)
          (subst (λ k. B h₁ k (slot_after P (ticks h₁) p)) (sym (eqb-true j i own)) sent.0) before
      go false other before = before

  -- ---- grants come after it

  one-grant : (w : ℕ) (a : Grant) (h : History) (b : ℕ) → (0 < b → AfterAt P B (flow_of w) (requested w a) h) → (ticks h < b → B h (flow_of w) b)
      → GrantFrom P (ticks h) b a
  one-grant w (refused r) h b order was = tt
  one-grant w (accepted v) h b order was = go (dec_le b (ticks h))
    where
      go : Dec (b ≤ ticks h) → b ≤ slot_after P (ticks h) (departure_of v)
      go (yes le) = omega (arith, slot-to-come P (ticks h) (departure_of v))
      go (no gt) =
          let before = order (omega arith) refl b (was (omega arith)) in
          omega arith

  pub grants_after : {h₁ h₂ : History} (x : WithAhead h₁ h₂) → Each (Replayed P) h₁ → EachSent P B x → Orders P B x → GrantsAfter P x
  grants_after start e sent order = tt
  grants_after (both_tick x) e sent order = grants_after x e.1 sent (λ i some. (order i some).1)
  grants_after (both_request {h₁ = h₁} {a₁ = a₁} w x) e sent order = (
    one-grant w a₁ h₁ (latest P x (flow_of w)) (λ some. (order (flow_of w) some).0) (latest-sent x e.1 sent (flow_of w)),
    grants_after x e.1 sent (λ i some. (order i some).1),
  )
  grants_after (both_credit j p x) e sent order = grants_after x e.1 sent (λ i some. (order i some).1)
  grants_after (both_lend j x) e sent order = grants_after x e.1 sent (λ i some. (order i some).1)
  grants_after (first_refused x) e sent order = grants_after x e.1 sent (λ i some. (order i some).1)
  grants_after (second_refused x) e sent order = grants_after x e sent order
  grants_after (both_reset x) e sent order = grants_after x e.1 sent (λ i some. (order i some).1)
  grants_after (sent_ahead {h₁ = h₁} k p x) e sent order =
      grants_after x e sent.1 (λ i some. order i (latest-on (slot_after P (ticks h₁) p) (latest P x i) (eqb i k) some))

  -- ---- and so do granted resets

  one-reset : {l : Link} (a : ResetAnswer) (h : History) (b : ℕ → ℕ) → After P l (Event.reset a ∷ h) → ((j : ℕ) → ticks h < b j → B h j (b j))
      → ResetFrom (ticks h) b a
  one-reset (refused r) h b g was = tt
  one-reset (accepted u) h b g was = λ j. go j (dec_le (b j) (ticks h))
    where
      go : (j : ℕ) → Dec (b j ≤ ticks h) → b j ≤ ticks h
      go j (yes le) = le
      go j (no gt) = absurd (none_left P u h j (b j) g (omega arith) (granted h j (b j) (was j (omega arith))))

  pub resets_after : {h₁ h₂ : History} (x : WithAhead h₁ h₂) → Each (Replayed P) h₁ → EachSent P B x → ResetsAfter P x
  resets_after start e sent = tt
  resets_after (both_tick x) e sent = resets_after x e.1 sent
  resets_after (both_request w x) e sent = resets_after x e.1 sent
  resets_after (both_credit j p x) e sent = resets_after x e.1 sent
  resets_after (both_lend j x) e sent = resets_after x e.1 sent
  resets_after (first_refused x) e sent = resets_after x e.1 sent
  resets_after (second_refused x) e sent = resets_after x e sent
  resets_after (both_reset {h₁ = h₁} {a₁ = a₁} x) e sent =
      (one-reset a₁ h₁ (λ j. latest P x j) e.0.then_stands (latest-sent x e.1 sent), resets_after x e.1 sent)
  resets_after (sent_ahead k p x) e sent = resets_after x e sent.1

-- ---- flows that are in turn, and slots that were granted

module _ (P : Plan) (ok : Accepted P) where
  abbrev Granted : History → (j s : ℕ) → Type 0
  Granted h j s = GrantedSince P h j s

  still-granted : (e : Event) (h : History) (j s : ℕ) → is_granted_reset e ≡ false → GrantedSince P h j s → GrantedSince P (e ∷ h) j s
  unfolding grants_since
  still-granted e h j s keeps was = rw keeps (omega (arith, tally-append (λ m. of_flow j m && at_slot s m) (grant_at P e h) (grants_since P h)))

  each-granted : {h₁ h₂ : History} (x : WithAhead h₁ h₂) → Each (Replayed P) h₁ → OfBooked P x → EachSent P Granted x
  each-granted start e booked = tt
  each-granted (both_tick x) e booked = each-granted x e.1 booked
  each-granted (both_request w x) e booked = each-granted x e.1 booked
  each-granted (both_credit j p x) e booked = each-granted x e.1 booked
  each-granted (both_lend j x) e booked = each-granted x e.1 booked
  each-granted (first_refused x) e booked = each-granted x e.1 booked
  each-granted (second_refused x) e booked = each-granted x e booked
  each-granted (both_reset x) e booked = each-granted x e.1 booked
  each-granted (sent_ahead {h₁ = h₁} i p x) e booked = (
    granted-since P h₁ i (slot_after P (ticks h₁) p) (stands_after P ok h₁ e) (slot-to-come P (ticks h₁) p) booked.0,
    each-granted x e booked.1,
  )

-- what is granted in order comes after what is sent ahead
pub in-order-nobody-moves : InOrderNobodyMoves reference
in-order-nobody-moves bytes passes calls₁ calls₂ x booked order alone =
    let P = plan_of bytes in
    let ok = accepted_plan bytes passes in
    let each = (replays P ok calls₁).each in
    let sent = each-granted P ok x each booked in
    nobody-moves bytes passes calls₁ calls₂ x
    (grants_after P (Granted P ok) (still-granted P ok) (λ h j s was. was) x each sent order)
    (resets_after P (Granted P ok) (still-granted P ok) (λ h j s was. was) x each sent) alone

-- flows in turn are granted their slots in order
pub in-turn-nobody-moves : InTurnNobodyMoves reference
in-turn-nobody-moves bytes passes calls₁ calls₂ x booked turns alone =
    let P = plan_of bytes in
    let ok = accepted_plan bytes passes in
    in-order-nobody-moves bytes passes calls₁ calls₂ x booked
    (λ i some. all-in-order P ok i (run reference P calls₁).history (each-earliest P ok calls₁) (frames-in-order P ok calls₁) (each-happened P ok calls₁) (turns i some))
    alone
