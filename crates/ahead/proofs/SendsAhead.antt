-- Flows that have room at each request send ahead tiles that wait: nobody's bookings move, and the tiles are sent well. Assumes nothing.
use Prim.Native.Nat.{ℕ, suc, ◌+◌, ◌≤◌, ◌<◌}
use mathlib.Core.Path.{◌≡◌, refl, sym, ap, ap₂, ◌∙◌, subst}
use mathlib.Core.List.{List, ◌∷◌, [], ◌++◌}
use mathlib.Core.Bool.{Bool, true, false, ◌&&◌, cond}
use native.Mathlib.Omega.{arith}
use lib.Dec.{leb, eqb}
use borrow.Author.Tests.{leb-true, eqb-true, ne_eqb}
use Rattle.model.specs.Tables.{bit, tally}
use Rattle.model.specs.Word.{flow_of, departure_of}
use Rattle.model.specs.Plan.{Plan, Accepted, plan_of, refusal}
use Rattle.model.specs.Calls.{Call, Grant, ResetAnswer, Event, History, requested, credited, ticked, lent, accepted, refused}
use Rattle.model.specs.Link.{Link}
use Rattle.model.specs.History.{Mark, ticks, slot_after, has_come, is_granted_reset, marks_of, grant_at, grants, of_flow, at_slot}
use Rattle.model.specs.Claim.{Each}
use Rattle.model.specs.Scheduler.{reference, run}
use Rattle.arrival.specs.Delay.{due_slot}
use Rattle.arrival.specs.BooksInOrder.{GrantedSince, AfterThoseAt}
use Rattle.ahead.specs.AheadRuns.{WithAhead, start, both_tick, both_request, both_credit, both_lend, first_refused, second_refused, both_reset, sent_ahead}
use Rattle.ahead.specs.AheadRuns.{latest, GrantsAfter, ResetsAfter, NoneAcceptedAlone, SendersInOrder, SameGrant, Unmoved, BookedAlike}
use Rattle.ahead.specs.Sendings.{Sending, nothing, event, ahead, Tile, tile_at, waits, ready, leaves_in, tiles, EachReady, EachCome}
use Rattle.ahead.specs.Sendings.{SentWell, sending_of, SendersHaveRoom, Ahead}
use Rattle.model.proofs.Tests.{and-true, and-false}
use Rattle.model.proofs.Tallies.{tally-append, tally-le}
use Rattle.model.proofs.Plan.{accepted as accepted_plan}
use Rattle.model.proofs.AfterHistory.{After}
use Rattle.model.proofs.Demand3.{meets}
use Rattle.model.proofs.EventsOfRuns.{Happened, each-happened}
use Rattle.arrival.proofs.TimelyRequests.{due-from-now}
use Rattle.arrival.proofs.GrantsInOrder.{FrameInOrderAt, frames-in-order}
use Rattle.model.proofs.NewestGrants.{slot-to-come}
use Rattle.arrival.proofs.BooksInOrder.{EarliestAt, each-earliest, ticks-go-on, some-split, BookedBy, newest, older, granted-too, one-older, AfterDueAt, all_after}
use Rattle.ahead.proofs.Replays.{Replayed, replays}
use Rattle.ahead.proofs.AheadRuns.{follows, nobody-moves}
use Rattle.ahead.proofs.AheadInTurn.{none_left, EachSent, AfterAt, Orders, latest-on, grants_after, resets_after}
use Rattle.ahead.proofs.Sendings.{waits-is, sends-well}

-- ---- one history's slots, and the other's

pub same_ticks : {h₁ h₂ : History} → WithAhead h₁ h₂ → ticks h₁ ≡ ticks h₂
unfolding ticks
same_ticks start = refl
same_ticks (both_tick x) = ap suc (same_ticks x)
same_ticks (both_request w x) = same_ticks x
same_ticks (both_credit j p x) = same_ticks x
same_ticks (both_lend j x) = same_ticks x
same_ticks (first_refused x) = same_ticks x
same_ticks (second_refused x) = same_ticks x
same_ticks (both_reset x) = same_ticks x
same_ticks (sent_ahead i p x) = same_ticks x

pub due-same : (P : Plan) (w : ℕ) (h₁ h₂ : History) → ticks h₁ ≡ ticks h₂ → due_slot P w h₁ ≡ due_slot P w h₂
unfolding due_slot
due-same P w h₁ h₂ same = ap (λ t. cond (has_come P t (departure_of w)) t (slot_after P t (departure_of w))) same

-- ---- a tile whose slot is to come was granted it

-- of flow i, with slot s
abbrev pub has : (i s : ℕ) → Tile → Bool
has i s m = eqb m.flow i && eqb m.slot s

-- and due by slot c, so that it may leave in the next
abbrev come : (i s c : ℕ) → Tile → Bool
come i s c m = has i s m && leb m.from (suc c)

-- tiles counted by all but the slot in which they leave
moved_same : (q : (flow from slot : ℕ) → Bool) (j d t : ℕ) (ms : List Tile)
    → tally (λ m. q m.flow m.from m.slot) (leaves_in j d t ms) ≡ tally (λ m. q m.flow m.from m.slot) ms
unfolding tally leaves_in
moved_same q j d t [] = refl
moved_same q j d t (m ∷ ms) = go (waits j d m) refl (moved_same q j d t ms)
  where
    counts : Tile → Bool
    counts m = q m.flow m.from m.slot

    go : (b : Bool) → waits j d m ≡ b → tally counts (leaves_in j d t ms) ≡ tally counts ms
        → tally counts (cond b (record { flow = j; from = m.from; slot = d; leaves = t } ∷ ms) (m ∷ leaves_in j d t ms)) ≡ bit (counts m) + tally counts ms
    go true e rest = let w = waits-is j d m e in rw (w.flow, w.slot) refl
    go false e rest = ap (bit (counts m) +◌) rest

module _ (P : Plan) (i s : ℕ) where
  abbrev grant : Mark → Bool
  grant m = of_flow i m && at_slot s m

  new-granted : (e : Event) (h : History) → ticks h < s → tally (has i s) (tile_at P e h) ≤ tally grant (grant_at P e h)
  unfolding tally
  new-granted (requested w (accepted v)) h to_come = omega arith
  new-granted (requested w (refused r)) h to_come = omega arith
  new-granted (credited j p a) h to_come = omega arith
  new-granted (ticked x) h to_come = omega arith
  new-granted (lent m (accepted j)) h to_come = rw (ne_eqb (ticks h) s (λ z. omega arith), and-false (eqb j i)) (omega arith)
  new-granted (lent m (refused r)) h to_come = omega arith
  new-granted (Event.reset a) h to_come = omega arith

  pub tiles-granted : {h : History} (x : Sending h) → ticks h < s → tally (has i s) (tiles P x) ≤ tally grant (grants P h)
  unfolding tally grants marks_of ticks
  tiles-granted nothing to_come = omega arith
  tiles-granted (event {h = h} e x) to_come =
      let before : ticks h < s = omega (arith, ticks-go-on e h) in
      omega (
        arith,
        tally-append (has i s) (tile_at P e h) (tiles P x),
        tally-append grant (grant_at P e h) (grants P h),
        new-granted e h before,
        tiles-granted x before,
      )
  tiles-granted (ahead {h = h} j p x) to_come =
      omega (arith, moved_same (λ f d r. eqb f i && eqb r s) j (slot_after P (ticks h) p) (ticks h) (tiles P x), tiles-granted x to_come)

-- ---- a tile that has come, and whose slot is to come, is booked in the run without any too

module _ (P : Plan) (i s c : ℕ) where
  same_request : (w : ℕ) (a₁ a₂ : Grant) (h₁ h₂ : History) (ms : List Tile) → SameGrant a₁ a₂ → ticks h₁ ≡ ticks h₂
      → (0 < tally (come i s c) ms → BookedBy P i s c h₁)
      → 0 < tally (come i s c) (tile_at P (requested w a₂) h₂ ++ ms) → BookedBy P i s c (requested w a₁ ∷ h₁)
  same_request w (accepted v₁) (refused r₂) h₁ h₂ ms same at_once rest some = absurd same
  same_request w (refused r₁) (accepted v₂) h₁ h₂ ms same at_once rest some = absurd same
  same_request w (refused r₁) (refused r₂) h₁ h₂ ms same at_once rest some = one-older P i s (requested w (refused r₁)) refl (rest some)
  same_request w (accepted v₁) (accepted v₂) h₁ h₂ ms same at_once rest some =
      let d = due_slot P w h₂ in
      let at = slot_after P (ticks h₂) (departure_of v₂) in
      some-split (come i s c) (record { flow = flow_of w; from = suc d; slot = at; leaves = at }) ms some
      (λ old. one-older P i s (requested w (accepted v₁)) refl (rest old))
      (λ new.
      let both = and-true (eqb (flow_of w) i && eqb at s) (leb (suc d) (suc c)) new in
      let place = and-true (eqb (flow_of w) i) (eqb at s) both.0 in
      record {
        due = d;
        by = omega (arith, leb-true (suc d) (suc c) both.1);
        booked =
            newest w v₁ (eqb-true (flow_of w) i place.0) (due-same P w h₁ h₂ at_once)
            (ap₂ (λ t v. slot_after P t (departure_of v)) at_once same ∙ eqb-true at s place.1);
      })

  not_lent : (j : ℕ) (h : History) (ms : List Tile) → ticks h < s → 0 < tally (come i s c) (record { flow = j; from = ticks h; slot = ticks h; leaves = ticks h } ∷ ms)
      → 0 < tally (come i s c) ms
  not_lent j h ms to_come some =
      some-split (come i s c) (record { flow = j; from = ticks h; slot = ticks h; leaves = ticks h }) ms some (λ old. old) (λ new.
      let place = and-true (eqb j i) (eqb (ticks h) s) (and-true (eqb j i && eqb (ticks h) s) (leb (ticks h) (suc c)) new).0 in
      absurd (omega (arith, eqb-true (ticks h) s place.1)))

  at-reset : {l : Link} (a : ResetAnswer) (h : History) → After P l (Event.reset a ∷ h) → ticks h < s → BookedBy P i s c h → BookedBy P i s c (Event.reset a ∷ h)
  at-reset (accepted u) h g to_come was = absurd (none_left P u h i s g to_come (granted-too P i s was.booked))
  at-reset (refused r) h g to_come was = one-older P i s (Event.reset (refused r)) refl was

  tile-booked : {h₁ h₂ : History} (x : WithAhead h₁ h₂) → Each (Replayed P) h₁ → Unmoved P x → ticks h₁ < s → 0 < tally (come i s c) (tiles P (sending_of x))
      → BookedBy P i s c h₁
  unfolding ticks tally
  tile-booked start e unmoved to_come some = absurd (omega arith)
  tile-booked (both_tick x) e unmoved to_come some = one-older P i s _ refl (tile-booked x e.1 unmoved.1 (omega arith) some)
  tile-booked (both_request {h₁ = h₁} {h₂ = h₂} {a₁ = a₁} {a₂ = a₂} w x) e unmoved to_come some =
      same_request w a₁ a₂ h₁ h₂ (tiles P (sending_of x)) unmoved.0.same_grant (same_ticks x) (λ old. tile-booked x e.1 unmoved.1 to_come old) some
  tile-booked (both_credit j p x) e unmoved to_come some = one-older P i s _ refl (tile-booked x e.1 unmoved.1 to_come some)
  tile-booked (both_lend {h₂ = h₂} j x) e unmoved to_come some =
      one-older P i s _ refl
      (tile-booked x e.1 unmoved to_come (not_lent j h₂ (tiles P (sending_of x)) (omega (arith, same_ticks x)) some))
  tile-booked (first_refused x) e unmoved to_come some = one-older P i s _ refl (tile-booked x e.1 unmoved to_come some)
  tile-booked (second_refused x) e unmoved to_come some = tile-booked x e unmoved to_come some
  tile-booked (both_reset {h₁ = h₁} {a₁ = a₁} x) e unmoved to_come some =
      at-reset a₁ h₁ e.0.then_stands to_come (tile-booked x e.1 unmoved.1 to_come some)
  tile-booked (sent_ahead {h₂ = h₂} j p x) e unmoved to_come some =
      tile-booked x e unmoved to_come
      (omega (arith, moved_same (λ f d r. eqb f i && eqb r s && leb d (suc c)) j (slot_after P (ticks h₂) p) (ticks h₂) (tiles P (sending_of x))))

-- ---- flows with room, and tiles that have come

module _ (P : Plan) where
  abbrev pub Come : History → (j s : ℕ) → Type 0
  Come h j s = BookedBy P j s (ticks h) h

  still-come : (e : Event) (h : History) (j s : ℕ) → is_granted_reset e ≡ false → Come h j s → Come (e ∷ h) j s
  still-come e h j s keeps x = record { due = x.due; by = omega (arith, x.by, ticks-go-on e h); booked = older e keeps x.booked }

  come-granted : (h : History) (j s : ℕ) → Come h j s → GrantedSince P h j s
  come-granted h j s x = granted-too P j s x.booked

  -- a grant comes after each slot of a tile that has come
  after-come : (i : ℕ) (e : Event) (h : History) → AfterDueAt P i e h → AfterAt P Come i e h
  after-come i (requested w (accepted v)) h after = λ own s x. after own x.due s x.booked (omega (arith, x.by, due-from-now P w h))
  after-come i (requested w (refused r)) h after = tt
  after-come i (credited j p a) h after = tt
  after-come i (ticked x) h after = tt
  after-come i (lent m a) h after = tt
  after-come i (Event.reset a) h after = tt

  each-after-come : (i : ℕ) (h : History) → Each (AfterDueAt P i) h → Each (AfterAt P Come i) h
  each-after-come i [] after = tt
  each-after-come i (e ∷ h) after = (after-come i e h after.0, each-after-come i h after.1)

  -- so it does where slots are granted in order
  in-order-come : (i : ℕ) (e : Event) (h : History) → AfterThoseAt P i e h → AfterAt P Come i e h
  in-order-come i (requested w (accepted v)) h after = λ own s x. after own s (come-granted h i s x)
  in-order-come i (requested w (refused r)) h after = tt
  in-order-come i (credited j p a) h after = tt
  in-order-come i (ticked x) h after = tt
  in-order-come i (lent m a) h after = tt
  in-order-come i (Event.reset a) h after = tt

  each-in-order : (i : ℕ) (h : History) → Each (AfterThoseAt P i) h → Each (AfterAt P Come i) h
  each-in-order i [] after = tt
  each-in-order i (e ∷ h) after = (in-order-come i e h after.0, each-in-order i h after.1)

  pub order-orders : {h₁ h₂ : History} (x : WithAhead h₁ h₂) → SendersInOrder P x → Orders P Come x
  order-orders {h₁} x order i some = each-in-order i h₁ (order i some)

  pub room-orders : Accepted P → {h₁ h₂ : History} (x : WithAhead h₁ h₂) → Each (EarliestAt P) h₁ → Each (FrameInOrderAt P) h₁ → Each (Happened P) h₁
      → SendersHaveRoom P x → Orders P Come x
  room-orders ok {h₁} x first frames happened room i some = each-after-come i h₁ (all_after P ok i h₁ first frames happened (room i some))

  -- what `nobody-moves` asks of the first run
  pub record Asked {h₁ h₂ : History} (x : WithAhead h₁ h₂) : Type 0 where
    pub grants_after : GrantsAfter P x
    pub resets_after : ResetsAfter P x

  module _ (ok : Accepted P) where
    -- if each slot that is sent ahead is of a tile that has come, grants and granted resets come after it
    sent-asked : {h₁ h₂ : History} (x : WithAhead h₁ h₂) → Each (Replayed P) h₁ → Orders P Come x → EachSent P Come x → Asked x
    sent-asked x e₁ order sent = record {
      grants_after = grants_after P Come still-come come-granted x e₁ sent order;
      resets_after = resets_after P Come still-come come-granted x e₁ sent;
    }

    each-come : {h₁ h₂ : History} (x : WithAhead h₁ h₂) → Each (Replayed P) h₁ → Each (Replayed P) h₂ → EachCome P (sending_of x) → Orders P Come x
        → NoneAcceptedAlone x → EachSent P Come x
    each-come start e₁ e₂ each order alone = tt
    each-come (both_tick x) e₁ e₂ each order alone = each-come x e₁.1 e₂.1 each (λ i some. (order i some).1) alone
    each-come (both_request w x) e₁ e₂ each order alone = each-come x e₁.1 e₂.1 each (λ i some. (order i some).1) alone
    each-come (both_credit j p x) e₁ e₂ each order alone = each-come x e₁.1 e₂.1 each (λ i some. (order i some).1) alone.1
    each-come (both_lend j x) e₁ e₂ each order alone = each-come x e₁.1 e₂.1 each (λ i some. (order i some).1) alone
    each-come (first_refused x) e₁ e₂ each order alone = each-come x e₁.1 e₂ each (λ i some. (order i some).1) alone
    each-come (second_refused x) e₁ e₂ each order alone = each-come x e₁ e₂.1 each order alone
    each-come (both_reset x) e₁ e₂ each order alone = each-come x e₁.1 e₂.1 each (λ i some. (order i some).1) alone
    each-come (sent_ahead {h₁ = h₁} {h₂ = h₂} k p x) e₁ e₂ each order alone =
        let order' : Orders P Come x = λ i some. order i (latest-on (slot_after P (ticks h₁) p) (latest P x i) (eqb i k) some) in
        let sent = each-come x e₁ e₂.1.1 each.1 order' alone in
        let asked = sent-asked x e₁ order' sent in
        let r = follows P ok x e₁ e₂.1.1 asked.grants_after asked.resets_after alone in
        let s = slot_after P (ticks h₂) p in
        let some : 0 < tally (come k s (ticks h₂)) (tiles P (sending_of x)) =
        omega (
          arith,
          each.0,
          tally-le (ready k s (suc (ticks h₂))) (come k s (ticks h₂)) (λ m y.
              let both = and-true (waits k s m) (leb m.from (suc (ticks h₂))) y in
              rw ((and-true (has k s m) (eqb m.leaves s) both.0).0, both.1) refl) (tiles P (sending_of x)),
        ) in
        let was = tile-booked P k s (ticks h₂) x e₁ r.unmoved (omega (arith, r.same_ticks, slot-to-come P (ticks h₂) p)) some in
        (subst (λ t. BookedBy P k (slot_after P t p) t h₁) (sym r.same_ticks) was, sent)

    pub come-asked : {h₁ h₂ : History} (x : WithAhead h₁ h₂) → Each (Replayed P) h₁ → Each (Replayed P) h₂ → EachCome P (sending_of x) → Orders P Come x
        → NoneAcceptedAlone x → Asked x
    come-asked x e₁ e₂ each order alone = sent-asked x e₁ order (each-come x e₁ e₂ each order alone)

-- two runs in which each grant comes after the slots of tiles that have come
pub sends-after : (bytes : List ℕ) → refusal bytes ≡ 0 → (calls₁ calls₂ : List Call)
    (x : WithAhead (run reference (plan_of bytes) calls₁).history (run reference (plan_of bytes) calls₂).history)
    → EachCome (plan_of bytes) (sending_of x) → Orders (plan_of bytes) (Come (plan_of bytes)) x → NoneAcceptedAlone x
    → BookedAlike (plan_of bytes) x × (EachReady (plan_of bytes) (sending_of x) → SentWell (plan_of bytes) (sending_of x))
sends-after bytes passes calls₁ calls₂ x each order alone =
    let P = plan_of bytes in
    let ok = accepted_plan bytes passes in
    let asked = come-asked P ok x (replays P ok calls₁).each (replays P ok calls₂).each each order alone in (
      nobody-moves bytes passes calls₁ calls₂ x asked.grants_after asked.resets_after alone,
      sends-well reference meets bytes passes calls₂ (sending_of x),
    )

pub sends-ahead : Ahead reference
sends-ahead bytes passes calls₁ calls₂ x each room =
    let P = plan_of bytes in
    let ok = accepted_plan bytes passes in
    sends-after bytes passes calls₁ calls₂ x each (room-orders P ok x (each-earliest P ok calls₁) (frames-in-order P ok calls₁) (each-happened P ok calls₁) room)
