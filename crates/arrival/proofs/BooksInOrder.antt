-- A flow that has room at each request, and whose tiles are due in order, books its slots in order. Assumes nothing.
use Prim.Native.Nat.{ℕ, suc, ◌+◌, ◌*◌, ◌%◌, ◌≤◌, ◌<◌}
use mathlib.Core.Path.{◌≡◌, refl, sym, ap, ◌∙◌, subst}
use mathlib.Core.List.{List, [], ◌∷◌}
use mathlib.Core.Bool.{Bool, true, false, ◌&&◌, cond}
use native.Mathlib.Nat.{div-add-mod', mod-lt}
use native.Mathlib.Decide.{dec_lt, ℕ_discrete}
use native.Mathlib.Omega.{arith}
use lib.Dec.{ltb, eqb}
use borrow.Author.Tests.{ltb-true, ltb-false, lt-ltb, le-ltb, eqb-true, eq-eqb}
use Rattle.model.specs.Tables.{bit, tally}
use Rattle.model.specs.Word.{flow_of, departure_of, depart}
use Rattle.model.specs.Plan.{Plan, Accepted, positions, plan_of}
use Rattle.model.specs.Calls.{Call, Grant, Event, History, requested, credited, ticked, lent, accepted, refused}
use Rattle.model.specs.Link.{Link, Step, window}
use Rattle.model.specs.Request.{Found, found, nowhere, can_leave, valid_for, sought, answered, request}
use Rattle.model.specs.History.{ticks, slot_after, frame_of, well_formed, has_come, is_granted_reset, Mark, grant_at, grants_since, of_flow, at_slot, in_frame, up_to, granted_in}
use Rattle.model.specs.Holding.{InWindow}
use Rattle.model.specs.Claim.{Each, EachSince, AtGrant, Ready, ReadyAt}
use Rattle.model.specs.Claim as claim
use Rattle.model.specs.Scheduler.{Played, reference, step, run}
use Rattle.arrival.specs.Delay.{due_slot, due_since, RoomFrom, AsksAt}
use Rattle.model.specs.LessAsked.{HasRoom}
use Rattle.arrival.specs.BooksInOrder.{GrantedSince, NoneDueAfter, InTurn, AfterThoseAt, InOrder, BooksInOrder, ReadyInOrder}
use Rattle.model.proofs.Tests.{and-true}
use Rattle.model.proofs.Tallies.{tally-le, tally-append, tally-skip}
use Rattle.model.proofs.Plan.{accepted as accepted_plan}
use Rattle.model.proofs.Word.{departure-depart}
use Rattle.model.proofs.Slots.{some-frame, frame-slot-in-window, position-of}
use Rattle.model.proofs.Departures.{leaves_in}
use Rattle.model.proofs.RequestSearch.{Searched, request-searched, not_valid}
use Rattle.model.proofs.RequestKeeps.{AfterGrant, found_slot, in_frame as in_frame_lem, free, slot_is, after-grant}
use Rattle.model.proofs.HistoryCounts.{departure-below, raises-are}
use Rattle.model.proofs.AfterHistory.{After}
use Rattle.model.proofs.AfterCalls.{Known}
use Rattle.model.proofs.EventsOfRuns.{Happened, each-happened, by-calls}
use Rattle.arrival.proofs.AnsweredRequests.{Requested, turned_back, searched, request-is}
use Rattle.arrival.proofs.TimelyRequests.{known, frame-order, due-if-come, due-if-not, due-from-now}
use Rattle.model.proofs.Demand3.{each-since-map}
use Rattle.arrival.proofs.SoonOnArrival.{ComeAt, ready-come}
use Rattle.arrival.proofs.GrantsInOrder.{FrameInOrderAt, frames-in-order}
use Rattle.arrival.proofs.NextLink.{each-since}

-- ---- what is known of each grant

-- The granted slot s had no owner, and comes after the tile is due. Each slot of its frame between the two from which on the flow had room had one.
pub record Earliest (P : Plan) (w s : ℕ) (h : History) : Type 0 where
  pub unowned : tally (at_slot s) (grants_since P h) ≡ 0
  pub after_due : due_slot P w h < s
  pub none_between : (r : ℕ) → RoomFrom P (flow_of w) r h → frame_of P r ≡ frame_of P s → due_slot P w h < r → r < s → 0 < tally (at_slot r) (grants_since P h)

abbrev pub EarliestAt : Plan → Event → History → Type 0
EarliestAt P = AtGrant (λ w v h. Earliest P w (slot_after P (ticks h) (departure_of v)) h)

module _ {l : Link} {h : History} (g : After l.plan l h) (w : ℕ) where
  open l use {plan as P}
  open P use {slots as F, frames as W}
  open g use {invariant as v}
  open v.current use {accepted as ok}

  abbrev none : ℕ → ℕ
  none f = 0

  abbrev t : ℕ
  t = ticks h

  module _ (well : well_formed P w ≡ true) (j c p : ℕ) (s : Searched v (known g w well) (departure_of w) none (found j c p)) where
    low : frame_of P t ≤ s.frame
    low = s.reached.low

    high : s.frame < frame_of P t + W
    high = omega (arith, s.frame_le, some-frame ok)

    granted : AfterGrant v (known g w well) (departure_of w) none j c p
    granted = after-grant v (known g w well) (departure_of w) none j c p s

    departs : departure_of (depart w p) ≡ p
    departs = departure-depart w p (omega (arith, granted.position, ok.positions_most))

    abbrev slot : ℕ
    slot = found_slot v (known g w well) (departure_of w) s.frame p low high s.hit

    at_slot_lem : slot_after P t p ≡ slot
    at_slot_lem = slot_is v (known g w well) (departure_of w) s.frame p low high s.hit

    in-a : frame_of P slot ≡ s.frame
    in-a = in_frame_lem v (known g w well) (departure_of w) s.frame p low high s.hit

    after_due : due_slot P w h < slot
    after_due = go (has_come P t (departure_of w)) refl
      where
        go : (b : Bool) → has_come P t (departure_of w) ≡ b → due_slot P w h < slot
        go true e = omega (arith, due-if-come P w h e, (free v (known g w well) (departure_of w) s.frame p low high s.hit).to_come)
        go false e = omega (arith, due-if-not P w h e, granted.after_departure (departure-below P w well) e, at_slot_lem)

    none_between : (r : ℕ) → RoomFrom P (flow_of w) r h → frame_of P r ≡ frame_of P slot → due_slot P w h < r → r < slot → 0 < tally (at_slot r) (grants_since P h)
    none_between r room same after before =
        not_valid v (known g w well) (departure_of w) r in-the-window (omega (arith, due-from-now P w h))
        (λ q le. omega (arith, room q le, raises-are P (up_to (flow_of w) q) h)) leaves
        (ap (valid_for l (flow_of w) (departure_of w)) at-r ∙ s.hit.none_before (s.frame % W * F + r % F) (omega arith) (omega (arith, s.hit.low, r-is)))
      where
        frame_is : frame_of P r ≡ s.frame
        frame_is = same ∙ in-a

        r-is : s.frame * F + r % F ≡ r
        r-is = ap (λ f. f * F + r % F) (sym frame_is) ∙ div-add-mod' r F

        below : r % F < F
        below = mod-lt r ok.some_slot

        at-r : r % positions P ≡ s.frame % W * F + r % F
        at-r = ap (◌% positions P) (sym r-is) ∙ position-of ok s.frame (r % F) below

        in-the-window : InWindow P t r
        in-the-window = subst (InWindow P t) r-is (frame-slot-in-window ok t s.frame (r % F) low high below)

        leaves : can_leave (window l) (departure_of w) (r % positions P) ≡ true
        leaves = leaves_in v.current (departure_of w) (departure-below P w well) r in-the-window (λ yet. omega (arith, due-if-not P w h yet))

    earliest : Earliest P w (slot_after P t (departure_of (depart w p))) h
    earliest =
        rw (departs, at_slot_lem) (record {
          unowned = (free v (known g w well) (departure_of w) s.frame p low high s.hit).not_granted;
          after_due = after_due;
          none_between = none_between;
        })

  request-earliest : EarliestAt P (requested w (request l w).answer) h
  unfolding answered
  request-earliest = go (request-is l w)
    where
      of-search : (well : well_formed P w ≡ true) (f : Found) → Searched v (known g w well) (departure_of w) none f
          → EarliestAt P (requested w (answered l w f).answer) h
      of-search well (nowhere c) s = tt
      of-search well (found j c p) s = earliest well j c p s

      go : {s : Step Grant} → Requested l w s → EarliestAt P (requested w s.answer) h
      go (turned_back r not-12 not_passed) = tt
      go (searched passes) =
          of-search passes.well (sought l (flow_of w) (departure_of w)) (request-searched v (known g w passes.well) (departure_of w) none)

earliest-more : (r : Played reference) (c : Call) → Known r.state.plan r → Each (EarliestAt r.state.plan) r.history
    → Each (EarliestAt r.state.plan) (step reference r c).history
earliest-more r (Call.request w) g x = (request-earliest g w, x)
earliest-more r (Call.credit i p) g x = (tt, x)
earliest-more r Call.tick g x = (tt, x)
earliest-more r (Call.lend m) g x = (tt, x)
earliest-more r Call.reset g x = (tt, x)

pub each-earliest : (P : Plan) → Accepted P → (calls : List Call) → Each (EarliestAt P) (run reference P calls).history
each-earliest P ok = by-calls ok (λ r. Each (EarliestAt P) r.history) more tt
  where
    more : (r : Played reference) (c : Call) → Known P r → Each (Happened P) r.history → Each (EarliestAt P) r.history
        → Each (EarliestAt P) (step reference r c).history
    more r c g happened =
        subst (λ Q. Known Q r → Each (EarliestAt Q) r.history → Each (EarliestAt Q) (step reference r c).history) g.plan_is (earliest-more r c) g

-- ---- one event more, and one mark

pub ticks-go-on : (e : Event) (h : History) → ticks h ≤ ticks (e ∷ h)
unfolding ticks
ticks-go-on (requested w a) h = omega arith
ticks-go-on (credited j p a) h = omega arith
ticks-go-on (ticked x) h = omega arith
ticks-go-on (lent m a) h = omega arith
ticks-go-on (Event.reset a) h = omega arith

module _ {A : Type 0} (f : A → Bool) (m : A) (ms : List A) where
  -- a count that was above 0 is so still
  still-some : 0 < tally f ms → 0 < tally f (m ∷ ms)
  unfolding tally
  still-some h = omega arith

  -- one that is 0 was so, and is of a mark that does not count
  none_before : tally f (m ∷ ms) ≡ 0 → (f m ≡ false) × (tally f ms ≡ 0)
  unfolding tally
  none_before = go (f m)
    where
      go : (b : Bool) → bit b + tally f ms ≡ 0 → (b ≡ false) × (tally f ms ≡ 0)
      go true e = absurd (omega arith)
      go false e = (refl, omega arith)

  -- one that is above 0 was so, or the mark counts
  pub some-split : {Q : Type 0} → 0 < tally f (m ∷ ms) → (0 < tally f ms → Q) → (f m ≡ true → Q) → Q
  unfolding tally
  some-split {Q} = go (f m)
    where
      go : (b : Bool) → 0 < bit b + tally f ms → (0 < tally f ms → Q) → (b ≡ true → Q) → Q
      go true h old new = new refl
      go false h old new = old (omega arith)

-- ---- grants and the slots in which their tiles are due

-- Since the last granted reset flow i was granted slot g, for a tile that is due in slot d.
pub data Booked (P : Plan) (i d g : ℕ) : History → Type 0 where
  newest : {h : History} (w v : ℕ) → flow_of w ≡ i → due_slot P w h ≡ d → slot_after P (ticks h) (departure_of v) ≡ g → Booked P i d g (requested w (accepted v) ∷ h)
  older : {h : History} (e : Event) → is_granted_reset e ≡ false → Booked P i d g h → Booked P i d g (e ∷ h)

-- for one that is due by slot b
pub record BookedBy (P : Plan) (i g b : ℕ) (h : History) : Type 0 where
  pub due : ℕ
  pub by : due ≤ b
  pub booked : Booked P i due g h

module _ (P : Plan) (i g : ℕ) where
  abbrev slot-g : Mark → Bool
  slot-g m = of_flow i m && at_slot g m

  pub granted-too : {d : ℕ} {h : History} → Booked P i d g h → GrantedSince P h i g
  unfolding grants_since tally
  granted-too (newest w v own due at) = rw (eq-eqb (flow_of w) i own, eq-eqb _ g at) (omega arith)
  granted-too (older {h = h} e keeps b) = rw keeps (omega (arith, tally-append slot-g (grant_at P e h) (grants_since P h), granted-too b))

  pub one-older : {c : ℕ} {h : History} (e : Event) → is_granted_reset e ≡ false → BookedBy P i g c h → BookedBy P i g c (e ∷ h)
  one-older e keeps x = record { due = x.due; by = x.by; booked = older e keeps x.booked }

  -- each granted slot is one of a tile; where none is due after slot c, it is due by then
  booked-by : (c : ℕ) (h : History) → NoneDueAfter P h i c → GrantedSince P h i g → BookedBy P i g c h
  unfolding grants_since due_since tally
  booked-by c [] none was = absurd (omega arith)
  booked-by c (requested w (accepted v) ∷ h) none was =
      let due = none_before (λ m. of_flow i m && ltb c m.slot) (record { flow = flow_of w; slot = due_slot P w h }) (due_since P h) none in
      some-split slot-g (record { flow = flow_of w; slot = slot_after P (ticks h) (departure_of v) }) (grants_since P h) was
      (λ old. one-older _ refl (booked-by c h due.1 old))
      (λ new.
      let both = and-true (eqb (flow_of w) i) (eqb (slot_after P (ticks h) (departure_of v)) g) new in
      record {
        due = due_slot P w h;
        by = ltb-false c (due_slot P w h) (sym (rw both.0) ∙ due.0);
        booked = newest w v (eqb-true (flow_of w) i both.0) refl (eqb-true _ g both.1);
      })
  booked-by c (requested w (refused r) ∷ h) none was = one-older _ refl (booked-by c h none was)
  booked-by c (credited j p a ∷ h) none was = one-older _ refl (booked-by c h none was)
  booked-by c (ticked y ∷ h) none was = one-older _ refl (booked-by c h none was)
  booked-by c (lent m a ∷ h) none was = one-older _ refl (booked-by c h none was)
  booked-by c (Event.reset (accepted u) ∷ h) none was = absurd (omega arith)
  booked-by c (Event.reset (refused r) ∷ h) none was = one-older _ refl (booked-by c h none was)

-- where the event is a grant to flow i: it comes after those of tiles that are due no later
abbrev pub AfterDueAt : Plan → ℕ → Event → History → Type 0
AfterDueAt P i = AtGrant (λ w v h. flow_of w ≡ i → (d g : ℕ) → Booked P i d g h → d ≤ due_slot P w h → g < slot_after P (ticks h) (departure_of v))

-- ---- the slots before a grant

-- Each slot of the frame of slot s, between the one in which word w's tile is due and s, has an owner.
abbrev pub Close : Plan → (w s : ℕ) → History → Type 0
Close P w s h = (r : ℕ) → frame_of P r ≡ frame_of P s → due_slot P w h < r → r < s → 0 < tally (at_slot r) (grants_since P h)

-- where the event is a grant to flow i
abbrev pub CloseAt : Plan → ℕ → Event → History → Type 0
CloseAt P i = AtGrant (λ w v h. flow_of w ≡ i → Close P w (slot_after P (ticks h) (departure_of v)) h)

-- where the event is a grant to flow i: no tile of it was due later
abbrev pub DueInOrderAt : Plan → ℕ → Event → History → Type 0
DueInOrderAt P i = AtGrant (λ w v h. flow_of w ≡ i → NoneDueAfter P h i (due_slot P w h))

module _ (P : Plan) (ok : Accepted P) (i : ℕ) where
  -- Of the frame of a slot that flow i was granted, each slot to come between the due one and that has an owner.
  packed : (d g r : ℕ) {h : History} → EachSince (CloseAt P i) h → Booked P i d g h → frame_of P r ≡ frame_of P g → ticks h < r → d < r → r < g
      → 0 < tally (at_slot r) (grants_since P h)
  unfolding ticks grants_since
  packed d g r closes (newest {h = h} w v own due at) same to_come after before =
      still-some (at_slot r) (record { flow = flow_of w; slot = slot_after P (ticks h) (departure_of v) }) (grants_since P h)
      (closes.0 own r (same ∙ ap (frame_of P) (sym at)) (omega arith) (omega arith))
  packed d g r closes (older {h = h} e keeps b) same to_come after before =
      let rest = rw keeps at closes in
      let so_far = packed d g r rest.1 b same (omega (arith, ticks-go-on e h)) after before in
      rw keeps (omega (arith, tally-append (at_slot r) (grant_at P e h) (grants_since P h)))

  -- A grant of slot s comes after each of a tile that is due no later.
  comes-after : (w s : ℕ) (h : History) → Earliest P w s h → ((f : ℕ) → frame_of P s < f → granted_in P h i f ≡ 0) → EachSince (CloseAt P i) h
      → (d g : ℕ) → Booked P i d g h → d ≤ due_slot P w h → g < s
  comes-after w s h newest-one frames closes d g was due = go (dec_lt g s)
    where
      owned : 0 < tally (at_slot g) (grants_since P h)
      owned =
          omega (
            arith,
            granted-too P i g was,
            tally-le (λ m. of_flow i m && at_slot g m) (at_slot g) (λ m e. (and-true (of_flow i m) (at_slot g m) e).1) (grants_since P h),
          )

      counted : 0 < granted_in P h i (frame_of P g)
      counted =
          omega (
            arith,
            granted-too P i g was,
            tally-le (λ m. of_flow i m && at_slot g m) (in_frame P i (frame_of P g)) (λ m e.
                let both = and-true (of_flow i m) (at_slot g m) e in
                rw both.0 (eq-eqb (frame_of P m.slot) (frame_of P g) (ap (frame_of P) (eqb-true m.slot g both.1)))) (grants_since P h),
          )

      same : s ≤ g → Dec (s ≡ g) → Dec (frame_of P s ≡ frame_of P g) → g < s
      same le (yes e) f = absurd (omega (arith, ap (λ q. tally (at_slot q) (grants_since P h)) e, newest-one.unowned, owned))
      same le (no d) (no f) = absurd (omega (arith, frames (frame_of P g) (omega (arith, frame-order ok s g le)), counted))
      same le (no n) (yes f) =
          absurd (
          omega (
            arith,
            newest-one.unowned,
            packed d g s closes was f (omega (arith, newest-one.after_due, due-from-now P w h)) (omega (arith, newest-one.after_due)) (omega arith),
          )
          )

      go : Dec (g < s) → g < s
      go (yes lt) = lt
      go (no ge) = same (omega arith) (ℕ_discrete s g) (ℕ_discrete (frame_of P s) (frame_of P g))

  -- ---- a history

  one-after : (e : Event) (h : History) → EarliestAt P e h → FrameInOrderAt P e h → EachSince (CloseAt P i) h → AfterDueAt P i e h
  one-after (requested w (accepted v)) h one frames closes = λ own.
      comes-after w (slot_after P (ticks h) (departure_of v)) h one
      (subst (λ j. (f : ℕ) → frame_of P (slot_after P (ticks h) (departure_of v)) < f → granted_in P h j f ≡ 0) own frames) closes
  one-after (requested w (refused r)) h one frames closes = tt
  one-after (credited j p a) h one frames closes = tt
  one-after (ticked x) h one frames closes = tt
  one-after (lent m a) h one frames closes = tt
  one-after (Event.reset a) h one frames closes = tt

  each_after : (h : History) → Each (EarliestAt P) h → Each (FrameInOrderAt P) h → Each (CloseAt P i) h → Each (AfterDueAt P i) h
  each_after [] first frames closes = tt
  each_after (e ∷ h) first frames closes =
      (one-after e h first.0 frames.0 (each-since (CloseAt P i) h closes.1), each_after h first.1 frames.1 closes.1)

  -- no grant of it is for a tile that is due later
  one-in-order : (e : Event) (h : History) → DueInOrderAt P i e h → AfterDueAt P i e h → AfterThoseAt P i e h
  one-in-order (requested w (accepted v)) h none after = λ own s was.
      let x = booked-by P i s (due_slot P w h) h (none own) was in
      after own x.due s x.booked x.by
  one-in-order (requested w (refused r)) h none after = tt
  one-in-order (credited j p a) h none after = tt
  one-in-order (ticked x) h none after = tt
  one-in-order (lent m a) h none after = tt
  one-in-order (Event.reset a) h none after = tt

  in-order-since : (h : History) → Each (EarliestAt P) h → Each (FrameInOrderAt P) h → EachSince (CloseAt P i) h → EachSince (DueInOrderAt P i) h → InOrder P i h
  in-order-since [] first frames closes dues = tt
  in-order-since (e ∷ h) first frames closes dues = go (is_granted_reset e) closes dues (in-order-since h first.1 frames.1)
    where
      go : (b : Bool) → cond b (Unit {0}) (CloseAt P i e h × EachSince (CloseAt P i) h) → cond b (Unit {0}) (DueInOrderAt P i e h × EachSince (DueInOrderAt P i) h)
          → (EachSince (CloseAt P i) h → EachSince (DueInOrderAt P i) h → InOrder P i h) → cond b (Unit {0}) (AfterThoseAt P i e h × InOrder P i h)
      go true closes dues rest = tt
      go false closes dues rest = (one-in-order e h dues.0 (one-after e h first.0 frames.0 closes.1), rest closes.1 dues.1)

  -- at each grant, those before a granted reset too
  pub all-in-order-if-close : (h : History) → Each (EarliestAt P) h → Each (FrameInOrderAt P) h → Each (CloseAt P i) h → Each (DueInOrderAt P i) h → Each (AfterThoseAt P i) h
  all-in-order-if-close [] first frames closes dues = tt
  all-in-order-if-close (e ∷ h) first frames closes dues = (
    one-in-order e h dues.0 (one-after e h first.0 frames.0 (each-since (CloseAt P i) h closes.1)),
    all-in-order-if-close h first.1 frames.1 closes.1 dues.1,
  )

  -- ---- a flow that has room at each request, and one that is in turn

  room-close : (e : Event) (h : History) → EarliestAt P e h → Happened P e h → AsksAt HasRoom P i e h → CloseAt P i e h
  room-close (requested w (accepted v)) h first happened asks = λ own r same after before.
      first.none_between r (λ q le. subst (λ j. claim.Room P j h) (sym own) (asks happened.word.asked_well_formed own) q (omega (arith, due-from-now P w h)))
      same after before
  room-close (requested w (refused r)) h first happened asks = tt
  room-close (credited j p a) h first happened asks = tt
  room-close (ticked x) h first happened asks = tt
  room-close (lent m a) h first happened asks = tt
  room-close (Event.reset a) h first happened asks = tt

  pub all_after : (h : History) → Each (EarliestAt P) h → Each (FrameInOrderAt P) h → Each (Happened P) h → Each (AsksAt HasRoom P i) h → Each (AfterDueAt P i) h
  all_after h first frames happened asks = each_after h first frames (closes h first happened asks)
    where
      closes : (h : History) → Each (EarliestAt P) h → Each (Happened P) h → Each (AsksAt HasRoom P i) h → Each (CloseAt P i) h
      closes [] first happened asks = tt
      closes (e ∷ h) first happened asks = (room-close e h first.0 happened.0 asks.0, closes h first.1 happened.1 asks.1)

  turn-room : (e : Event) (h : History) → AsksAt InTurn P i e h → AsksAt HasRoom P i e h
  turn-room (requested w a) h asks = λ well own. (asks well own).room
  turn-room (credited j p a) h asks = tt
  turn-room (ticked x) h asks = tt
  turn-room (lent m a) h asks = tt
  turn-room (Event.reset a) h asks = tt

  turn-due : (e : Event) (h : History) → Happened P e h → AsksAt InTurn P i e h → DueInOrderAt P i e h
  turn-due (requested w (accepted v)) h happened asks = λ own. (asks happened.word.asked_well_formed own).none_due_after
  turn-due (requested w (refused r)) h happened asks = tt
  turn-due (credited j p a) h happened asks = tt
  turn-due (ticked x) h happened asks = tt
  turn-due (lent m a) h happened asks = tt
  turn-due (Event.reset a) h happened asks = tt

  -- what holds of each grant of a flow that is in turn
  abbrev InTurnHas : (Event → History → Type 0) → Type 0
  InTurnHas Q = (e : Event) (h : History) → EarliestAt P e h → Happened P e h → AsksAt InTurn P i e h → Q e h

  turn-close : InTurnHas (CloseAt P i)
  turn-close e h first happened asks = room-close e h first happened (turn-room e h asks)

  turn-ordered : InTurnHas (DueInOrderAt P i)
  turn-ordered e h first happened asks = turn-due e h happened asks

  module _ (Q : Event → History → Type 0) (has : InTurnHas Q) where
    turns-have : (h : History) → Each (EarliestAt P) h → Each (Happened P) h → Each (AsksAt InTurn P i) h → Each Q h
    turns-have [] first happened asks = tt
    turns-have (e ∷ h) first happened asks = (has e h first.0 happened.0 asks.0, turns-have h first.1 happened.1 asks.1)

    turns-have-since : (h : History) → Each (EarliestAt P) h → Each (Happened P) h → EachSince (AsksAt InTurn P i) h → EachSince Q h
    turns-have-since [] first happened asks = tt
    turns-have-since (e ∷ h) first happened asks = go (is_granted_reset e) asks (turns-have-since h first.1 happened.1)
      where
        go : (b : Bool) → cond b (Unit {0}) (AsksAt InTurn P i e h × EachSince (AsksAt InTurn P i) h) → (EachSince (AsksAt InTurn P i) h → EachSince Q h)
            → cond b (Unit {0}) (Q e h × EachSince Q h)
        go true asks rest = tt
        go false asks rest = (has e h first.0 happened.0 asks.0, rest asks.1)

  in_order : (h : History) → Each (EarliestAt P) h → Each (FrameInOrderAt P) h → Each (Happened P) h → EachSince (AsksAt InTurn P i) h → InOrder P i h
  in_order h first frames happened asks =
      in-order-since h first frames (turns-have-since (CloseAt P i) turn-close h first happened asks)
      (turns-have-since (DueInOrderAt P i) turn-ordered h first happened asks)

  pub all-in-order : (h : History) → Each (EarliestAt P) h → Each (FrameInOrderAt P) h → Each (Happened P) h → Each (AsksAt InTurn P i) h → Each (AfterThoseAt P i) h
  all-in-order h first frames happened asks =
      all-in-order-if-close h first frames (turns-have (CloseAt P i) turn-close h first happened asks)
      (turns-have (DueInOrderAt P i) turn-ordered h first happened asks)

pub books-in-order : BooksInOrder reference
books-in-order bytes passes calls i known asks =
    let P = plan_of bytes in
    let ok = accepted_plan bytes passes in
    in_order P ok i (run reference P calls).history (each-earliest P ok calls) (frames-in-order P ok calls) (each-happened P ok calls) asks

-- ---- a flow that is ready at each request

-- no tile is due after slot e, where none is due after slot d and d comes no later
pub none-later : (P : Plan) (h : History) (i d e : ℕ) → d ≤ e → NoneDueAfter P h i d → NoneDueAfter P h i e
none-later P h i d e le none =
    omega (
      arith,
      none,
      tally-le (λ m. of_flow i m && ltb e m.slot) (λ m. of_flow i m && ltb d m.slot) (λ m x.
          let both = and-true (of_flow i m) (ltb e m.slot) x in
          rw both.0 (lt-ltb d m.slot (omega (arith, ltb-true e m.slot both.1)))) (due_since P h),
    )

module _ (P : Plan) (i : ℕ) where
  -- its tiles are due when it asks
  ready-turn : (w : ℕ) (h : History) → NoneDueAfter P h i (ticks h) → Ready P i w h → InTurn P i w h
  ready-turn w h none x =
      record { room = x.room; none_due_after = none-later P h i (ticks h) (due_slot P w h) (omega (arith, due-if-come P w h x.come)) none }

  due-so-far : (w v : ℕ) (h : History) → (flow_of w ≡ i → has_come P (ticks h) (departure_of w) ≡ true) → NoneDueAfter P h i (ticks h)
      → NoneDueAfter P (requested w (accepted v) ∷ h) i (ticks h)
  unfolding ticks due_since
  due-so-far w v h come none = go (eqb (flow_of w) i) refl
    where
      go : (b : Bool) → eqb (flow_of w) i ≡ b → NoneDueAfter P (requested w (accepted v) ∷ h) i (ticks h)
      go true e =
          tally-skip (λ m. of_flow i m && ltb (ticks h) m.slot) (record { flow = flow_of w; slot = due_slot P w h }) (due_since P h)
          (rw e (le-ltb (ticks h) (due_slot P w h) (omega (arith, due-if-come P w h (come (eqb-true (flow_of w) i e)))))) ∙ none
      go false e =
          tally-skip (λ m. of_flow i m && ltb (ticks h) m.slot) (record { flow = flow_of w; slot = due_slot P w h }) (due_since P h) (rw e refl) ∙ none

  -- where each tile has come, none is due after the current slot
  pub none-due : (h : History) → Each (Happened P) h → EachSince (ComeAt P i) h → NoneDueAfter P h i (ticks h)
  unfolding ticks due_since tally
  none-due [] happened come = refl
  none-due (requested w (refused x) ∷ h) happened come = none-due h happened.1 come.1
  none-due (requested w (accepted v) ∷ h) happened come =
      due-so-far w v h (come.0 happened.0.word.asked_well_formed) (none-due h happened.1 come.1)
  none-due (credited j p x ∷ h) happened come = none-due h happened.1 come.1
  none-due (ticked x ∷ h) happened come = none-later P h i (ticks h) (suc (ticks h)) (omega arith) (none-due h happened.1 come.1)
  none-due (lent m x ∷ h) happened come = none-due h happened.1 come.1
  none-due (Event.reset (accepted u) ∷ h) happened come = refl
  none-due (Event.reset (refused x) ∷ h) happened come = none-due h happened.1 come.1

  ready-asks : (h : History) → Each (Happened P) h → EachSince (ReadyAt P i) h → EachSince (AsksAt InTurn P i) h
  ready-asks [] happened ready = tt
  ready-asks (requested w x ∷ h) happened ready = (
    λ well own. ready-turn w h (none-due h happened.1 (each-since-map _ _ (ready-come P i) h ready.1)) (ready.0 well own),
    ready-asks h happened.1 ready.1,
  )
  ready-asks (credited j p x ∷ h) happened ready = (tt, ready-asks h happened.1 ready.1)
  ready-asks (ticked x ∷ h) happened ready = (tt, ready-asks h happened.1 ready.1)
  ready-asks (lent m x ∷ h) happened ready = (tt, ready-asks h happened.1 ready.1)
  ready-asks (Event.reset (accepted u) ∷ h) happened ready = tt
  ready-asks (Event.reset (refused x) ∷ h) happened ready = (tt, ready-asks h happened.1 ready.1)

pub ready-in-order : ReadyInOrder reference
ready-in-order bytes passes calls i known ready =
    let P = plan_of bytes in
    ready-asks P i (run reference P calls).history (each-happened P (accepted_plan bytes passes) calls) ready
