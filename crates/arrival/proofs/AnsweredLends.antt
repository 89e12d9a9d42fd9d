-- The reference scheduler answers a lend with a flow where some flow of the mask can take the slot, and nowhere else. Assumes nothing.
use Prim.Native.Nat.{ℕ, zero, suc, ◌+◌, ◌%◌, ◌^◌, ◌≤◌, ◌<◌}
use mathlib.Core.Path.{◌≡◌, refl, sym, ap, ◌∙◌, subst}
use mathlib.Core.List.{List, [], ◌∷◌}
use mathlib.Core.Option.{Option, some, none}
use mathlib.Core.Bool.{Bool, true, false, not, ◌||◌, cond}
use native.Mathlib.Nat.{mod-lt}
use native.Mathlib.Omega.{arith}
use borrow.Author.Tests.{eq-eqb, lt-leb}
use Rattle.model.specs.Tables.{tally}
use Rattle.model.specs.Refusals.{first_of}
use Rattle.model.specs.Word.{flow_of, departure_of}
use Rattle.model.specs.Plan.{Plan, Accepted, flow_count, plan_of}
use Rattle.model.specs.Calls.{Call, LendAnswer, Event, History, requested, credited, lent, accepted, refused}
use Rattle.model.specs.Link.{Link, flow, owner}
use Rattle.model.specs.Request.{Found, found, nowhere, request_tests, unbooked, sought, booked, refused_at_newest, answered, request_after, request}
use Rattle.model.specs.Credit.{credit_tests, lowered, credit_after, credit}
use Rattle.model.specs.Tick.{advanced, tick}
use Rattle.model.specs.Lend.{takes, lend_tests, lent_to, first_in_turn, lent_after, lend_after, lend}
use Rattle.model.specs.Reset.{quiet, reset_link, reset}
use Rattle.model.specs.Fresh.{fresh}
use Rattle.model.specs.History.{ticks, grant_at, lend_at, grants, lends, grants_since, at_slot, owners_of}
use Rattle.model.specs.Claim.{Each}
use Rattle.model.specs.Scheduler.{Played, reference, step, started, run}
use Rattle.arrival.specs.AnsweredLends.{Lendable, IsLent, LendAnsweredAt, LendAnswered}
use Rattle.model.proofs.Tables.{first_from-some}
use Rattle.model.proofs.Tallies.{tally-append, tally-hit}
use Rattle.model.proofs.Plan as plan
use Rattle.model.proofs.Slots.{current-in-window}
use Rattle.model.proofs.Marks.{mark}
use Rattle.model.proofs.SlotOwners.{owner_in, unowned, unbooked-none}
use Rattle.model.proofs.LendKeeps.{lend-passes}
use Rattle.model.proofs.ResetTests.{granted, not_granted, reset-is}
use Rattle.model.proofs.HistoryCounts.{split-at-reset, raises-are}
use Rattle.model.proofs.AfterHistory.{After}
use Rattle.model.proofs.AfterCalls.{Known}
use Rattle.model.proofs.LendTurn.{lend-is, some-taker}
use Rattle.model.proofs.Waiting.{waiting-takes, taking-waits}
use Rattle.model.proofs.EventsOfRuns.{Happened, by-calls}

-- ---- a lend that is answered with a flow

pub record LentTo (l : Link) (mask i : ℕ) : Type 0 where
  pub passes : first_of (lend_tests l mask) ≡ 0
  pub known : i < flow_count l.plan
  pub can : takes l mask i ≡ true
  pub gets : lend l mask ≡ record { link = lent_to l i; answer = accepted i }

pub lend-answered : (l : Link) (mask i : ℕ) → 0 < flow_count l.plan → (lend l mask).answer ≡ accepted i → LentTo l mask i
unfolding first_in_turn lent_after lend lend_after
lend-answered l mask i some_flow a = tested (first_of (lend_tests l mask)) refl a
  where
    n : ℕ
    n = flow_count l.plan

    found : first_of (lend_tests l mask) ≡ 0 → (o : Option ℕ) → first_in_turn l mask ≡ o → (lent_after l o).answer ≡ accepted i → LentTo l mask i
    found e none f is = let z : ◌≡◌ {A = ℕ} 0 1 = cc in absurd (omega arith)
    found e (some k) f is =
        let z : k % n ≡ i = cc in
        subst (LentTo l mask) z (record {
          passes = e;
          known = mod-lt k some_flow;
          can = (first_from-some n l.turn (λ j. takes l mask (j % n)) k f).passes;
          gets = lend-is l mask e ∙ ap (lent_after l) f;
        })

    tested : (r : ℕ) → first_of (lend_tests l mask) ≡ r → (lend_after r l mask).answer ≡ accepted i → LentTo l mask i
    tested zero e is = found e (first_in_turn l mask) refl is
    tested (suc r) e is = let z : ◌≡◌ {A = ℕ} 0 1 = cc in absurd (omega arith)

-- a lend that is refused changes nothing
pub lend-refused : (l : Link) (mask r : ℕ) → (lend l mask).answer ≡ refused r → (lend l mask).link ≡ l
unfolding first_in_turn lent_after lend lend_after
lend-refused l mask r a = tested (first_of (lend_tests l mask)) a
  where
    found : (o : Option ℕ) → (lent_after l o).answer ≡ refused r → (lent_after l o).link ≡ l
    found none is = refl
    found (some k) is = let z : ◌≡◌ {A = ℕ} 0 1 = cc in absurd (omega arith)

    tested : (x : ℕ) → (lend_after x l mask).answer ≡ refused r → (lend_after x l mask).link ≡ l
    tested zero is = found (first_in_turn l mask) is
    tested (suc x) is = refl

-- ---- the owners of a slot, with one event more

pub owners-more : (P : Plan) (e : Event) (h : History) (s : ℕ) → owners_of P (e ∷ h) s ≡ tally (at_slot s) (grant_at P e h) + tally (at_slot s) (lend_at e h) + owners_of P h s
unfolding grants lends
owners-more P e h s = omega (arith, tally-append (at_slot s) (grant_at P e h) (grants P h), tally-append (at_slot s) (lend_at e h) (lends h))

-- ---- the mark is on only where the current slot has an owner

request-marks : (l : Link) (w : ℕ) → (request l w).link.marked ≡ l.marked
unfolding request request_after answered booked refused_at_newest
request-marks l w = go (first_of (request_tests l.plan (flow l (flow_of w)).number w))
  where
    at-found : (f : Found) → (answered l w f).link.marked ≡ l.marked
    at-found (found j c p) = refl
    at-found (nowhere c) = refl

    go : (r : ℕ) → (request_after r l w).link.marked ≡ l.marked
    go zero = at-found (sought l (flow_of w) (departure_of w))
    go (suc r) = refl

credit-marks : (l : Link) (i p : ℕ) → (credit l i p).link.marked ≡ l.marked
unfolding credit credit_after lowered
credit-marks l i p = go (first_of (credit_tests l i p))
  where
    go : (r : ℕ) → (credit_after r l i p).link.marked ≡ l.marked
    go zero = refl
    go (suc r) = refl

tick-unmarks : (l : Link) → (tick l).link.marked ≡ false
unfolding tick advanced
tick-unmarks l = refl

module _ {l : Link} {h : History} (g : After l.plan l h) where
  open l use {plan as P}
  open g use {invariant as v}
  open v.current use {accepted as ok}

  abbrev t : ℕ
  t = ticks h

  -- what is granted since the last granted reset is granted
  since-le : tally (at_slot t) (grants_since P h) ≤ owners_of P h t
  unfolding grants grants_since
  since-le = omega (arith, split-at-reset (grant_at P) (at_slot t) h)

  -- the current position has no owner exactly if its slot was not granted since then
  owner-is : owner l l.current ≡ owner_in (grants_since P h) t
  owner-is = ap (owner l) v.current.current_is ∙ v.bookings.owners_are t (current-in-window ok t)

  free-if-none : tally (at_slot t) (grants_since P h) ≡ 0 → unbooked (owner l l.current) ≡ true
  free-if-none e = ap unbooked (owner-is ∙ (unowned t (grants_since P h)).1 e)

  none-if-free : unbooked (owner l l.current) ≡ true → tally (at_slot t) (grants_since P h) ≡ 0
  none-if-free free = (unowned t (grants_since P h)).0 (sym owner-is ∙ unbooked-none _ free)

  owner-if-booked : unbooked (owner l l.current) ≡ false → 0 < owners_of P h t
  owner-if-booked booked = go (tally (at_slot t) (grants_since P h)) refl
    where
      go : (n : ℕ) → tally (at_slot t) (grants_since P h) ≡ n → 0 < owners_of P h t
      go zero e = let free = free-if-none e in let z : ◌≡◌ {A = ℕ} 0 1 = cc in absurd (omega arith)
      go (suc n) e = omega (arith, since-le)

  -- where the mark is on, the current slot has an owner by the counts
  abbrev MarkedNow : Type 0
  MarkedNow = l.marked ≡ true → 0 < owners_of P h t

  reset_link-marked : MarkedNow → (reset_link l).marked ≡ true → 0 < owners_of P h t
  unfolding reset_link
  reset_link-marked before = go (unbooked (owner l l.current)) refl
    where
      go : (b : Bool) → unbooked (owner l l.current) ≡ b → not b || l.marked ≡ true → 0 < owners_of P h t
      go true free e = before e
      go false booked e = owner-if-booked booked

  reset-marked : MarkedNow → (reset l).link.marked ≡ true → 0 < owners_of P h t
  reset-marked before = rw (reset-is l) (go (quiet l))
    where
      go : (b : Bool) → (cond b (granted l) (not_granted l)).link.marked ≡ true → 0 < owners_of P h t
      go true = reset_link-marked before
      go false = before

  lend-marked : MarkedNow → (mask : ℕ) (a : LendAnswer) → (lend l mask).answer ≡ a → (lend l mask).link.marked ≡ true → 0 < owners_of P (lent mask a ∷ h) t
  unfolding tally
  lend-marked before mask (accepted i) e marked =
      omega (arith, owners-more P (lent mask (accepted i)) h t, tally-hit (at_slot t) (mark i t) [] (eq-eqb t t refl))
  lend-marked before mask (refused r) e marked =
      omega (
        arith,
        owners-more P (lent mask (refused r)) h t,
        before (ap (λ k. k.marked) (sym (lend-refused l mask r e)) ∙ marked),
      )

  -- ---- a lend

  module _ (before : MarkedNow) (mask : ℕ) where
    lendable : (i : ℕ) → LentTo l mask i → Lendable P mask h
    lendable i x =
        let free = lend-passes l mask x.passes in
        record {
          mask_below = free.mask_below;
          idle = omega (arith, v.owned.unmarked free.not_marked, none-if-free free.not_booked, raises-are P (at_slot t) h);
          taker = i;
          known = x.known;
          waits = taking-waits g i mask x.known x.can;
        }

    not_marked : owners_of P h t ≡ 0 → l.marked ≡ false
    not_marked idle = go l.marked refl
      where
        go : (b : Bool) → l.marked ≡ b → b ≡ false
        go true e = absurd (omega (arith, before e))
        go false e = refl

    passes-if-lendable : Lendable P mask h → first_of (lend_tests l mask) ≡ 0
    unfolding first_of
    passes-if-lendable x =
        let free : unbooked (owner l l.current) ≡ true = free-if-none (omega (arith, since-le, x.idle)) in
        rw (lt-leb (2 ^ flow_count P) mask x.mask_below, free, not_marked x.idle) refl

    lends-at : LendAnsweredAt P (lent mask (lend l mask).answer) h
    lends-at = (
      λ is. answered-with (lend l mask).answer refl is,
      λ x.
          let taker = some-taker l mask (passes-if-lendable x) x.taker x.known (waiting-takes g x.taker mask x.known x.waits) in
          subst IsLent (sym (ap (λ s. s.answer) taker.gets)) tt,
    )
      where
        answered-with : (a : LendAnswer) → (lend l mask).answer ≡ a → IsLent a → Lendable P mask h
        answered-with (accepted i) e is = lendable i (lend-answered l mask i ok.some_flow e)
        answered-with (refused r) e is = absurd is

-- ---- a list of calls

-- after the calls so far: what the mark says, and which lends were answered
record Stands (P : Plan) (r : Played reference) : Type 0 where
  marked : r.state.marked ≡ true → 0 < owners_of P r.history (ticks r.history)
  each : Each (LendAnsweredAt P) r.history

one_more : (r : Played reference) (c : Call) → Known r.state.plan r → Stands r.state.plan r → Stands r.state.plan (step reference r c)
unfolding ticks tally
one_more r (Call.request w) g x = record {
  marked = λ e.
      omega (
        arith,
        owners-more r.state.plan (requested w (request r.state w).answer) r.history (ticks r.history),
        x.marked (sym (request-marks r.state w) ∙ e),
      );
  each = (tt, x.each);
}
one_more r (Call.credit i p) g x = record {
  marked = λ e.
      omega (
        arith,
        owners-more r.state.plan (credited i p (credit r.state i p).answer) r.history (ticks r.history),
        x.marked (sym (credit-marks r.state i p) ∙ e),
      );
  each = (tt, x.each);
}
one_more r Call.tick g x = record {
  marked = λ e. let off = tick-unmarks r.state in let z : ◌≡◌ {A = ℕ} 0 1 = cc in absurd (omega arith);
  each = (tt, x.each);
}
one_more r (Call.lend m) g x = record {
  marked = lend-marked g x.marked m (lend r.state m).answer refl;
  each = (lends-at g x.marked m, x.each);
}
one_more r Call.reset g x = record {
  marked = λ e.
      omega (
        arith,
        owners-more r.state.plan (Event.reset (reset r.state).answer) r.history (ticks r.history),
        reset-marked g x.marked e,
      );
  each = (tt, x.each);
}

fresh_unmarked : (P : Plan) → (fresh P).marked ≡ false
unfolding fresh
fresh_unmarked P = refl

-- on any plan that keeps the limits, and so on the plan of any bytes that are accepted
pub lends-answered-accepted : (P : Plan) → Accepted P → (calls : List Call) → Each (LendAnsweredAt P) (run reference P calls).history
lends-answered-accepted P ok calls = (by-calls ok (Stands P) more first calls).each
  where
    first : Stands P (started reference P)
    first = record { marked = λ e. let off = fresh_unmarked P in let z : ◌≡◌ {A = ℕ} 0 1 = cc in absurd (omega arith); each = tt }

    more : (r : Played reference) (c : Call) → Known P r → Each (Happened P) r.history → Stands P r → Stands P (step reference r c)
    more r c g happened = subst (λ Q. Known Q r → Stands Q r → Stands Q (step reference r c)) g.plan_is (one_more r c) g

pub lends-answered : LendAnswered reference
lends-answered bytes passes = lends-answered-accepted (plan_of bytes) (plan.accepted bytes passes)
