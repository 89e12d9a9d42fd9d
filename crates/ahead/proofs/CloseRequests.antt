-- Links that are close answer a request alike, if the first grants no slot before the one from which their holdings are the same; and they stay close.
-- Assumes nothing.
use Prim.Native.Nat.{ℕ, zero, suc, ◌+◌, ◌%◌, ◌≤◌, ◌<◌}
use mathlib.Core.Path.{◌≡◌, refl, sym, ap, ap₂, ◌∙◌, subst}
use mathlib.Core.Option.{some}
use mathlib.Core.Bool.{Bool, true, false, not, ◌&&◌, cond}
use native.Mathlib.Nat.{mod-lt}
use native.Mathlib.Omega.{arith}
use lib.Dec.{ltb, eqb}
use borrow.Author.Tests.{ltb-true, leb-false, lt-ltb, not-false}
use Rattle.model.specs.Tables.{ahead}
use Rattle.model.specs.Refusals.{first_of}
use Rattle.model.specs.Word.{flow_of, departure_of}
use Rattle.model.specs.Plan.{Plan, positions, flow_count, entry}
use Rattle.model.specs.Calls.{Grant, refused}
use Rattle.model.specs.Window.{Window, start, newest, passed, from_on, every_from}
use Rattle.model.specs.Link.{Link, Step, window, owner, flow, holding, cells}
use Rattle.model.specs.Request.{Found, found, nowhere, request_tests, next_number, unbooked, valid, can_leave, valid_for, search, sought}
use Rattle.model.specs.Request.{would_be_valid, newest_tests, booked, refused_at_newest, answered, request_after, request}
use Rattle.model.specs.History.{slot_after}
use Rattle.model.specs.Holding.{InWindow}
use Rattle.ahead.specs.AheadRuns.{GrantFrom, AnsweredAlike}
use Rattle.model.proofs.Tests.{and-true, any_same, same_truth, line-passed}
use Rattle.model.proofs.Word.{departure-depart}
use Rattle.model.proofs.Slots.{some-frame, some-position, slot_at, slot_at-in-window, slot_at-position, slot_after-is}
use Rattle.model.proofs.Window.{passed_is, every_from-at, every_from-intro}
use Rattle.model.proofs.LinkUpdates.{owner-with_owners, held_from-at}
use Rattle.model.proofs.Invariant.{Ledger, Invariant}
use Rattle.model.proofs.SearchedFrames.{in_window}
use Rattle.ahead.proofs.FewerValid.{Follows, search-follows, FoundValid, search-valid}
use Rattle.ahead.proofs.CloseLinks.{Close, Parts, with, by-base, raised, each-close}

module _ (base : Link) (x y : Parts) {L : Ledger} (v : Invariant (with base x) L) {b : ℕ → ℕ} (c : Close base.plan L.now b (with base x) (with base y)) where
  open base use {plan as P}
  open L use {now as t}
  open v use {current as now}
  open v.current use {accepted as ok}

  abbrev T : ℕ
  T = positions P

  abbrev w : Window
  w = window base

  abbrev k : Link
  k = with base x

  abbrev l : Link
  l = with base y

  module _ {i : ℕ} (known : i < flow_count P) where
    -- ---- which positions are valid

    abbrev has_room : Link → ℕ → Bool
    has_room m q = ltb (holding m i q) (cells m i)

    -- a slot that is valid for flow i, by its parts
    valid-parts : (m : Link) (p : ℕ) → valid m i p ≡ true
        → (unbooked (owner m p) ≡ true) × ((not (passed (window m) p) ≡ true) × (every_from (window m) p (has_room m) ≡ true))
    unfolding valid
    valid-parts m p e =
        let a = and-true (unbooked (owner m p) && not (passed (window m) p)) (every_from (window m) p (has_room m)) e in
        let d = and-true (unbooked (owner m p)) (not (passed (window m) p)) a.0 in
        (d.0, (d.1, a.1))

    valid-by : (m : Link) (p : ℕ) → unbooked (owner m p) ≡ true → not (passed (window m) p) ≡ true → every_from (window m) p (has_room m) ≡ true
        → valid m i p ≡ true
    unfolding valid
    valid-by m p free to_come room = rw (free, to_come, room) refl

    -- a slot that is not passed is to come
    to_come : (s : ℕ) → InWindow P t s → not (passed w (s % T)) ≡ true → t < s
    to_come s w-s e = leb-false s t (sym (passed_is now s w-s) ∙ not-true (passed w (s % T)) e)
      where
        not-true : (a : Bool) → not a ≡ true → a ≡ false
        not-true true e = sym e
        not-true false e = refl

    -- what is valid on the second link is valid on the first
    valid-less : (s : ℕ) → InWindow P t s → valid l i (s % T) ≡ true → valid k i (s % T) ≡ true
    valid-less s w-s e =
        let a = valid-parts l (s % T) e in
        let after = to_come s w-s a.1.0 in
        let same-owner = c.owners (s % T) (mod-lt s (some-position ok)) in
        valid-by k (s % T) (ap unbooked same-owner ∙ a.0) a.1.0
        (every_from-intro now s (has_room k) w-s λ r w-r le.
        let room = ltb-true (holding l i (r % T)) (cells l i) (every_from-at now s (has_room l) w-s a.1.1 r w-r le) in
        lt-ltb (holding k i (r % T)) (cells k i) (omega (arith, (c.flows i known).no_less r w-r (omega arith))))

    -- and the other way round, from slot b on
    valid-from : (s : ℕ) → InWindow P t s → b i ≤ s → valid k i (s % T) ≡ true → valid l i (s % T) ≡ true
    valid-from s w-s from e =
        let a = valid-parts k (s % T) e in
        let after = to_come s w-s a.1.0 in
        let same-owner = c.owners (s % T) (mod-lt s (some-position ok)) in
        valid-by l (s % T) (ap unbooked (sym same-owner) ∙ a.0) a.1.0
        (every_from-intro now s (has_room l) w-s λ r w-r le.
        let room = ltb-true (holding k i (r % T)) (cells k i) (every_from-at now s (has_room k) w-s a.1.1 r w-r le) in
        lt-ltb (holding l i (r % T)) (cells l i) (omega (arith, (c.flows i known).same_from r w-r (omega arith) (omega arith))))

    -- by positions
    at_position : (Q : ℕ → Type 0) → ((s : ℕ) → InWindow P t s → Q (s % T)) → (q : ℕ) → q < T → Q q
    at_position Q h q below = subst Q (slot_at-position ok t q below) (h (slot_at ok t q) (slot_at-in-window ok t q))

    valid-for-less : (d q : ℕ) → q < T → valid_for l i d q ≡ true → valid_for k i d q ≡ true
    unfolding valid_for
    valid-for-less d q below e =
        let a = and-true (valid l i q) (can_leave w d q) e in
        rw (at_position (λ q. valid l i q ≡ true → valid k i q ≡ true) valid-less q below a.0) a.1

    -- ---- the search

    frame_below : (flow k i).injection < P.frames
    frame_below = rw (v.injects i known).injection_is (mod-lt _ (some-frame ok))

    sought-follows : (d : ℕ) → Follows (valid_for l i d) (sought k i d) (sought l i d)
    unfolding sought
    sought-follows d =
        let own = c.flows i known in
        subst (Follows (valid_for l i d) (sought k i d))
        (ap₂ (λ j r. search w (valid_for l i d) (entry P i).share (ahead P.frames j (newest w)) j r) own.frame own.remainder)
        (search-follows w (entry P i).share (valid_for k i d) (valid_for l i d) (valid-for-less d) _ _ _ frame_below)

    sought-valid : (d : ℕ) → FoundValid w (entry P i).share (valid_for k i d) (sought k i d)
    unfolding sought
    sought-valid d = search-valid w (entry P i).share (valid_for k i d) _ _ _ frame_below

    -- the found position is that of a slot to come
    module _ (d p : ℕ) (below : p < T) (ok-first : valid_for k i d p ≡ true) where
      abbrev s : ℕ
      s = slot_at ok t p

      w-s : InWindow P t s
      w-s = slot_at-in-window ok t p

      at_p : s % T ≡ p
      at_p = slot_at-position ok t p below

      valid-there : valid k i p ≡ true
      unfolding valid_for
      valid-there = (and-true (valid k i p) (can_leave w d p) ok-first).0

      slot_is : slot_after P t p ≡ s
      slot_is =
          let after = to_come s w-s (subst (λ q. not (passed w q) ≡ true) (sym at_p) (valid-parts k p valid-there).1.0) in
          ap (slot_after P t) (sym at_p) ∙ slot_after-is ok t s w-s after

      valid-second : b i ≤ slot_after P t p → valid_for l i d p ≡ true
      unfolding valid_for
      valid-second from =
          let there = valid-from s w-s (subst (b i ≤◌) slot_is from) (subst (λ q. valid k i q ≡ true) (sym at_p) valid-there) in
          rw (subst (λ q. valid l i q ≡ true) at_p there) (and-true (valid k i p) (can_leave w d p) ok-first).1

    -- ---- what stays close

    booked-close : (j r p : ℕ) → Close P t b (booked k i j r p) (booked l i j r p)
    unfolding booked
    booked-close j r p = record {
      plan_first = refl;
      plan_second = refl;
      current = refl;
      owners = λ q below. owner-with_owners k _ q below ∙ ap (cond (eqb q p) (some i)) (c.owners q below) ∙ sym (owner-with_owners l _ q below);
      flows = each-close base x y c known _ _ (record {
        frame = refl;
        remainder = refl;
        number = ap next_number (c.flows i known).number;
        no_less = λ s w-s le.
            let position = mod-lt s (some-position ok) in
            let rise = raised (from_on w p (s % T)) (holding k i (s % T)) (holding l i (s % T)) ((c.flows i known).no_less s w-s le) in
            rw (held_from-at k i p suc (s % T) position, held_from-at l i p suc (s % T) position) rise;
        same_from = λ s w-s le from.
            let position = mod-lt s (some-position ok) in
            held_from-at k i p suc (s % T) position
            ∙ ap (λ z. cond (from_on w p (s % T)) (suc z) z) ((c.flows i known).same_from s w-s le from)
            ∙ sym (held_from-at l i p suc (s % T) position);
      });
      begun = c.begun;
    }

    refused-close : (r : ℕ) → Close P t b (refused_at_newest k i r) (refused_at_newest l i r)
    unfolding refused_at_newest
    refused-close r = record {
      plan_first = refl;
      plan_second = refl;
      current = refl;
      owners = c.owners;
      flows = each-close base x y c known _ _ (record {
        frame = refl;
        remainder = refl;
        number = (c.flows i known).number;
        no_less = (c.flows i known).no_less;
        same_from = (c.flows i known).same_from;
      });
      begun = c.begun;
    }

    -- where the slot has come up, the same positions are valid
    valid_same : b i ≤ t → (q : ℕ) → q < T → valid k i q ≡ valid l i q
    valid_same come = at_position (λ q. valid k i q ≡ valid l i q) λ s w-s.
        same_truth (valid k i (s % T)) (valid l i (s % T))
        (λ e. valid-from s w-s (let after = to_come s w-s (valid-parts k (s % T) e).1.0 in omega arith) e)
        (valid-less s w-s)

    would_same : b i ≤ t → would_be_valid k i ≡ would_be_valid l i
    unfolding would_be_valid
    would_same come = any_same P.slots _ _ λ x h. valid_same come (start w (newest w) + x) (in_window w (newest w) x (mod-lt _ (some-frame ok)) h)

  -- ---- the request

  -- answered alike, and close
  abbrev pub Alike : ℕ → Step Grant → Step Grant → Type 0
  Alike i s s' = AnsweredAlike t (b i) s.answer s'.answer × Close P t b s.link s'.link

  module _ (u : ℕ) where
    abbrev i : ℕ
    i = flow_of u

    searched : i < flow_count P → (f f' : Found) → Follows (valid_for l i (departure_of u)) f f' → FoundValid w (entry P i).share (valid_for k i (departure_of u)) f
        → GrantFrom P t (b i) (answered k u f).answer → Alike i (answered k u f) (answered l u f')
    unfolding answered
    searched known (found j r p) f' follows in_window from =
        let departs = departure-depart u p (omega (arith, in_window.0, ok.positions_most)) in
        let there = valid-second known (departure_of u) p in_window.0 in_window.1 (omega (arith, from, ap (slot_after P t) departs)) in
        subst (λ z. Alike i (answered k u (found j r p)) (answered l u z)) (sym (follows there))
        (record { same_grant = refl; same_answer = λ come. refl }, booked-close known j r p)
    searched known (nowhere r) f' follows in_window from =
        subst (λ z. Alike i (answered k u (nowhere r)) (answered l u z)) (sym follows) (
          record { same_grant = tt; same_answer = λ come. ap (λ would. refused (first_of (newest_tests would r))) (would_same known come) },
          refused-close known r,
        )

    abbrev number : Link → ℕ
    number m = first_of (request_tests P (flow m i).number u)

    tests_same : number k ≡ number l
    unfolding first_of
    tests_same = go (ltb i (flow_count P)) refl
      where
        go : (e : Bool) → ltb i (flow_count P) ≡ e → number k ≡ number l
        go true e = ap (λ z. first_of (request_tests P z u)) (c.flows i (ltb-true i (flow_count P) e)).number
        go false e = rw e

    tested : (r : ℕ) → number k ≡ r → GrantFrom P t (b i) (request_after r k u).answer → Alike i (request_after r k u) (request_after r l u)
    unfolding request_after
    tested zero e from =
        let known = ltb-true i (flow_count P) (not-false (ltb i (flow_count P)) (line-passed _ 7 _ e).0) in
        searched known (sought k i (departure_of u)) (sought l i (departure_of u)) (sought-follows known (departure_of u)) (sought-valid known (departure_of u)) from
    tested (suc r) e from = (record { same_grant = tt; same_answer = λ come. refl }, c)

    request-alike : GrantFrom P t (b i) (request k u).answer → Alike i (request k u) (request l u)
    unfolding request
    request-alike from =
        subst (λ z. Alike i (request_after (number k) k u) (request_after z l u)) tests_same (tested (number k) refl from)

-- for any two links that are close
pub close-request : {P : Plan} {k l : Link} {L : Ledger} {b : ℕ → ℕ} → Invariant k L → Close P L.now b k l → (u : ℕ)
    → GrantFrom P L.now (b (flow_of u)) (request k u).answer
    → AnsweredAlike L.now (b (flow_of u)) (request k u).answer (request l u).answer × Close P L.now b (request k u).link (request l u).link
close-request {P} {k} {l} {L} {b} v c u from =
    by-base
    (λ P k l. Invariant k L → Close P L.now b k l → GrantFrom P L.now (b (flow_of u)) (request k u).answer
    → AnsweredAlike L.now (b (flow_of u)) (request k u).answer (request l u).answer × Close P L.now b (request k u).link (request l u).link)
    (λ base x y v c. request-alike base x y v c u) P k l c.plan_first c.plan_second c.current v c from
