-- Two links with one plan and one CP that agree in what is later than CP answer requests alike. Assumes nothing.
use Prim.Native.Nat.{ℕ, zero, suc, ◌+◌, ◌%◌, ◌<◌}
use mathlib.Core.Path.{◌≡◌, refl, sym, ap, ap₂, ◌∙◌, subst}
use mathlib.Core.List.{List, ◌∷◌, []}
use mathlib.Core.Option.{Option, some}
use mathlib.Core.Bool.{Bool, true, false, ◌&&◌, cond}
use native.Mathlib.Nat.{mod-lt}
use native.Mathlib.Decide.{ℕ_discrete}
use native.Mathlib.Omega.{arith}
use lib.Dec.{leb, ltb, eqb}
use lib.ListN.{get_or}
use borrow.Author.Tests.{ltb-true, leb-false, not-false}
use Rattle.model.specs.Tables.{ahead}
use Rattle.model.specs.Refusals.{first_of}
use Rattle.model.specs.Word.{flow_of, departure_of, depart}
use Rattle.model.specs.Plan.{positions, flow_count, entry}
use Rattle.model.specs.Calls.{Grant, accepted, refused}
use Rattle.model.specs.Window.{Window, start, newest, from_on}
use Rattle.model.specs.Link.{Link, Flow, Step, window, link_with, owner, flow, holding, cells, with_flow}
use Rattle.model.specs.Request.{Found, found, nowhere, request_tests, next_number, unbooked, valid, can_leave, valid_for, search, sought}
use Rattle.model.specs.Request.{would_be_valid, newest_tests, booked, refused_at_newest, answered, request_after, request}
use Rattle.model.specs.Holding.{InWindow}
use Rattle.model.specs.AsFresh.{answers_to}
use Rattle.model.proofs.Tests.{and-false, any_same, line-passed}
use Rattle.model.proofs.Slots.{some-frame, some-position, slot_at, slot_at-in-window, slot_at-position}
use Rattle.model.proofs.Window.{Current, passed_is, every_from-same}
use Rattle.model.proofs.LinkUpdates.{owner-with_owners, flow-same, flow-other, held_from-at}
use Rattle.model.proofs.SearchedFrames.{in_window, search-same, found_below}

-- Both links are this one with other owners, other flows, another mark and another flow to lend from.
module _ (base : Link) {t : ℕ} (now : Current base.plan t base.current) where
  open base use {plan as P}
  open now use {accepted as ok}

  abbrev T : ℕ
  T = positions P

  abbrev w : Window
  w = window base

  -- what they have
  pub record Pair : Type 0 where
    pub owners : List (Option ℕ)
    pub owners' : List (Option ℕ)
    pub flows : List Flow
    pub flows' : List Flow
    pub marked : Bool
    pub marked' : Bool
    pub turn : ℕ
    pub turn' : ℕ

  abbrev pub first : Pair → Link
  first x = link_with base base.current x.owners x.flows x.marked x.turn

  abbrev pub second : Pair → Link
  second x = link_with base base.current x.owners' x.flows' x.marked' x.turn'

  -- what two links have
  abbrev pub pair : Link → Link → Pair
  pair k l = record {
    owners = k.owners;
    owners' = l.owners;
    flows = k.flows;
    flows' = l.flows;
    marked = k.marked;
    marked' = l.marked;
    turn = k.turn;
    turn' = l.turn;
  }

  -- ---- what agrees

  pub record AlikeFlow (x y : Flow) : Type 0 where
    pub frame : x.injection ≡ y.injection
    pub frame_below : x.injection < P.frames
    pub remainder : x.remainder ≡ y.remainder
    pub held : (s : ℕ) → InWindow P t s → t < s → get_or x.held (s % T) 0 ≡ get_or y.held (s % T) 0
    pub number : x.number ≡ y.number

  pub record Alike (k l : Link) : Type 0 where
    pub owners : (s : ℕ) → InWindow P t s → t < s → owner k (s % T) ≡ owner l (s % T)
    pub flows : (i : ℕ) → i < flow_count P → AlikeFlow (flow k i) (flow l i)

  -- ---- the search, and what it leaves

  module _ (x : Pair) (a : Alike (first x) (second x)) where
    abbrev k : Link
    k = first x

    abbrev l : Link
    l = second x

    module _ {i : ℕ} (known : i < flow_count P) where
      valid_same : (s : ℕ) → InWindow P t s → valid k i (s % T) ≡ valid l i (s % T)
      unfolding valid
      valid_same s w-s = go (leb s t) refl
        where
          go : (b : Bool) → leb s t ≡ b → valid k i (s % T) ≡ valid l i (s % T)
          go true e = rw (passed_is now s w-s, e, and-false (unbooked (owner k (s % T))), and-false (unbooked (owner l (s % T))))
          go false e =
              let after = leb-false s t e in
              let room = every_from-same now s (λ q. ltb (holding k i q) (cells k i)) (λ q. ltb (holding l i q) (cells l i)) w-s λ r w-r le.
              ap (λ x. ltb x (cells k i)) ((a.flows i known).held r w-r (omega arith)) in
              rw (a.owners s w-s after, room)

      -- at every position
      valid-at : (q : ℕ) → q < T → valid k i q ≡ valid l i q
      valid-at q below = subst (λ p. valid k i p ≡ valid l i p) (slot_at-position ok t q below) (valid_same (slot_at ok t q) (slot_at-in-window ok t q))

      sought-same : (d : ℕ) → sought k i d ≡ sought l i d
      unfolding sought valid_for
      sought-same d =
          let own = a.flows i known in
          search-same w (entry P i).share (valid_for k i d) (valid_for l i d) (λ q below. ap (◌&& can_leave w d q) (valid-at q below)) _ _ _ own.frame_below
          ∙ ap₂ (λ j c. search w (valid_for l i d) (entry P i).share (ahead P.frames j (newest w)) j c) own.frame own.remainder

      would_same : would_be_valid k i ≡ would_be_valid l i
      unfolding would_be_valid
      would_same = any_same P.slots _ _ λ x h. valid-at (start w (newest w) + x) (in_window w (newest w) x (mod-lt _ (some-frame ok)) h)

      -- flow i changed in both, and what the others have stays
      each-alike : (x y : Flow) → AlikeFlow x y → (j : ℕ) → j < flow_count P → AlikeFlow (flow (with_flow k i x) j) (flow (with_flow l i y) j)
      each-alike x y own j below = go (ℕ_discrete j i)
        where
          go : Dec (j ≡ i) → AlikeFlow (flow (with_flow k i x) j) (flow (with_flow l i y) j)
          go (yes e) = rw (e, flow-same k i x known, flow-same l i y known) own
          go (no d) = rw (flow-other k i x j below d, flow-other l i y j below d) (a.flows j below)

      booked-alike : (j r p : ℕ) → j < P.frames → Alike (booked k i j r p) (booked l i j r p)
      unfolding booked
      booked-alike j r p below = record {
        owners = λ s w-s after.
            let position = mod-lt s (some-position ok) in
            owner-with_owners k _ (s % T) position ∙ ap (cond (eqb (s % T) p) (some i)) (a.owners s w-s after)
            ∙ sym (owner-with_owners l _ (s % T) position);
        flows = each-alike _ _ (record {
          frame = refl;
          frame_below = below;
          remainder = refl;
          held = λ s w-s after.
              let position = mod-lt s (some-position ok) in
              held_from-at k i p suc (s % T) position
              ∙ ap (λ x. cond (from_on w p (s % T)) (suc x) x) ((a.flows i known).held s w-s after)
              ∙ sym (held_from-at l i p suc (s % T) position);
          number = ap next_number (a.flows i known).number;
        });
      }

      refused-alike : (r : ℕ) → Alike (refused_at_newest k i r) (refused_at_newest l i r)
      unfolding refused_at_newest
      refused-alike r = record {
        owners = a.owners;
        flows = each-alike _ _ (record {
          frame = refl;
          frame_below = mod-lt _ (some-frame ok);
          remainder = refl;
          held = (a.flows i known).held;
          number = (a.flows i known).number;
        });
      }

  -- ---- requests, one after the other

  -- links that agree answer requests with these words alike
  abbrev Answers : List ℕ → Type 0
  Answers words = (x : Pair) → Alike (first x) (second x) → answers_to (first x) words ≡ answers_to (second x) words

  module _ (u : ℕ) (words : List ℕ) (rest : Answers words) (x : Pair) (a : Alike (first x) (second x)) where
    abbrev i : ℕ
    i = flow_of u

    -- the answer, and those that follow
    abbrev list : Step Grant → List Grant
    list x = x.answer ∷ answers_to x.link words

    searched : i < flow_count P → (f : Found) → sought (first x) i (departure_of u) ≡ f → list (answered (first x) u f) ≡ list (answered (second x) u f)
    unfolding answered booked refused_at_newest sought
    searched known (found j r p) e =
        let in_frame = found_below w (entry P i).share (valid_for (first x) i (departure_of u)) _ _ _ (a.flows i known).frame_below e in
        ap (accepted (depart u p) ∷◌) (rest (pair (booked (first x) i j r p) (booked (second x) i j r p)) (booked-alike x a known j r p in_frame))
    searched known (nowhere r) e =
        ap₂ (λ would answers. refused (first_of (newest_tests would r)) ∷ answers) (would_same x a known)
        (rest (pair (refused_at_newest (first x) i r) (refused_at_newest (second x) i r)) (refused-alike x a known r))

    -- the tests before the search give the same: where the plan has the flow, both expect the same number of it
    abbrev number : Link → ℕ
    number m = first_of (request_tests P (flow m i).number u)

    tests_same : number (first x) ≡ number (second x)
    unfolding first_of
    tests_same = go (ltb i (flow_count P)) refl
      where
        go : (b : Bool) → ltb i (flow_count P) ≡ b → number (first x) ≡ number (second x)
        go true e = ap (λ k. first_of (request_tests P k u)) (a.flows i (ltb-true i (flow_count P) e)).number
        go false e = rw e

    tested : (r : ℕ) → number (first x) ≡ r → list (request_after r (first x) u) ≡ list (request_after r (second x) u)
    unfolding request_after
    tested zero e =
        let known = ltb-true i (flow_count P) (not-false (ltb i (flow_count P)) (line-passed _ 7 _ e).0) in
        searched known (sought (first x) i (departure_of u)) refl
        ∙ ap (λ f. list (answered (second x) u f)) (sought-same x a known (departure_of u))
    tested (suc r) e = ap (refused (suc r) ∷◌) (rest x a)

  pub answers-alike : (words : List ℕ) → Answers words
  unfolding answers_to request
  answers-alike [] x a = refl
  answers-alike (u ∷ words) x a =
      let rest = answers-alike words in
      tested u words rest x a (number u words rest x a (first x)) refl
      ∙ ap (λ r. list u words rest x a (request_after r (second x) u)) (tests_same u words rest x a)
