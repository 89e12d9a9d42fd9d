-- What a request leaves of a link, and what its answer can be: all that is used of the request's definition. RULES 6.4 to 6.6. Assumes nothing.
use Prim.Native.Nat.{ℕ, zero, suc, ◌+◌, ◌-◌, ◌*◌, ◌/◌, ◌%◌, ◌≤◌, ◌<◌}
use mathlib.Core.Path.{◌≡◌, refl, sym, ap, ◌∙◌, subst}
use mathlib.Core.List.{◌∷◌, []}
use mathlib.Core.Bool.{Bool, true, false}
use native.Mathlib.Nat.{mod-lt, mod-eq_of_lt, mod-add-mod}
use native.Mathlib.Omega.{arith}
use lib.Arith.{digits_div}
use lib.Dec.{ltb, eqb}
use borrow.Author.Tests.{ltb-true, not-true, not-false}
use Rattle.model.specs.Tables.{ahead}
use Rattle.model.specs.Refusals.{first_of, ◌when◌}
use Rattle.model.specs.Word.{flow_of, departure_of}
use Rattle.model.specs.Plan.{positions, flow_count}
use Rattle.model.specs.Calls.{refused}
use Rattle.model.specs.Window.{start, head, frame_at, newest, passed, every_from}
use Rattle.model.specs.Link.{Link, window, owner, flow, holding, share, cells, with_flow, moved_to}
use Rattle.model.specs.Request.{Found, found, nowhere, request_tests, unbooked, valid, valid_for, search, sought, would_be_valid, refused_at_newest, answered, request_after, request}
use Rattle.model.specs.Request as request
use Rattle.model.proofs.Round.{first_with, first_with-low, first_with-high, first_with-mod, ahead-mod}
use Rattle.model.proofs.Word.{depart-small}
use Rattle.model.proofs.Tests.{and-true, line-passed}
use Rattle.model.proofs.Slots.{some-frame, frame-high}
use Rattle.model.proofs.SearchedFrames.{Fails, Ends, search-ends}
use Rattle.imagemodel.specs.Consistent.{Keepable}
use Rattle.imagemodel.proofs.Numbers.{first_of-most, Word, Proper}
use Rattle.imagemodel.proofs.Bookings.{place-below}

module _ (l : Link) where
  open l use {plan as P}
  open P use {slots as F, frames as W}

  -- RULES 6.4, step 2, some times and not past the newest frame: then flow i has frame j as IF and c as C
  pub record Walked (i j c : ℕ) : Type 0 where
    pub steps : ℕ
    pub not_past : ahead W (head (window l)) (flow l i).injection + steps < W
    pub frame_is : j ≡ ((flow l i).injection + steps) % W
    pub at_first : steps ≡ 0 → c ≡ (flow l i).remainder
    pub later_on : 0 < steps → c ≡ share l i

  -- RULES 6.2: position p of frame j is valid
  pub record Bookable (i j p : ℕ) : Type 0 where
    pub position : p < positions P
    pub in_frame : frame_at (window l) p ≡ j
    pub not_booked : unbooked (owner l p) ≡ true
    pub not_passed : passed (window l) p ≡ false
    pub room : every_from (window l) p (λ q. ltb (holding l i q) (cells l i)) ≡ true

  pub data RequestLeaves : Link → Type 0 where
    unchanged : RequestLeaves l
    moved : (i j c : ℕ) → i < flow_count P → Walked i j c → RequestLeaves (with_flow l i (moved_to (flow l i) j c))
    booked : (i j c p : ℕ) → i < flow_count P → Walked i j (suc c) → Bookable i j p → RequestLeaves (request.booked l i j c p)

-- ---- the request

valid-bookable : (l : Link) (i j p : ℕ) → p < positions l.plan → frame_at (window l) p ≡ j → valid l i p ≡ true → Bookable l i j p
unfolding valid
valid-bookable l i j p below in_frame e =
    let both = and-true _ _ e in
    let first = and-true _ _ both.0 in
    record { position = below; in_frame = in_frame; not_booked = first.0; not_passed = not-true _ first.1; room = both.1 }

module _ {l : Link} (v : Keepable l) (word : ℕ) (known : flow_of word < flow_count l.plan) where
  open l use {plan as P}
  open P use {slots as F, frames as W}
  open v use {accepted as ok}

  -- the flow that asks, the test of a position that its search makes, and what the search comes to
  abbrev i : ℕ
  i = flow_of word

  abbrev test : ℕ → Bool
  test = valid_for l i (departure_of word)

  abbrev comes_to : Found
  comes_to = sought l i (departure_of word)

  passed-valid : (p : ℕ) → test p ≡ true → valid l i p ≡ true
  unfolding valid_for
  passed-valid p e = (and-true _ _ e).0

  abbrev HF : ℕ
  HF = head (window l)

  abbrev IF : ℕ
  IF = (flow l i).injection

  -- frames are numbered on from HF: these are IF and the newest
  abbrev first : ℕ
  first = first_with W HF IF

  abbrev newest_frame : ℕ
  newest_frame = HF + W - 1

  first_is : first ≡ HF + ahead W HF IF
  unfolding first_with
  first_is =
      let below : HF < W = frame-high ok W l.current (omega (arith, v.consistent.current_below)) in
      ap (λ h. HF + ahead W h IF) (mod-eq_of_lt below)

  first-low : HF ≤ first
  first-low = first_with-low (some-frame ok) HF IF

  first-high : first < HF + W
  first-high = first_with-high (some-frame ok) HF IF

  at-IF : first % W ≡ IF
  at-IF = first_with-mod (some-frame ok) HF IF (v.consistent.each_flow i known).injection_below

  -- the search comes to frame a with remainder c
  record Reached (a c : ℕ) : Type 0 where
    low : first ≤ a
    at_first : a ≡ first → c ≡ (flow l i).remainder
    later_on : first < a → c ≡ share l i

  walked : (a c : ℕ) → a ≤ newest_frame → Reached a c → Walked l i (a % W) c
  walked a c high r = record {
    steps = a - first;
    not_past = omega (arith, first_is, r.low, some-frame ok);
    frame_is =
        let back : a ≡ first + (a - first) = omega (arith, r.low) in
        ap (◌% W) back ∙ sym (mod-add-mod first W (a - first)) ∙ ap (λ j. (j + (a - first)) % W) at-IF;
    at_first = λ e. r.at_first (omega (arith, r.low));
    later_on = λ lt. r.later_on (omega arith);
  }

  Searched : Found → Type 0
  Searched = Ends (window l) test (share l i) newest_frame Reached

  searched : Searched comes_to
  unfolding sought Searched
  searched =
      rw more
      (subst (λ j. Searched (search (window l) test (share l i) (newest_frame - first) j (flow l i).remainder)) at-IF
      (search-ends (window l) test (share l i) newest_frame Reached goes_on (newest_frame - first) first (flow l i).remainder
      (omega (arith, first-high)) here))
    where
      more : ahead W IF (newest (window l)) ≡ newest_frame - first
      more =
          ap (λ x. ahead W x (newest (window l))) (sym at-IF)
          ∙ ahead-mod (some-frame ok) {b = first} {x = newest_frame} (omega (arith, first-high)) (omega (arith, first-low))

      goes_on : (a c : ℕ) → a < newest_frame → Reached a c → Fails (window l) test (share l i) (a % W) c → Reached (suc a) (share l i)
      goes_on a c h r fails = record { low = omega (arith, r.low); at_first = λ e. absurd (omega (arith, r.low)); later_on = λ lt. refl }

      here : Reached first (flow l i).remainder
      here = record { low = omega arith; at_first = λ e. refl; later_on = λ lt. absurd (omega arith) }

  -- the newest frame, with remainder c
  at-newest : (c : ℕ) → Reached newest_frame c → RequestLeaves l (refused_at_newest l i c)
  unfolding refused_at_newest
  at-newest c r = moved i (newest (window l)) c known (walked newest_frame c (omega arith) r)

  -- position p is slot x of frame j, which is reached
  module _ (j c p : ℕ) (r : Searched (found j c p)) where
    abbrev x : ℕ
    x = p - start (window l) j

    found_in : (x < F) × (j * F + x ≡ p)
    unfolding Searched
    found_in = rw r.frame_is (omega (arith, r.hit.low, r.hit.high), omega (arith, r.hit.low))

    found_below : p < positions P
    unfolding Searched
    found_below =
        let below : j < W = rw r.frame_is (mod-lt r.frame (some-frame ok)) in
        subst (◌< positions P) found_in.1 (place-below P j x below found_in.0)

    found-bookable : Bookable l i j p
    unfolding Searched
    found-bookable = valid-bookable l i j p found_below (ap (◌/ F) (sym found_in.1) ∙ digits_div j found_in.0)
        (passed-valid p r.hit.passes)

    found-walked : Walked l i j (suc c)
    unfolding Searched
    found-walked = rw r.frame_is (walked r.frame (suc c) r.frame_le r.reached)

  answered-leaves : (f : Found) → Searched f → RequestLeaves l (answered l word f).link
  unfolding answered Searched
  answered-leaves (found j c p) r = booked i j c p known (found-walked j c p r) (found-bookable j c p r)
  answered-leaves (nowhere c) r = at-newest c r.reached

  answered-proper : (f : Found) → Searched f → Proper Word (answered l word f).answer
  unfolding answered first_of
  answered-proper (found j c p) r = depart-small word p (omega (arith, found_below j c p r, ok.positions_most))
  answered-proper (nowhere c) r = refused-proper (eqb c 0) (would_be_valid l i)
    where
      refused-proper : (none would : Bool) → Proper {A = ℕ} Word (refused (first_of (11 when none ∷ 20 when would ∷ 12 when true ∷ [])))
      refused-proper true would = omega arith
      refused-proper false true = omega arith
      refused-proper false false = omega arith

module _ {l : Link} (v : Keepable l) (word : ℕ) where
  -- what the tests before the search give
  abbrev tested : ℕ
  tested = first_of (request_tests l.plan (flow l (flow_of word)).number word)

  asked : tested ≡ 0 → flow_of word < flow_count l.plan
  asked e = ltb-true (flow_of word) (flow_count l.plan) (not-false _ (line-passed _ 7 _ e).0)

  pub request-leaves : RequestLeaves l (request l word).link
  unfolding request request_after
  request-leaves = go tested refl
    where
      go : (r : ℕ) → tested ≡ r → RequestLeaves l (request_after r l word).link
      go zero e = answered-leaves v word (asked e) (comes_to v word (asked e)) (searched v word (asked e))
      go (suc r) e = unchanged

  pub request-proper : Proper Word (request l word).answer
  unfolding request request_after
  request-proper = go tested refl
    where
      go : (r : ℕ) → tested ≡ r → Proper Word (request_after r l word).answer
      go zero e = answered-proper v word (asked e) (comes_to v word (asked e)) (searched v word (asked e))
      go (suc r) e = omega (arith, first_of-most 24 (request_tests l.plan (flow l (flow_of word)).number word) (omega arith))
