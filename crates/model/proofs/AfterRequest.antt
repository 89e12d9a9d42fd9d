-- A request on a link that stands after a history. Assumes nothing.
use Prim.Native.Nat.{ℕ, zero, suc, ◌≤◌, ◌<◌}
use mathlib.Core.Path.{◌≡◌, refl, sym, ap, ◌∙◌}
use mathlib.Core.List.{◌∷◌}
use mathlib.Core.Bool.{Bool, true, false, not, cond}
use native.Mathlib.Decide.{ℕ_discrete}
use native.Mathlib.Omega.{arith}
use lib.Dec.{ltb, eqb}
use borrow.Author.Tests.{ltb-true, eqb-true, eqb-false, eq-eqb, ne_eqb, not-true, not-false}
use Rattle.model.specs.Tables.{tally}
use Rattle.model.specs.Refusals.{first_of}
use Rattle.model.specs.Word.{flow_of, quantum_of, departure_of, depart}
use Rattle.model.specs.Plan.{positions, flow_count}
use Rattle.model.specs.Calls.{Grant, Event, History, requested, accepted, refused}
use Rattle.model.specs.Window.{newest, later}
use Rattle.model.specs.Link.{Link, window, flow, moved_to}
use Rattle.model.specs.Request.{Found, found, nowhere, word_tests, next_number, sought, newest_tests, would_be_valid, booked_flow, booked, refused_at_newest}
use Rattle.model.specs.Request.{answered, request_after, request}
use Rattle.model.specs.History.{ticks, slot_after, frame_of, well_formed, origin, grants, credits, grants_since, refusals_since, refused_in, of_flow, in_frame, up_to}
use Rattle.model.specs.History.{expected_number}
use Rattle.model.proofs.Tests.{line-passed}
use Rattle.model.proofs.Tallies.{tally-hit, tally-skip}
use Rattle.model.proofs.Word.{departure-depart, quantum-depart}
use Rattle.model.proofs.Departures.{come-is}
use Rattle.model.proofs.LinkUpdates.{each_flow}
use Rattle.model.proofs.Marks.{mark, in-frame-skip, in-frame-other}
use Rattle.model.proofs.LeastCount.{Least, least-recounted, least_other}
use Rattle.model.proofs.RequestSearch.{Persists, Searched, request-searched}
use Rattle.model.proofs.RequestKeeps.{AfterGrant, after-grant, AfterRefusal, after-refusal}
use Rattle.model.proofs.HistoryCounts.{well-formed-is, request-number, departure-below, refusals-with, refusals-without, raises, raises-are}
use Rattle.model.proofs.AfterHistory.{AskedOn, LeastOf, NumberOf, After, after-event}

module _ {l : Link} {h : History} (g : After l.plan l h) (w : ℕ) where
  open l use {plan as P}
  open g use {invariant as v}

  abbrev t : ℕ
  t = ticks h

  -- the flow that asks
  abbrev i : ℕ
  i = flow_of w

  -- the departure of its word
  abbrev d : ℕ
  d = departure_of w

  -- its refusals in each frame, before this request
  abbrev R : ℕ → ℕ
  R f = refused_in P h i f

  -- the request, answered with a granted word or refused
  abbrev granted_with : ℕ → Event
  granted_with u = requested w (accepted u)

  abbrev refused_with : ℕ → Event
  refused_with r = requested w (refused r)

  -- a refusal that flow q does not count
  not-counted : (r q : ℕ) → q < flow_count P → ((f : ℕ) → refused_in P (refused_with r ∷ h) q f ≡ refused_in P h q f)
      → LeastOf P (refused_with r ∷ h) q (flow l q)
  unfolding ticks origin grants_since
  not-counted r q known same asked =
      least-recounted
      (g.least q known (record { ready = asked.ready.1; refused_before = λ f since lt. rw same at (asked.refused_before f since lt) })) _ same

  -- ---- a word that is not well formed

  ill-formed : (r : ℕ) → first_of (word_tests P w) ≡ suc r → After P l (refused_with (suc r) ∷ h)
  unfolding ticks origin grants grants_since raises credits
  ill-formed r e = after-event g (record {
    plan_is = refl;
    keeps = v;
    soon = tt;
    comes_up = tt;
    word = tt;
    after_departure = tt;
    loan = tt;
    numbered = tt;
    numbers = g.numbers;
    least = λ q known. not-counted (suc r) q known (λ f. ap (tally (in_frame P q f)) (refusals-without P w (suc r) h ill));
  })
    where
      ill : well_formed P w ≡ false
      ill = well-formed-is P w ∙ ap (λ x. eqb x 0) e ∙ ne_eqb (suc r) 0 (λ z. omega arith)

  -- ---- a well-formed word

  module _ (e : first_of (word_tests P w) ≡ 0) where
    well : well_formed P w ≡ true
    well = well-formed-is P w ∙ ap (λ x. eqb x 0) e

    known : i < flow_count P
    known = ltb-true i (flow_count P) (not-false (ltb i (flow_count P)) (line-passed _ 7 _ e).0)

    below : d < positions P
    below = departure-below P w well

    -- the premise of the least count, at this request
    persists : (a : Grant) → AskedOn P (requested w a ∷ h) i → ((f : ℕ) → origin P h ≤ f → f < frame_of P t → 0 < R f) → Persists v known d R
    persists a asked so_far =
        let ready = asked.ready.0 well refl in
        record {
          come = not-true (later (window l) d l.current) (sym (come-is v.current d below) ∙ ready.come);
          room = λ s le. omega (arith, ready.room s le, raises-are P (up_to i s) h);
          least = g.least i known (record { ready = asked.ready.1; refused_before = so_far });
        }

    -- the refusals with this one
    counts : (r q f : ℕ) → refused_in P (refused_with r ∷ h) q f ≡ tally (in_frame P q f) (mark i t ∷ refusals_since P h)
    counts r q f = ap (tally (in_frame P q f)) (refusals-with P w r h well)

    -- another flow does not count this one's refusal
    other-least : (r q : ℕ) → q < flow_count P → (q ≡ i → ⊥) → LeastOf P (refused_with r ∷ h) q (flow l q)
    other-least r q known other =
        not-counted r q known (λ f. counts r q f ∙ in-frame-other P q f (mark i t) (refusals_since P h) (λ z. other (sym z)))

    -- ---- with another number than the expected one

    wrong-number : (quantum_of w ≡ (flow l i).number → ⊥) → After P l (refused_with 24 ∷ h)
    unfolding ticks origin grants grants_since raises credits
    wrong-number differs = after-event g (record {
      plan_is = refl;
      keeps = v;
      soon = tt;
      comes_up = tt;
      word = tt;
      after_departure = tt;
      loan = tt;
      numbered = tt;
      least = λ q below. least q below (ℕ_discrete q i);
      numbers = g.numbers;
    })
      where
        -- the stream is not one that carries the expected numbers
        own : AskedOn P (refused_with 24 ∷ h) i → ⊥
        own asked = differs ((asked.ready.0 well refl).number ∙ sym (g.numbers i known))

        least : (q : ℕ) → q < flow_count P → Dec (q ≡ i) → LeastOf P (refused_with 24 ∷ h) q (flow l q)
        least q below (yes e) = λ asked. absurd (own (rw e at asked))
        least q below (no other) = other-least 24 q below other

    -- ---- with the expected number

    -- u is the granted word
    granted : (j c p u : ℕ) → u ≡ depart w p → departure_of u ≡ p → quantum_of u ≡ (flow l i).number → AfterGrant v known d R j c p
        → After P (booked l i j c p) (granted_with u ∷ h)
    unfolding ticks origin grants grants_since refusals_since raises credits booked
    granted j c p u is departs carries x = after-event g (record {
      plan_is = refl;
      keeps = rw departs x.keeps;
      soon = rw departs x.soon;
      comes_up = tt;
      word = record {
        asked_well_formed = well;
        same_but_departure = is ∙ ap (depart w) (sym departs);
        position = rw departs x.position;
      };
      after_departure = λ well yet. rw departs (x.after_departure below yet);
      loan = tt;
      numbered = carries ∙ g.numbers i known;
      least = each_flow l (LeastOf P (granted_with u ∷ h)) i (booked_flow l i j c p) own others;
      numbers = each_flow l (NumberOf P (granted_with u ∷ h)) i (booked_flow l i j c p) own-number other-number;
    })
      where
        slot : ℕ
        slot = slot_after P t (departure_of u)

        own-number : next_number (flow l i).number ≡ expected_number P (granted_with u ∷ h) i
        own-number = omega (arith, g.numbers i known, tally-hit (of_flow i) (mark i slot) (grants P h) (eq-eqb i i refl))

        other-number : (q : ℕ) → q < flow_count P → (q ≡ i → ⊥) → NumberOf P (granted_with u ∷ h) q (flow l q)
        other-number q known other =
            omega (arith, g.numbers q known, tally-skip (of_flow q) (mark i slot) (grants P h) (ne_eqb i q (λ z. other (sym z))))

        own : AskedOn P (granted_with u ∷ h) i → Least P (frame_of P t) (origin P h) (grants_since P (granted_with u ∷ h)) R i j
        own asked = rw departs (x.least (persists (accepted u) asked asked.refused_before))

        others : (q : ℕ) → q < flow_count P → (q ≡ i → ⊥) → LeastOf P (granted_with u ∷ h) q (flow l q)
        others q known other asked =
            least_other (g.least q known (record { ready = asked.ready.1; refused_before = asked.refused_before })) _ (λ z. other (sym z))

    refused-at-newest : (c r : ℕ) → AfterRefusal v known d R c → After P (refused_at_newest l i c) (refused_with r ∷ h)
    unfolding ticks origin grants grants_since raises credits refused_at_newest
    refused-at-newest c r x = after-event g (record {
      plan_is = refl;
      keeps = x.keeps;
      soon = tt;
      comes_up = tt;
      word = tt;
      after_departure = tt;
      loan = tt;
      numbered = tt;
      least = each_flow l (LeastOf P (refused_with r ∷ h)) i (moved_to (flow l i) (newest (window l)) c) own (other-least r);
      numbers = each_flow l (NumberOf P h) i (moved_to (flow l i) (newest (window l)) c) (g.numbers i known) (λ q known other. g.numbers q known);
    })
      where
        earlier : (f : ℕ) → f < frame_of P t → refused_in P (refused_with r ∷ h) i f ≡ R f
        earlier f lt = counts r i f ∙ in-frame-skip P i f (mark i t) (refusals_since P h) (λ z. omega arith)

        own : AskedOn P (refused_with r ∷ h) i → Least P (frame_of P t) (origin P h) (grants_since P h) (refused_in P (refused_with r ∷ h) i) i (newest (window l))
        own asked = x.least (persists (refused r) asked (λ f since lt. rw (earlier f lt) at (asked.refused_before f since lt))) _

    after-search : quantum_of w ≡ (flow l i).number → (f : Found) → Searched v known d R f
        → After P (answered l w f).link (requested w (answered l w f).answer ∷ h)
    unfolding answered
    after-search carries (found j c p) s =
        let x = after-grant v known d R j c p s in
        let small : p < 1024 = omega (arith, x.position, v.current.accepted.positions_most) in
        granted j c p (depart w p) refl (departure-depart w p small) (quantum-depart w p small ∙ carries) x
    after-search carries (nowhere c) s = refused-at-newest c (first_of (newest_tests (would_be_valid l i) c)) (after-refusal v known d R c s)

  -- ---- the request

  pub after-request : After P (request l w).link (requested w (request l w).answer ∷ h)
  unfolding request request_after first_of
  after-request = rw (request-number P (flow l i).number w) (go (first_of (word_tests P w)) refl)
    where
      -- the tests before the search give the number n
      AfterTests : ℕ → Type 0
      AfterTests n = After P (request_after n l w).link (requested w (request_after n l w).answer ∷ h)

      numbered : first_of (word_tests P w) ≡ 0 → (b : Bool) → eqb (quantum_of w) (flow l i).number ≡ b → AfterTests (cond (not b) 24 0)
      numbered e true is = after-search e (eqb-true _ _ is) (sought l i d) (request-searched v (known e) d R)
      numbered e false is = wrong-number e (eqb-false _ _ is)

      go : (r : ℕ) → first_of (word_tests P w) ≡ r → AfterTests (cond (eqb r 0) (cond (not (eqb (quantum_of w) (flow l i).number)) 24 0) r)
      go zero e = numbered e (eqb (quantum_of w) (flow l i).number) refl
      go (suc r) e = rw (ne_eqb (suc r) 0 (λ z. omega arith)) (ill-formed r e)
