-- The tile of a stream that has just come is asked for with its cells given back so far: it is granted a slot, and its cell is credited. Assumes nothing.
use Prim.Native.Nat.{ℕ, suc, ◌+◌, ◌*◌, ◌%◌, ◌≤◌, ◌<◌}
use mathlib.Core.Path.{◌≡◌, refl, sym, ap, ◌∙◌, subst}
use mathlib.Core.List.{◌∷◌, []}
use mathlib.Core.Bool.{Bool, true, ◌&&◌}
use native.Mathlib.Decide.{dec_lt}
use native.Mathlib.Omega.{arith}
use lib.Dec.{eqb}
use borrow.Author.Tests.{lt-ltb, eq-eqb}
use Rattle.model.specs.Tables.{tally}
use Rattle.model.specs.Word.{flow_of, departure_of}
use Rattle.model.specs.Plan.{Plan, positions, entry}
use Rattle.model.specs.Calls.{Call, Grant, CreditAnswer, History, requested, credited, accepted, refused}
use Rattle.model.specs.History.{ticks, slot_after, frame_of, is_granted_reset, lends, of_flow}
use Rattle.model.specs.Claim.{Each}
use Rattle.model.specs.Scheduler.{Played, reference, step}
use Rattle.model.specs.TwoHops.{InStep}
use Rattle.arrival.specs.AcceptedCredits.{IsAccepted}
use Rattle.arrival.specs.Delay.{current_frame, made_in, due_in, AsksAt}
use Rattle.arrival.specs.SeveralLinks.{next_slot, ForNext, first_alone, second_alone, Board, plan_on, Joined}
use Rattle.arrival.specs.EnoughCells.{Return, returns}
use Rattle.arrival.specs.SharesOfCells.{GivenBack, AsksWithinShare, GrantedNow}
use Rattle.arrival.specs.LinksOnArrival.{AsksOnArrival, JoinedOnArrival}
use Rattle.arrival.specs.CreditedByNext.{passes, granted_then}
use Rattle.model.proofs.Tallies.{tally-hit}
use Rattle.arrival.proofs.TimelyRequests.{due-if-come}
use Rattle.arrival.proofs.SoonOnArrival.{due-when-made}
use Rattle.arrival.proofs.NextLink.{counts-at, few-due}
use Rattle.arrival.proofs.SeveralLinks.{ok, none, happened, ordered, words, both}
use Rattle.arrival.proofs.SharesOfCells.{come-of}
use Rattle.arrival.proofs.LinksOnArrival.{way-with-room, granted_first}
use Rattle.crossings.specs.Crossing.{Crossing, asking, answer_for}
use Rattle.crossings.proofs.OneLink.{Reached, reached-more, known}
use Rattle.crossings.proofs.Kept.{same_slot, ticks-credited, ticks-requested, AskedAs, asks-so}
use Rattle.showcrossings.proofs.Growing.{GoesOn, here, one_more, each-before, no-reset-before, not-lent-before}
use Rattle.showcrossings.proofs.Pairs.{at-slot-stays, CreditedIn, credited-first, credited-second, Pair, Pending}

-- ---- the cell of a tile that is granted a slot

granted-now : (Q : Plan) (j t s w v : ℕ) (a : Grant) (h : History) → a ≡ accepted v → flow_of w ≡ j → ticks h ≡ t → slot_after Q (ticks h) (departure_of v) ≡ s
    → granted_then Q j t s (requested w a ∷ h) ≡ true
unfolding passes
granted-now Q j t s w v a h is own now there =
    subst (λ a. granted_then Q j t s (requested w a ∷ h) ≡ true) (sym is)
    (lt-ltb 0 (tally (λ g. eqb g.flow j && eqb g.made t && eqb g.slot s) (passes Q (requested w (accepted v) ∷ h)))
    (omega (
      arith,
      tally-hit (λ g. eqb g.flow j && eqb g.made t && eqb g.slot s)
          (record { flow = flow_of w; made = ticks h; slot = slot_after Q (ticks h) (departure_of v) }) (passes Q h)
          (rw (eq-eqb (flow_of w) j own, eq-eqb (ticks h) t now, eq-eqb (slot_after Q (ticks h) (departure_of v)) s there)),
    )))

returned-now : (P : Plan) (i p : ℕ) (r : CreditAnswer) (h : History) (test : Return → Bool) → IsAccepted r
    → test (record { flow = i; made = ticks h; dated = slot_after P (ticks h) p }) ≡ true → 0 < tally test (returns P (credited i p r ∷ h))
unfolding returns
returned-now P i p (accepted u) h test all_accepted e = omega (arith, tally-hit test _ (returns P h) e)
returned-now P i p (refused n) h test all_accepted e = absurd all_accepted

-- ---- a link after some of its calls

abbrev pub board_at : (a : Board reference) (r : Played reference) → Reached (plan_on a) r → tally is_granted_reset r.history ≡ 0 → Board reference
board_at a r x unreset = record {
  bytes = a.bytes;
  passes = a.passes;
  events = r.history;
  ran = record { calls = x.calls; is = ap (λ (r : Played reference). r.history) x.played };
  no_reset = unreset;
  stream = a.stream;
  known = a.known;
}

-- ---- two links, with a crossing between them

module _ (a b : Board reference) (in_step : InStep (plan_on a) (plan_on b)) (share_kept : (entry (plan_on a) a.stream).share ≤ (entry (plan_on b) b.stream).share)
    (late : ℕ) (enough : (late + 2) * (entry (plan_on b) b.stream).share ≤ (entry (plan_on b) b.stream).cells) where
  abbrev P : Plan
  P = plan_on a

  abbrev Q : Plan
  Q = plan_on b

  abbrev i : ℕ
  i = a.stream

  abbrev j : ℕ
  j = b.stream

  -- what is asked of the events so far: no reset is granted, the stream is lent nothing on b, and its cells there are given back
  pub record Allowed (h₁ h₂ : History) : Type 0 where
    pub none₁ : tally is_granted_reset h₁ ≡ 0
    pub none₂ : tally is_granted_reset h₂ ≡ 0
    pub not_lent : tally (of_flow j) (lends h₂) ≡ 0
    pub back : Each (AsksAt (λ P i w h. GivenBack late P i h) Q j) h₂

  pub allowed-before : {h₁ h₂ g₁ g₂ : History} → GoesOn h₁ g₁ → GoesOn h₂ g₂ → Allowed g₁ g₂ → Allowed h₁ h₂
  allowed-before first second x = record {
    none₁ = no-reset-before first x.none₁;
    none₂ = no-reset-before second x.none₂;
    not_lent = not-lent-before j second x.not_lent;
    back = each-before (AsksAt (λ P i w h. GivenBack late P i h) Q j) second x.back;
  }

  -- so far they are joined as the theorems on arrival have it
  pub joined_at : {s : ℕ} {r₁ r₂ : Played reference} (reached₁ : Reached P r₁) (reached₂ : Reached Q r₂) → Pair P Q i j late s r₁.history r₂.history
      → (allowed : Allowed r₁.history r₂.history) → JoinedOnArrival (board_at a r₁ reached₁ allowed.none₁) (board_at b r₂ reached₂ allowed.none₂)
  joined_at reached₁ reached₂ pair allowed = record {
    in_step = in_step;
    share_kept = share_kept;
    late = late;
    together = pair.together;
    enough_cells = enough;
    not_lent = allowed.not_lent;
  }

  module _ (y : Crossing) (reached₁ : Reached P y.arriving) (reached₂ : Reached Q y.leaving)
      (pair : Pair P Q i j late (ticks y.arriving.history) y.arriving.history y.leaving.history)
      (pending : Pending P Q i j y.arriving.history y.leaving.history)
      (allowed : Allowed y.arriving.history (requested (asking y.leaving.state j) (answer_for j y) ∷ y.leaving.history)) where
    abbrev h₁ : History
    h₁ = y.arriving.history

    abbrev h₂ : History
    h₂ = y.leaving.history

    abbrev w : ℕ
    w = asking y.leaving.state j

    asked : AskedAs Q j w h₂
    asked = asks-so j (known (ok b) reached₂) (ok b) b.known

    allowed-now : Allowed h₁ h₂
    allowed-now = allowed-before here (one_more _ here) allowed

    abbrev a' : Board reference
    a' = board_at a y.arriving reached₁ allowed-now.none₁

    abbrev b' : Board reference
    b' = board_at b y.leaving reached₂ allowed-now.none₂

    joined : Joined a' b'
    joined = (way-with-room a' (b' ∷ []) (joined_at reached₁ reached₂ pair allowed-now, tt)).0

    departs-now : departure_of w ≡ next_slot P Q i j h₁ h₂ % positions Q
    departs-now = asked.departs ∙ ap (◌% positions Q) (sym (pending.comes_now ∙ pair.same_time))

    for_next : ForNext P Q i j h₁ w h₂
    for_next = record { sent = pending.sent; departs = departs-now; not_late = omega (arith, pending.comes_now, pair.same_time) }

    -- no more than the share came in this frame
    few : made_in Q h₂ j (current_frame Q h₂) < (entry Q j).share
    few =
        let all = both a' b' joined in
        let due = few-due (ok a) (ok b) in_step i j a.known share_kept h₁ h₂ all.same_slot (counts-at (ok a) h₁ (happened a')) (none a') (none b')
        (ordered a') all.oldest w for_next in
        let now = ap (λ t. due_in Q h₂ j (frame_of Q t)) (due-if-come Q w h₂ asked.now.come) in
        omega (
          arith,
          due,
          now,
          due-when-made (ok b) j (current_frame Q h₂) h₂ (words b') (come-of (ok b) j b.known late h₂ pair.asks),
        )

    given_back : GivenBack late Q j h₂
    given_back = allowed.back.0 asked.well asked.flow

    pub asks-more : Each (AsksAt (AsksWithinShare late) Q j) (requested w (answer_for j y) ∷ h₂)
    asks-more = (λ well own. record { come = asked.now.come; number = asked.now.number; given_back = given_back; few = few }, pair.asks)

    on-arrival : AsksOnArrival (GivenBack late) P Q i j h₁ w h₂
    on-arrival = record {
      sent = pending.sent;
      departs = departs-now;
      comes_now = pending.comes_now ∙ pair.same_time;
      number = asked.now.number;
      given_back = given_back;
    }

    -- it is granted a slot
    pub is-granted : GrantedNow Q (answer_for j y) h₂
    is-granted = (granted_first late (board_at b (step reference y.leaving (Call.request w)) (reached-more (Call.request w) reached₂) allowed.none₂) (record {
      asks = asks-more;
      enough_cells = omega (arith, enough);
      not_lent = allowed.not_lent;
      no_reset = allowed.none₂;
    })).0 asked.well asked.flow

    -- and its cell is credited
    module _ (v : ℕ) (is : answer_for j y ≡ accepted v) (r : CreditAnswer) (all_accepted : IsAccepted r) where
      abbrev p : ℕ
      p = departure_of v

      abbrev g₁ : History
      g₁ = credited i p r ∷ h₁

      abbrev g₂ : History
      g₂ = requested w (answer_for j y) ∷ h₂

      now-credited : CreditedIn P Q i j (ticks h₁) g₁ g₂
      now-credited =
          let t = ticks h₁ in
          let same = same_slot in_step t p in
          let there = sym same in
          let slot-there = ap (λ n. slot_after Q n p) (sym pair.same_time) ∙ there in
          let granted = granted-now Q j t (slot_after P t p) w v (answer_for j y) h₂ is asked.flow (sym pair.same_time) slot-there in
          omega (
            arith,
            at-slot-stays P i t (credited i p r) h₁ (omega arith),
            pending.one,
            returned-now P i p r h₁ (λ r. eqb r.flow i && eqb r.made t && granted_then Q j t r.dated g₂) all_accepted
                (rw (eq-eqb i i refl, eq-eqb t t refl, granted)),
          )

      pub pair-more : Pair P Q i j late (suc (ticks g₁)) g₁ g₂
      pair-more = record {
        same_time = ticks-credited i p r h₁ ∙ pair.same_time ∙ sym (ticks-requested w (answer_for j y) h₂);
        up_to_now = omega arith;
        together = first_alone (credited i p r) tt (second_alone (requested w (answer_for j y)) tt (λ well own. on-arrival) pair.together);
        asks = asks-more;
        credited = λ t lt. each t (omega (arith, ticks-credited i p r h₁)) (dec_lt t (ticks h₁));
      }
        where
          each : (t : ℕ) → t < suc (ticks h₁) → Dec (t < ticks h₁) → CreditedIn P Q i j t g₁ g₂
          each t lt (yes gone) =
              credited-first P Q i j t (credited i p r) h₁ g₂ (omega arith)
              (credited-second P Q i j t (requested w (answer_for j y)) h₁ h₂ (pair.credited t gone))
          each t lt (no now) =
              let e : ticks h₁ ≡ t = omega arith in
              subst (λ t. CreditedIn P Q i j t g₁ g₂) e now-credited
