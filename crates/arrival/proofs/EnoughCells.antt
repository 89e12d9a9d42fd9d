-- On the reference scheduler a stream that asks on arrival and gives its cells back in time has room at every request, with more than two shares of cells.
-- Assumes nothing.
use Prim.Native.Nat.{ℕ, zero, suc, ◌+◌, ◌-◌, ◌*◌, ◌≤◌, ◌<◌}
use mathlib.Core.Path.{◌≡◌, refl, ap, ◌∙◌, subst}
use mathlib.Core.List.{List, [], ◌∷◌, ◌++◌}
use mathlib.Core.Bool.{Bool, true, false, ◌&&◌}
use native.Mathlib.Nat.{mul-le-mul_right}
use native.Mathlib.Decide.{dec_le, ℕ_discrete}
use native.Mathlib.Omega.{arith}
use lib.Dec.{leb, ltb, eqb}
use borrow.Author.Tests.{leb-true, le-leb, ltb-true, ltb-false, eqb-true, eq-eqb, le-ltb}
use Rattle.model.specs.Tables.{bit, tally}
use Rattle.model.specs.Word.{flow_of}
use Rattle.model.specs.Plan.{Plan, flow_count, entry, plan_of, Accepted}
use Rattle.model.specs.Calls.{Call, Event, History, requested, credited, ticked, lent, accepted, refused}
use Rattle.model.specs.History.{Mark, ticks, frame_of, well_formed, is_granted_reset, lend_at, grants, credits, lends, of_flow, in_frame, up_to, granted_up_to, credited_up_to, lent_up_to}
use Rattle.model.specs.Claim.{Each, EachSince, AtRequest, ReadyAt, Room}
use Rattle.model.specs.Scheduler.{Played, reference, step, play, started, run}
use Rattle.arrival.specs.Delay.{current_frame, grant_by, made_since, made_in, GrantedSoonAt, ModestOnArrival}
use Rattle.arrival.specs.SeveralLinks.{Ran}
use Rattle.arrival.specs.EnoughCells.{last_of, CreditedInTime, AsksInTurn, GivesBack, EnoughCells}
use Rattle.model.proofs.Plan as plan
use Rattle.model.proofs.Tests.{and-true, and-false}
use Rattle.model.proofs.Tallies.{All, all_map, tally-append, tally-le, tally-none}
use Rattle.model.proofs.Slots.{frame-begins, frame-low, frame-high, frames-go-on}
use Rattle.model.proofs.HistoryCounts.{NoneGranted}
use Rattle.model.proofs.CountedBursts.{play-both}
use Rattle.model.proofs.EventsOfRuns.{Counts, Happened, each-happened, by-calls}
use Rattle.arrival.proofs.TimelyRequests.{frame-order}
use Rattle.arrival.proofs.SoonOnArrival.{soon-on-arrival}
use Rattle.arrival.proofs.NextLink.{grants-are, each-since, counts-at}
use Rattle.arrival.proofs.SeveralLinks.{none-granted}

-- ---- marks up to a slot, by those below another and those of two frames

-- flow i's mark, of a slot below b
abbrev pub below : ℕ → ℕ → Mark → Bool
below i b m = of_flow i m && ltb m.slot b

pub all_of : {A : Type 0} (R : A → Type 0) → ((x : A) → R x) → (xs : List A) → All R xs
all_of R r [] = tt
all_of R r (x ∷ xs) = (r x, all_of R r xs)

module _ (P : Plan) (i s b a : ℕ) where
  -- a mark up to s that is not below b lies in frame a or the next
  abbrev InTwo : Mark → Type 0
  InTwo m = m.flow ≡ i → m.slot ≤ s → b ≤ m.slot → (a ≤ frame_of P m.slot) × (frame_of P m.slot ≤ suc a)

  one-mark : (m : Mark) → InTwo m → bit (up_to i s m) ≤ bit (below i b m) + (bit (in_frame P i a m) + bit (in_frame P i (suc a) m))
  one-mark m two = go (of_flow i m) refl (leb m.slot s) refl (ltb m.slot b) refl (ℕ_discrete (frame_of P m.slot) a)
    where
      f : ℕ
      f = frame_of P m.slot

      go : (x : Bool) → of_flow i m ≡ x → (y : Bool) → leb m.slot s ≡ y → (z : Bool) → ltb m.slot b ≡ z → Dec (f ≡ a)
          → bit (x && y) ≤ bit (x && z) + (bit (x && eqb f a) + bit (x && eqb f (suc a)))
      go false own y up z lt d = omega arith
      go true own false up z lt d = omega arith
      go true own true up true lt d = omega arith
      go true own true up false lt (yes e) = rw (eq-eqb f a e) (omega arith)
      go true own true up false lt (no d) =
          let r = two (eqb-true m.flow i own) (leb-true m.slot s up) (ltb-false m.slot b lt) in
          rw (eq-eqb f (suc a) (omega (arith, r.0, r.1))) (omega arith)

  pub two_frames : (ms : List Mark) → All InTwo ms → tally (up_to i s) ms ≤ tally (below i b) ms + (tally (in_frame P i a) ms + tally (in_frame P i (suc a)) ms)
  unfolding tally
  two_frames [] two = omega arith
  two_frames (m ∷ ms) two = omega (arith, one-mark m two.0, two_frames ms two.1)

pub up-to-more : (i u s : ℕ) → u ≤ s → (ms : List Mark) → tally (up_to i u) ms ≤ tally (up_to i s) ms
up-to-more i u s le = tally-le (up_to i u) (up_to i s) more
  where
    more : (m : Mark) → up_to i u m ≡ true → up_to i s m ≡ true
    more m e = let both = and-true (of_flow i m) (leb m.slot u) e in rw both.0 (le-leb m.slot s (omega (arith, leb-true m.slot u both.1)))

pub below_none : (i : ℕ) (ms : List Mark) → tally (below i 0) ms ≡ 0
below_none i ms = tally-none (below i 0) ms (all_of _ (λ m. rw (le-ltb m.slot 0 (omega arith)) (and-false (of_flow i m))) ms)

pub below-up-to : (i s : ℕ) (ms : List Mark) → tally (below i (suc s)) ms ≤ tally (up_to i s) ms
below-up-to i s = tally-le (below i (suc s)) (up_to i s) up
  where
    up : (m : Mark) → below i (suc s) m ≡ true → up_to i s m ≡ true
    up m e =
        let both = and-true (of_flow i m) (ltb m.slot (suc s)) e in
        rw both.0 (le-leb m.slot s (omega (arith, ltb-true m.slot (suc s) both.1)))

-- ---- room

module _ {P : Plan} (ok : Accepted P) (i : ℕ) (known : i < flow_count P) where
  open P use {slots as F}

  -- where each grant is soon, none lies after the next frame
  pub soon-marks : (h : History) → NoneGranted h → EachSince (GrantedSoonAt P i) h
      → All (λ m. m.flow ≡ i → frame_of P m.slot ≤ current_frame P h + 1) (grants P h)
  unfolding ticks grants
  soon-marks [] none soon = tt
  soon-marks (requested w (accepted v) ∷ h) none soon = (λ own. (soon.0 own).this_or_next, soon-marks h none.1 soon.1)
  soon-marks (requested w (refused r) ∷ h) none soon = soon-marks h none.1 soon.1
  soon-marks (credited j p a ∷ h) none soon = soon-marks h none.1 soon.1
  soon-marks (ticked x ∷ h) none soon =
      all_map _ _ (λ m near own. omega (arith, near own, frames-go-on ok (ticks h))) (grants P h) (soon-marks h none.1 soon.1)
  soon-marks (lent m a ∷ h) none soon = soon-marks h none.1 soon.1
  soon-marks (Event.reset (accepted u) ∷ h) none soon = absurd (let z : ◌≡◌ {A = ℕ} 1 0 = ap bit none.0 in omega arith)
  soon-marks (Event.reset (refused r) ∷ h) none soon = soon-marks h none.1 soon.1

  module _ (h : History) (none : NoneGranted h) (soon : EachSince (GrantedSoonAt P i) h) (credited : CreditedInTime P i h)
      (not_lent : tally (of_flow i) (lends h) ≡ 0) where
    abbrev t : ℕ
    t = ticks h

    abbrev f : ℕ
    f = current_frame P h

    -- flow i's grants in frame a
    abbrev in_of : ℕ → ℕ
    in_of a = tally (in_frame P i a) (grants P h)

    -- at slot s it holds no more than its grants in frame a and the next
    abbrev pub HeldIn : (s a : ℕ) → Type 0
    HeldIn s a = granted_up_to P h i s + lent_up_to h i s ≤ credited_up_to P h i s + (in_of a + in_of (suc a))

    -- what is below b has been given back by slot s
    given_back : (b s : ℕ) → b ≤ t → ((r : ℕ) → b ≡ suc r → last_of P (frame_of P r + 1) ≤ s) → tally (below i b) (grants P h) ≤ credited_up_to P h i s
    given_back zero s le by = omega (arith, below_none i (grants P h))
    given_back (suc r) s le by =
        omega (
          arith,
          below-up-to i r (grants P h),
          credited r (omega arith),
          up-to-more i (last_of P (frame_of P r + 1)) s (by r refl) (credits P h),
        )

    held_two : (s b a : ℕ) → All (InTwo P i s b a) (grants P h) → b ≤ t → ((r : ℕ) → b ≡ suc r → last_of P (frame_of P r + 1) ≤ s) → HeldIn s a
    held_two s b a two le by =
        omega (
          arith,
          two_frames P i s b a (grants P h) two,
          given_back b s le by,
          tally-le (up_to i s) (of_flow i) (λ m e. (and-true (of_flow i m) (leb m.slot s) e).0) (lends h),
        )

    module _ (s : ℕ) (le : t ≤ s) where
      abbrev G : ℕ
      G = frame_of P s

      -- the last slot of the frame after r's
      last-le : (r g : ℕ) → frame_of P r ≤ g → (g + 2) * F ≤ suc s → last_of P (frame_of P r + 1) ≤ s
      last-le r g le h = let z : (frame_of P r + 1 + 1) * F ≤ (g + 2) * F = mul-le-mul_right F (omega arith) in omega arith

      -- in this frame and the next: what lies in a frame before the last is given back
      pub held-near : G ≤ f + 1 → HeldIn s (G - 1)
      held-near near = held_two s ((G - 1) * F) (G - 1) (all_of _ two (grants P h)) first by
        where
          two : (m : Mark) → InTwo P i s ((G - 1) * F) (G - 1) m
          two m own up from = (frame-low ok (G - 1) m.slot from, omega (arith, frame-order ok m.slot s up))

          first : (G - 1) * F ≤ t
          first = let z : (G - 1) * F ≤ f * F = mul-le-mul_right F (omega arith) in omega (arith, frame-begins ok t)

          by : (r : ℕ) → (G - 1) * F ≡ suc r → last_of P (frame_of P r + 1) ≤ s
          by r e =
              let before : frame_of P r < G - 1 = frame-high ok (G - 1) r (omega arith) in
              last-le r (G - 2) (omega arith) (let z : (G - 2 + 2) * F ≤ G * F = mul-le-mul_right F (omega arith) in omega (arith, frame-begins ok s))

      -- later: what is gone is given back, and the rest is in this frame and the next
      pub held-far : f + 1 < G → HeldIn s f
      held-far far = held_two s t f (all_map _ _ two (grants P h) (soon-marks h none soon)) (omega arith) by
        where
          two : (m : Mark) → (m.flow ≡ i → frame_of P m.slot ≤ f + 1) → InTwo P i s t f m
          two m near own up from = (frame-order ok t m.slot from, omega (arith, near own))

          by : (r : ℕ) → t ≡ suc r → last_of P (frame_of P r + 1) ≤ s
          by r e =
              last-le r f (frame-order ok r t (omega arith)) (let z : (f + 2) * F ≤ G * F = mul-le-mul_right F (omega arith) in omega (arith, frame-begins ok s))

    module _ (c : Counts P h) where
      pub most-in-frame : (a : ℕ) → in_of a ≤ (entry P i).share
      most-in-frame a = omega (arith, c.in_frames i known a, ap (tally (in_frame P i a)) (grants-are P h none))

      pub has_room : 2 * (entry P i).share < (entry P i).cells + 0 → Room P i h
      has_room enough s le = go (dec_le (frame_of P s) (f + 1))
        where
          go : Dec (frame_of P s ≤ f + 1) → granted_up_to P h i s + lent_up_to h i s < credited_up_to P h i s + (entry P i).cells
          go (yes near) = omega (arith, held-near s le near, most-in-frame (frame_of P s - 1), most-in-frame (suc (frame_of P s - 1)))
          go (no far) = omega (arith, held-far s le (omega arith), most-in-frame f, most-in-frame (suc f))

-- ---- a list of calls

-- what is before each event of a run is a run
abbrev pub BeginningsRan : Plan → History → Type 0
BeginningsRan P = Each (λ e h. Ran reference P h)

record RanTo (P : Plan) (r : Played reference) : Type 0 where
  calls : List Call
  is : run reference P calls ≡ r
  beginnings : BeginningsRan P r.history

ran-more : {P : Plan} (r : Played reference) (c : Call) → RanTo P r → RanTo P (step reference r c)
unfolding play
ran-more {P} r c x = record {
  calls = x.calls ++ (c ∷ []);
  is = play-both (started reference P) x.calls (c ∷ []) ∙ ap (λ r. step reference r c) x.is;
  beginnings = behind c;
}
  where
    before : Ran reference P r.history
    before = record { calls = x.calls; is = ap (λ r. r.history) x.is }

    behind : (c : Call) → BeginningsRan P (step reference r c).history
    behind (Call.request w) = (before, x.beginnings)
    behind (Call.credit i p) = (before, x.beginnings)
    behind Call.tick = (before, x.beginnings)
    behind (Call.lend m) = (before, x.beginnings)
    behind Call.reset = (before, x.beginnings)

pub beginnings-ran : (P : Plan) → Accepted P → (calls : List Call) → BeginningsRan P (run reference P calls).history
unfolding play
beginnings-ran P ok calls = (by-calls ok (RanTo P) (λ r c g happened x. ran-more r c x) (record { calls = []; is = refl; beginnings = tt }) calls).beginnings

module _ {P : Plan} (ok : Accepted P) (i : ℕ) (known : i < flow_count P) where
  -- a beginning gives its cells back too
  before : (e : Event) (h : History) → GivesBack 0 P i (e ∷ h) → GivesBack 0 P i h
  unfolding tally lends made_since
  before e h x = record {
    asks = x.asks.1;
    within_share = λ f. omega (arith, x.within_share f, made-before f);
    enough_cells = x.enough_cells;
    not_lent = omega (arith, x.not_lent, tally-append (of_flow i) (lend_at e h) (lends h));
    no_reset = omega (arith, x.no_reset);
  }
    where
      made-before : (f : ℕ) → made_in P h i f ≤ made_in P (e ∷ h) i f
      made-before f = go (is_granted_reset e) refl
        where
          go : (b : Bool) → is_granted_reset e ≡ b → made_in P h i f ≤ made_in P (e ∷ h) i f
          go true r = absurd (omega (arith, ap bit r, x.no_reset))
          go false r = rw r (omega (arith, tally-append (in_frame P i f) (grant_by (λ w h. ticks h) e h) (made_since h)))

  -- it is ready at a request, if it was at those before it
  ready-next : (e : Event) (h : History) → Ran reference P h → Each (Happened P) h → GivesBack 0 P i (e ∷ h) → Each (ReadyAt P i) h → ReadyAt P i e h
  ready-next e h ran happened x rest = one e x.asks.0
    where
      so_far : GivesBack 0 P i h
      so_far = before e h x

      soon : EachSince (GrantedSoonAt P i) h
      soon =
          subst (λ k. ModestOnArrival P i k → EachSince (GrantedSoonAt P i) k) ran.is (soon-on-arrival P ok ran.calls i known)
          (record { ready_at_each_request = each-since (ReadyAt P i) h rest; within_share = so_far.within_share })

      one : (e : Event) → AtRequest (λ w h. well_formed P w ≡ true → flow_of w ≡ i → AsksInTurn P i w h) e h → ReadyAt P i e h
      one (requested w a) asks = λ well own.
          let y = asks well own in
          record {
            room = has_room ok i known h (none-granted h so_far.no_reset) soon y.credited so_far.not_lent (counts-at ok h happened)
                (omega (arith, x.enough_cells));
            come = y.come;
            number = y.number;
          }
      one (credited j p a) asks = tt
      one (ticked a) asks = tt
      one (lent m a) asks = tt
      one (Event.reset a) asks = tt

  pub ready-at-each : (h : History) → BeginningsRan P h → Each (Happened P) h → GivesBack 0 P i h → Each (ReadyAt P i) h
  ready-at-each [] ran happened x = tt
  ready-at-each (e ∷ h) ran happened x =
      let rest = ready-at-each h ran.1 happened.1 (before e h x) in
      (ready-next e h ran.0 happened.1 x rest, rest)

-- on any plan that keeps the limits, and so on the plan of any bytes that are accepted
pub enough-cells-accepted : (P : Plan) → Accepted P → (calls : List Call) (i : ℕ) → i < flow_count P → GivesBack 0 P i (run reference P calls).history
    → Each (ReadyAt P i) (run reference P calls).history
enough-cells-accepted P ok calls i known =
    ready-at-each ok i known (run reference P calls).history (beginnings-ran P ok calls) (each-happened P ok calls)

pub enough_cells : EnoughCells reference
enough_cells bytes passes = enough-cells-accepted (plan_of bytes) (plan.accepted bytes passes)
