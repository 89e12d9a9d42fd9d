-- A crossing of a stream that asks on arrival, slot by slot: where none of its tiles waits, none does a slot later. Assumes nothing.
use Prim.Native.Nat.{ℕ, suc, ◌+◌, ◌-◌, ◌*◌, ◌≤◌, ◌<◌, min}
use mathlib.Core.Path.{◌≡◌, refl, sym, ap, ◌∙◌, subst}
use mathlib.Core.List.{List, ◌∷◌}
use mathlib.Core.Option.{Option, some, none}
use mathlib.Core.Bool.{Bool, true, false, ◌&&◌, true≢false, cond}
use native.Mathlib.Decide.{ℕ_discrete}
use native.Mathlib.Omega.{arith}
use lib.ListN.{get_or, length, length-set}
use lib.Seq.{get_or-set_same}
use borrow.Author.Tests.{eqb-true, eqb-false, eq-eqb}
use Rattle.model.specs.Tables.{bit, tally}
use Rattle.model.specs.Word.{departure_of}
use Rattle.model.specs.Plan.{Plan, flow_count, entry}
use Rattle.model.specs.Calls.{Call, Grant, TickAnswer, Event, History, credited, ticked, accepted, refused}
use Rattle.model.specs.History.{ticks, grants, of_flow, at_slot}
use Rattle.model.specs.Scheduler.{reference}
use Rattle.model.specs.TwoHops.{InStep}
use Rattle.arrival.specs.SeveralLinks.{slots_of, sent_slots, next_tile, next_slot, start, both_tick as together_tick, Board, plan_on}
use Rattle.arrival.specs.SharesOfCells.{GrantedNow}
use Rattle.arrival.specs.EnoughCells.{returns}
use Rattle.arrival.proofs.TileSlots.{count-slots}
use Rattle.arrival.proofs.SeveralLinks.{ok}
use Rattle.crossings.specs.Crossing.{Crossing, goes_on_as, waits, asking, answer_for, asked_for, on_grant, pass_on, pass_waiting, queued, comes, served}
use Rattle.crossings.specs.Playing.{Other, others, Slot, both_tick, tick_answer_of, in_slot, begun}
use Rattle.crossings.specs.Claim.{Onward}
use Rattle.crossings.proofs.OneLink.{reached-start, reached-more, up-to-next, up-to-slots, is_owner, tick-adds}
use Rattle.crossings.proofs.Kept.{NotGiven}
use Rattle.crossings.proofs.Board.{Full}
use Rattle.crossings.proofs.Crosses.{zeros, begun-full, others-full, part-full}
use Rattle.showcrossings.proofs.Growing.{GoesOn, here, one_more, ticks-alone}
use Rattle.showcrossings.proofs.States.{others-arriving, others-leaving}
use Rattle.showcrossings.proofs.Still.{NoAsk, Still, waiting-still, comes-still, others-still}
use Rattle.showcrossings.proofs.InOrder.{up_to_slot, Descends, up-to-length, tile-up-to, tile-past}
use Rattle.showcrossings.proofs.Pairs.{given-alone, CreditedIn, credited-first, credited-second, Pair, pair-first, pair-second, Pending}
use Rattle.showcrossings.proofs.Pairs.{pending-first, pending-second}
use Rattle.showcrossings.proofs.Passed.{Allowed, allowed-before, is-granted, pair-more}

-- ---- with its tile of this slot passed on, and with that one still to ask for

module _ (P Q : Plan) (i j late : ℕ) where
  abbrev pub AllPassed : (h₁ h₂ : History) → Type 0
  AllPassed h₁ h₂ = Pair P Q i j late (suc (ticks h₁)) h₁ h₂

  abbrev pub OneComes : (h₁ h₂ : History) → Type 0
  OneComes h₁ h₂ = Pair P Q i j late (ticks h₁) h₁ h₂ × Pending P Q i j h₁ h₂

  pub all_first : (e : Event) → NotGiven i e → (h₁ h₂ : History) → AllPassed h₁ h₂ → AllPassed (e ∷ h₁) h₂
  all_first e n h₁ h₂ x =
      subst (λ t. Pair P Q i j late (suc t) (e ∷ h₁) h₂) (sym (ticks-alone e (given-alone i e n) h₁)) (pair-first P Q i j e n h₁ h₂ x)

  pub all-second : (e : Event) → NoAsk j e → (h₁ h₂ : History) → AllPassed h₁ h₂ → AllPassed h₁ (e ∷ h₂)
  all-second e n h₁ h₂ x = pair-second P Q i j e n h₁ h₂ x

  pub one-first : (e : Event) → NotGiven i e → (h₁ h₂ : History) → OneComes h₁ h₂ → OneComes (e ∷ h₁) h₂
  one-first e n h₁ h₂ x = (
    subst (λ t. Pair P Q i j late t (e ∷ h₁) h₂) (sym (ticks-alone e (given-alone i e n) h₁)) (pair-first P Q i j e n h₁ h₂ x.0),
    pending-first P Q i j e n h₁ h₂ x.1,
  )

  pub one-second : (e : Event) → NoAsk j e → (h₁ h₂ : History) → OneComes h₁ h₂ → OneComes h₁ (e ∷ h₂)
  one-second e n h₁ h₂ x = (pair-second P Q i j e n h₁ h₂ x.0, pending-second P Q i j e n h₁ h₂ x.1)

  -- ---- both links tick

  module _ (x₁ x₂ : TickAnswer) (h₁ h₂ : History) (x : AllPassed h₁ h₂) where
    tick-credited : (t : ℕ) → t < suc (ticks h₁) → CreditedIn P Q i j t (ticked x₁ ∷ h₁) (ticked x₂ ∷ h₂)
    tick-credited t lt =
        credited-first P Q i j t (ticked x₁) h₁ (ticked x₂ ∷ h₂) (omega arith) (credited-second P Q i j t (ticked x₂) h₁ h₂ (x.credited t lt))

    -- where no tile of the stream comes
    pub tick-none : tally (λ m. of_flow i m && at_slot (suc (ticks h₁)) m) (grants P h₁) ≡ 0 → AllPassed (ticked x₁ ∷ h₁) (ticked x₂ ∷ h₂)
    unfolding ticks grants
    tick-none none_there = record {
      same_time = ap suc x.same_time;
      up_to_now = omega arith;
      together = together_tick x.together;
      asks = (tt, x.asks);
      credited = λ t lt. each t lt (ℕ_discrete t (suc (ticks h₁)));
    }
      where
        each : (t : ℕ) → t < suc (suc (ticks h₁)) → Dec (t ≡ suc (ticks h₁)) → CreditedIn P Q i j t (ticked x₁ ∷ h₁) (ticked x₂ ∷ h₂)
        each t lt (yes now) =
            let none-now = ap (λ t. tally (λ m. of_flow i m && at_slot t m) (grants P h₁)) now ∙ none_there in
            omega (arith, none-now)
        each t lt (no gone) = tick-credited t (omega arith)

    -- where one comes
    pub tick-one : next_tile P Q i j h₂ < length (sent_slots P h₁ i) → next_slot P Q i j h₁ h₂ ≡ suc (ticks h₁)
        → tally (λ m. of_flow i m && at_slot (suc (ticks h₁)) m) (grants P h₁) ≤ 1 → OneComes (ticked x₁ ∷ h₁) (ticked x₂ ∷ h₂)
    unfolding ticks grants
    tick-one sent comes_now one = (
      record {
        same_time = ap suc x.same_time;
        up_to_now = omega arith;
        together = together_tick x.together;
        asks = (tt, x.asks);
        credited = tick-credited;
      },
      record { sent = sent; comes_now = comes_now; one = one },
    )

-- ---- a crossing between two links

module _ (a b : Board reference) (in_step : InStep (plan_on a) (plan_on b)) (share_kept : (entry (plan_on a) a.stream).share ≤ (entry (plan_on b) b.stream).share)
    (late : ℕ) (enough : (late + 2) * (entry (plan_on b) b.stream).share ≤ (entry (plan_on b) b.stream).cells)
    {onward : List (Option ℕ)} (goes_on : Onward (plan_on a) (plan_on b) onward) (goes : get_or onward a.stream none ≡ some b.stream) where
  abbrev P : Plan
  P = plan_on a

  abbrev Q : Plan
  Q = plan_on b

  abbrev i : ℕ
  i = a.stream

  abbrev j : ℕ
  j = b.stream

  abbrev FullHere : Crossing → Type 0
  FullHere = Full (ok a) (ok b) in_step goes_on

  abbrev AllStill : Crossing → Type 0
  AllStill = Still (ok a) (ok b) in_step goes_on i j goes (AllPassed P Q i j late) (all_first P Q i j late) (all-second P Q i j late)

  abbrev OneStill : Crossing → Type 0
  OneStill = Still (ok a) (ok b) in_step goes_on i j goes (OneComes P Q i j late) (one-first P Q i j late) (one-second P Q i j late)

  abbrev AllowedAt : Crossing → Type 0
  AllowedAt x = Allowed a b in_step share_kept late enough x.arriving.history x.leaving.history

  -- ---- tiles that wait, and calls of others

  all-waiting : (n : ℕ) (y : Crossing) → AllStill y → AllStill (pass_waiting n y)
  all-waiting = waiting-still (ok a) (ok b) in_step goes_on i j goes (AllPassed P Q i j late) (all_first P Q i j late) (all-second P Q i j late)

  one-waiting : (n : ℕ) (y : Crossing) → OneStill y → OneStill (pass_waiting n y)
  one-waiting = waiting-still (ok a) (ok b) in_step goes_on i j goes (OneComes P Q i j late) (one-first P Q i j late) (one-second P Q i j late)

  all_others : (calls : List Other) (y : Crossing) → AllStill y → AllStill (others calls y)
  all_others = others-still (ok a) (ok b) in_step goes_on i j goes (AllPassed P Q i j late) (all_first P Q i j late) (all-second P Q i j late)

  one-others : (calls : List Other) (y : Crossing) → OneStill y → OneStill (others calls y)
  one-others = others-still (ok a) (ok b) in_step goes_on i j goes (OneComes P Q i j late) (one-first P Q i j late) (one-second P Q i j late)

  -- ---- the board's part

  -- another flow's tile comes, or none
  part-others : (owner : TickAnswer) → is_owner owner i ≡ false → (y : Crossing) → AllStill y → AllStill (served owner y)
  unfolding served
  part-others none d y z =
      all-waiting (flow_count y.arriving.state.plan) y z
  part-others (some k) d y z =
      let n = flow_count y.arriving.state.plan in
      comes-still (ok a) (ok b) in_step goes_on i j goes (AllPassed P Q i j late) (all_first P Q i j late) (all-second P Q i j late) k
      (eqb-false k i d) (pass_waiting n y)
      (all-waiting n y z)

  -- the stream's tile comes
  module _ (q : Crossing) (z : OneStill q) where
    abbrev y : Crossing
    y = queued i q

    tile-goes : (g : Grant) → answer_for j y ≡ g → FullHere (on_grant i g (pass_on 0 i j) (asked_for j y)) → AllowedAt (on_grant i g (pass_on 0 i j) (asked_for j y))
        → AllStill (on_grant i g (pass_on 0 i j) (asked_for j y))
    unfolding pass_on
    tile-goes (accepted v) is full allowed =
        let p = departure_of v in
        let receipt = (reference.credit y.arriving.state i p).1 in
        let all_accepted = (full.kept.flows i j goes).all_accepted.0 refl in
        let before = allowed-before a b in_step share_kept late enough (one_more (credited i p receipt) here) here allowed in
        let long : i < length q.waiting =
        omega (
          arith,
          full.kept.long,
          length-set y.waiting i (waits y i - 1),
          length-set q.waiting i (min (waits q i + 1) 255),
          a.known,
          (ok a).flows_most,
        ) in
        let one : waits y i ≡ 1 = get_or-set_same q.waiting i (min (waits q i + 1) 255) 0 long ∙ ap (λ n. min (n + 1) 255) z.none_waits in
        let left = get_or-set_same y.waiting i (waits y i - 1) 0 (omega (arith, long, length-set q.waiting i (min (waits q i + 1) 255))) in
        record {
          reached₁ = reached-more (Call.credit i p) z.reached₁;
          reached₂ = reached-more (Call.request (asking y.leaving.state j)) z.reached₂;
          onward_is = z.onward_is;
          none_waits = left ∙ ap (◌- 1) one;
          holds = pair-more a b in_step share_kept late enough y z.reached₁ z.reached₂ z.holds.0 z.holds.1 before v is receipt all_accepted;
        }
    tile-goes (refused r) is full allowed =
        absurd (subst (λ g. GrantedNow Q g y.leaving.history) is
        (is-granted a b in_step share_kept late enough y z.reached₁ z.reached₂ z.holds.0 z.holds.1 allowed))

    one-goes : FullHere (pass_on 1 i j y) → AllowedAt (pass_on 1 i j y) → AllStill (pass_on 1 i j y)
    unfolding pass_on
    one-goes = tile-goes (answer_for j y) refl

    comes-goes : FullHere (comes (some j) i q) → AllowedAt (comes (some j) i q) → AllStill (comes (some j) i q)
    comes-goes =
        subst (λ c. FullHere (cond c (pass_on 1 i j y) y) → AllowedAt (cond c (pass_on 1 i j y) y) → AllStill (cond c (pass_on 1 i j y) y))
        (sym (eq-eqb (waits q i) 0 z.none_waits)) one-goes

    it-comes : FullHere (comes (goes_on_as q i) i q) → AllowedAt (comes (goes_on_as q i) i q) → AllStill (comes (goes_on_as q i) i q)
    it-comes =
        subst (λ o. FullHere (comes o i q) → AllowedAt (comes o i q) → AllStill (comes o i q)) (sym (ap (λ o. get_or o i none) z.onward_is ∙ goes)) comes-goes

  part-ours : (y : Crossing) → OneStill y → FullHere (served (some i) y) → AllowedAt (served (some i) y) → AllStill (served (some i) y)
  unfolding served
  part-ours y z =
      let n = flow_count y.arriving.state.plan in
      it-comes (pass_waiting n y)
      (one-waiting n y z)

  -- ---- a slot

  -- at the end of a slot: what the board keeps, and none of the stream's tiles waits
  pub record Passing (x : Crossing) : Type 0 where
    pub full : FullHere x
    pub still : AllStill x

  -- as many tiles came as were granted a slot
  pub came : (x : Crossing) → Passing x
      → up_to_slot (ticks x.arriving.history) (sent_slots P x.arriving.history i) ≡ next_tile P Q i j x.leaving.history
  came x z =
      omega (
        arith,
        (z.full.kept.flows i j goes).none_lost,
        z.still.none_waits,
        up-to-slots i (ticks x.arriving.history) (grants P x.arriving.history),
        count-slots j (grants Q x.leaving.history),
      )

  module _ (x : Crossing) (z : Passing x) (down : Descends (sent_slots P x.arriving.history i)) where
    abbrev h₁ : History
    h₁ = x.arriving.history

    abbrev h₂ : History
    h₂ = x.leaving.history

    abbrev tiles : ℕ
    tiles = next_tile P Q i j h₂

    in-this-slot : tally (λ m. of_flow i m && at_slot (suc (ticks h₁)) m) (grants P h₁) ≡ bit (is_owner (tick_answer_of x) i)
    in-this-slot = omega (arith, tick-adds (ok a) z.still.reached₁ i, up-to-next i (ticks h₁) (grants P h₁))

    ticked-still : {R : (h₁ h₂ : History) → Type 0} {first : (e : Event) → NotGiven i e → (h₁ h₂ : History) → R h₁ h₂ → R (e ∷ h₁) h₂}
        {second : (e : Event) → NoAsk j e → (h₁ h₂ : History) → R h₁ h₂ → R h₁ (e ∷ h₂)}
        → R (both_tick x).arriving.history (both_tick x).leaving.history → Still (ok a) (ok b) in_step goes_on i j goes R first second (both_tick x)
    ticked-still holds = record {
      reached₁ = reached-more Call.tick z.still.reached₁;
      reached₂ = reached-more Call.tick z.still.reached₂;
      onward_is = z.still.onward_is;
      none_waits = z.still.none_waits;
      holds = holds;
    }

    tick-others : is_owner (tick_answer_of x) i ≡ false → AllStill (both_tick x)
    tick-others other =
        ticked-still (tick-none P Q i j late (tick_answer_of x) (reference.tick x.leaving.state).1 h₁ h₂ z.still.holds (in-this-slot ∙ ap bit other))

    tick-ours : is_owner (tick_answer_of x) i ≡ true → OneStill (both_tick x)
    tick-ours own =
        let t = ticks h₁ in
        let one = in-this-slot ∙ ap bit own in
        let next : up_to_slot (suc t) (sent_slots P h₁ i) ≡ suc tiles =
        omega (
          arith,
          came x z,
          up-to-slots i t (grants P h₁),
          up-to-slots i (suc t) (grants P h₁),
          up-to-next i t (grants P h₁),
          one,
        ) in
        let sent : tiles < length (sent_slots P h₁ i) = omega (arith, next, up-to-length (suc t) (sent_slots P h₁ i)) in
        let low = tile-past (sent_slots P h₁ i) down t tiles (omega (arith, came x z)) sent in
        let high = tile-up-to (sent_slots P h₁ i) down (suc t) tiles (omega (arith, next)) in
        let now : next_slot P Q i j h₁ h₂ ≡ suc t = omega (arith, low, high) in
        ticked-still (tick-one P Q i j late (tick_answer_of x) (reference.tick x.leaving.state).1 h₁ h₂ z.still.holds sent now (omega (arith, one)))

    -- the board's part of it
    part : (before : List Other) (owner : TickAnswer) → tick_answer_of x ≡ owner → FullHere (served owner (others before (both_tick x)))
        → AllowedAt (served owner (others before (both_tick x))) → AllStill (served owner (others before (both_tick x)))
    part before owner is full allowed = go (is_owner owner i) refl
      where
        ours : (owner : TickAnswer) → is_owner owner i ≡ true → tick_answer_of x ≡ owner → FullHere (served owner (others before (both_tick x)))
            → AllowedAt (served owner (others before (both_tick x))) → AllStill (served owner (others before (both_tick x)))
        ours none own is full allowed = absurd (true≢false (sym own))
        ours (some k) own is full allowed =
            let same = eqb-true k i own in
            subst (λ k. FullHere (served (some k) (others before (both_tick x))) → AllowedAt (served (some k) (others before (both_tick x)))
            → AllStill (served (some k) (others before (both_tick x)))) (sym same)
            (part-ours (others before (both_tick x)) (one-others before (both_tick x) (tick-ours (ap (λ o. is_owner o i) is ∙ own)))) full allowed

        go : (c : Bool) → is_owner owner i ≡ c → AllStill (served owner (others before (both_tick x)))
        go true own = ours owner own is full allowed
        go false other =
            part-others owner other (others before (both_tick x))
            (all_others before (both_tick x)
            (tick-others (ap (λ o. is_owner o i) is ∙ other)))

    pub slot-passes : (s : Slot) → AllowedAt (in_slot served s x) → Passing (in_slot served s x)
    slot-passes s allowed =
        let y = served (tick_answer_of x) (others s.before (both_tick x)) in
        let full = part-full (ok a) (ok b) in_step goes_on s.before x z.full in
        let first = others-arriving (GoesOn y.arriving.history) (λ e alone h g. one_more e g) s.after y here in
        let second = others-leaving (GoesOn y.leaving.history) (λ e alone h g. one_more e g) s.after y here in
        let done = part s.before (tick_answer_of x) refl full (allowed-before a b in_step share_kept late enough first second allowed) in
        record {
          full = others-full (ok a) (ok b) in_step goes_on s.after y full;
          still = all_others s.after y done;
        }

  -- ---- the start

  pub starts-passing : (begin : List Other) → Passing (others begin (begun P Q onward))
  unfolding ticks grants slots_of returns tally
  starts-passing begin = record {
    full = others-full (ok a) (ok b) in_step goes_on begin (begun P Q onward) (begun-full (ok a) (ok b) in_step goes_on);
    still = all_others begin
        (begun P Q onward) (record {
          reached₁ = reached-start P;
          reached₂ = reached-start Q;
          onward_is = refl;
          none_waits = zeros 16 i;
          holds = record { same_time = refl; up_to_now = omega arith; together = start; asks = tt; credited = λ t lt. omega arith };
        });
  }
