-- Where a stream ends no credit of it is refused, and cells are given back in time where its tiles are shown in time. Assumes nothing.
use Prim.Native.Nat.{ℕ, suc, ◌+◌, ◌-◌, ◌*◌, ◌%◌, ◌≤◌, ◌<◌}
use mathlib.Core.Path.{◌≡◌, refl, sym, ap, ◌∙◌, subst}
use mathlib.Core.List.{List, ◌∷◌, []}
use mathlib.Core.Option.{Option, some as one_flow, none as no_flow}
use mathlib.Core.Bool.{Bool, true, false, not, ◌&&◌, true≢false, cond}
use native.Mathlib.Nat.{mul-le-mul_right, mod-lt}
use native.Mathlib.Decide.{dec_le, ℕ_discrete}
use native.Mathlib.Omega.{arith}
use lib.Dec.{leb, eqb}
use lib.ListN.{length}
use borrow.Author.Tests.{le-leb, lt-leb, eqb-false, eq-eqb, ne_eqb}
use Rattle.model.specs.Tables.{bit, tally}
use Rattle.model.specs.Word.{flow_of}
use Rattle.model.specs.Plan.{Plan, positions, flow_count, Accepted}
use Rattle.model.specs.Calls.{Call, Event, History, requested, credited, ticked, lent, accepted, refused}
use Rattle.model.specs.History.{ticks, slot_after, frame_of, well_formed, has_come, credit_at, grants, credits, up_to, granted_up_to, credited_up_to}
use Rattle.model.specs.Holding.{InWindow}
use Rattle.model.specs.Claim.{Each, AtRequest}
use Rattle.model.specs.Scheduler.{Played, reference, step}
use Rattle.model.specs.Tick.{next_position}
use Rattle.model.proofs.Tallies.{tally-append}
use Rattle.model.proofs.Slots.{some-position, frame-begins, frame-ends, slot_after-is}
use Rattle.model.proofs.Departures.{come-at}
use Rattle.model.proofs.NextSlot.{next-position}
use Rattle.arrival.specs.AcceptedCredits.{AtCredit, IsAccepted, GivesBackFrom}
use Rattle.arrival.specs.SeveralLinks.{slots_of, plan_on}
use Rattle.arrival.specs.EnoughCells.{last_of, Return, return_at, returns}
use Rattle.arrival.specs.SharesOfCells.{GivenBack}
use Rattle.arrival.proofs.EnoughCells.{up-to-more}
use Rattle.arrival.proofs.TileSlots.{count-slots}
use Rattle.arrival.proofs.SeveralLinks.{ok}
use Rattle.delay.specs.Promised.{last_board}
use Rattle.crossings.specs.Crossing.{shown, served}
use Rattle.crossings.specs.Playing.{is_flow}
use Rattle.crossings.proofs.OneLink.{Reached, is_owner, reached-start, reached-more, known, credits-by-holding, up-to-most, slot-to-come, tick-adds}
use Rattle.crossings.proofs.Kept.{NotGiven, same-arriving, credit-dated, credit-came}
use Rattle.showcrossings.specs.Ends.{EndAct, tick_on, call_it, show_one, End, others_may, end_act, end_acts, end_played, EndsWell, ShownBy}
use Rattle.showcrossings.specs.Ends.{ShownGivesBack, DomeArrivesShown}
use Rattle.showcrossings.proofs.Dome.{dome-arrives}

-- ---- the next slot

module _ {P : Plan} (good : Accepted P) (t : ℕ) where
  next-in-window : InWindow P t (suc t)
  next-in-window =
      let two : 2 * P.slots ≤ P.frames * P.slots = mul-le-mul_right P.slots good.two_frames in
      record { low = omega (arith, frame-begins good t); high = omega (arith, frame-begins good t, frame-ends good t, two) }

  next-slot : slot_after P t (suc t % positions P) ≡ suc t
  next-slot = slot_after-is good t (suc t) next-in-window (omega arith)

  next-later : has_come P t (suc t % positions P) ≡ false
  next-later = come-at (record { accepted = good; current_is = refl }) (suc t) next-in-window ∙ lt-leb (suc t) t (omega arith)

-- ---- what is kept

-- a credit of flow i is dated the next slot
abbrev NextDatedAt : Plan → ℕ → Event → History → Type 0
NextDatedAt P i = AtCredit (λ k p a h. k ≡ i → slot_after P (ticks h) p ≡ suc (ticks h))

module _ {P : Plan} (good : Accepted P) (i : ℕ) (below : i < flow_count P) where
  record Kept (x : End) : Type 0 where
    reached : Reached P x.link
    all_accepted : Each (AtCredit (λ k p a h. k ≡ i → IsAccepted a)) x.link.history
    dated : Each (NextDatedAt P i) x.link.history
    none_lost : granted_up_to P x.link.history i (ticks x.link.history) ≡ x.kept + length (slots_of i (credits P x.link.history))

  -- an event of others
  not-given : (e : Event) (h : History) → NotGiven i e → NextDatedAt P i e h
  not-given (requested w a) h n = tt
  not-given (credited k p a) h n = λ same. absurd (n same)
  not-given (ticked x) h n = tt
  not-given (lent m a) h n = tt
  not-given (Event.reset a) h n = tt

  module _ (x : End) (z : Kept x) where
    abbrev h : History
    h = x.link.history

    by-event : (e : Event) (r : Played reference) → r.history ≡ e ∷ h → Reached P r → NotGiven i e → Kept (record { link = r; kept = x.kept })
    by-event e r is reached n =
        let s = same-arriving P i e h n in
        record {
          reached = reached;
          all_accepted = subst (Each (AtCredit (λ k p a h. k ≡ i → IsAccepted a))) (sym is) (s.all_accepted, z.all_accepted);
          dated = subst (Each (NextDatedAt P i)) (sym is) (not-given e h n, z.dated);
          none_lost =
              ap (λ g. granted_up_to P g i (ticks g)) is ∙ ap (granted_up_to P (e ∷ h) i) s.now ∙ s.came ∙ z.none_lost
              ∙ ap (λ ss. x.kept + length ss) (sym (ap (λ g. slots_of i (credits P g)) is ∙ s.dated));
        }

    by_call : (c : Call) → others_may i c ≡ true → Kept (record { link = step reference x.link c; kept = x.kept })
    by_call (Call.request w) e = by-event _ _ refl (reached-more (Call.request w) z.reached) tt
    by_call (Call.credit k p) e =
        by-event _ _ refl (reached-more (Call.credit k p) z.reached) (λ same. true≢false (sym e ∙ ap not (eq-eqb k i same)))
    by_call Call.tick e = absurd (true≢false (sym e))
    by_call (Call.lend m) e = by-event _ _ refl (reached-more (Call.lend m) z.reached) tt
    by_call Call.reset e = by-event _ _ refl (reached-more Call.reset z.reached) tt

    -- the flow that comes up
    comes-up : (o : Option ℕ) → is_owner o i ≡ is_flow i o
    comes-up no_flow = refl
    comes-up (one_flow k) = refl

    by_tick : Kept (end_act i tick_on x)
    unfolding ticks grants credits
    by_tick = record {
      reached = reached-more Call.tick z.reached;
      all_accepted = (tt, z.all_accepted);
      dated = (tt, z.dated);
      none_lost = omega (arith, tick-adds good z.reached i, ap bit (comes-up (reference.tick x.link.state).1), z.none_lost);
    }

    -- ---- a tile that was shown

    abbrev p : ℕ
    p = next_position x.link.state

    position : p ≡ suc (ticks h) % positions P
    position =
        let k = known good z.reached in
        subst (λ R. p ≡ suc (ticks h) % positions R) k.plan_is (next-position k.invariant)

    gives_back : 0 < x.kept → GivesBackFrom P i p h
    gives_back some-kept = record {
      known = below;
      position = omega (arith, position, mod-lt (suc (ticks h)) (some-position good));
      later = ap (has_come P (ticks h)) position ∙ next-later good (ticks h);
      holds = λ r le.
          omega (
            arith,
            up-to-most i r (credits P h),
            z.none_lost,
            some-kept,
            up-to-more i (ticks h) r (omega (arith, slot-to-come P (ticks h) p)) (grants P h),
          );
    }

    by-show : 0 < x.kept → Kept (record { link = shown i x.link; kept = x.kept - 1 })
    unfolding shown
    by-show some-kept =
        let receipt = (reference.credit x.link.state i p).1 in
        let reached = reached-more (Call.credit i p) z.reached in
        let is-accepted : IsAccepted receipt = (credits-by-holding good reached).0.1 (gives_back some-kept) in
        record {
          reached = reached;
          all_accepted = ((λ same. is-accepted), z.all_accepted);
          dated = ((λ same. ap (slot_after P (ticks h)) position ∙ next-slot good (ticks h)), z.dated);
          none_lost = omega (arith, credit-came P i i p receipt h, z.none_lost, ap length (credit-dated P i p receipt h is-accepted), some-kept);
        }

  act-kept : (a : EndAct) (x : End) → Kept x → Kept (end_act i a x)
  act-kept tick_on x z = by_tick x z
  act-kept (call_it c) x z = go (others_may i c) refl
    where
      go : (b : Bool) → others_may i c ≡ b → Kept (cond b (record { link = step reference x.link c; kept = x.kept }) x)
      go true e = by_call x z c e
      go false e = z
  act-kept show_one x z = go (eqb x.kept 0) refl
    where
      go : (b : Bool) → eqb x.kept 0 ≡ b → Kept (cond b x (record { link = shown i x.link; kept = x.kept - 1 }))
      go true e = z
      go false e = by-show x z (positive (eqb-false x.kept 0 e))
        where
          positive : (x.kept ≡ 0 → ⊥) → 0 < x.kept
          positive d = at (dec_le x.kept 0)
            where
              at : Dec (x.kept ≤ 0) → 0 < x.kept
              at (yes none) = absurd (d (omega arith))
              at (no some) = omega arith

  acts-kept : (acts : List EndAct) (x : End) → Kept x → Kept (end_acts i acts x)
  acts-kept [] x z = z
  acts-kept (a ∷ acts) x z = acts-kept acts (end_act i a x) (act-kept a x z)

  end_kept : (acts : List EndAct) → Kept (end_played P i acts)
  unfolding ticks grants credits slots_of tally
  end_kept acts = acts-kept acts _ (record { reached = reached-start P; all_accepted = tt; dated = tt; none_lost = refl })

  -- RULES 27.14: no credit is refused
  pub shown-ends-well : (acts : List EndAct) → EndsWell P i (end_played P i acts)
  shown-ends-well acts =
      let z = end_kept acts in
      record { all_accepted = z.all_accepted; none_lost = omega (arith, z.none_lost, count-slots i (credits P (end_played P i acts).link.history)) }

  -- ---- given back in time

  abbrev made_by : ℕ → Return → Bool
  made_by g r = eqb r.flow i && leb (frame_of P r.made) g

  -- credits that are made by the end of frame g are dated by the end of the next
  made-dated : (g : ℕ) (h : History) → Each (NextDatedAt P i) h → tally (made_by g) (returns P h) ≤ credited_up_to P h i (last_of P (g + 1))
  unfolding returns credits tally
  made-dated g [] each = omega arith
  made-dated g (e ∷ h) each =
      omega (
        arith,
        tally-append (made_by g) (return_at P e h) (returns P h),
        tally-append (up_to i (last_of P (g + 1))) (credit_at P e h) (credits P h),
        one e each.0,
        made-dated g h each.1,
      )
    where
      u : ℕ
      u = last_of P (g + 1)

      in_time : frame_of P (ticks h) ≤ g → suc (ticks h) ≤ u
      in_time le =
          let ends : (frame_of P (ticks h) + 1) * P.slots ≤ (g + 1) * P.slots = mul-le-mul_right P.slots (omega arith) in
          omega (arith, frame-ends good (ticks h), frame-begins good (ticks h), ends)

      single : (k p : ℕ) → (k ≡ i → slot_after P (ticks h) p ≡ suc (ticks h)) → Dec (k ≡ i) → Dec (frame_of P (ticks h) ≤ g)
          → bit (eqb k i && leb (frame_of P (ticks h)) g) ≤ bit (eqb k i && leb (slot_after P (ticks h) p) u)
      single k p dated (yes own) (yes le) =
          rw (eq-eqb k i own, le-leb (frame_of P (ticks h)) g le, le-leb (slot_after P (ticks h) p) u (omega (arith, dated own, in_time le))) (omega arith)
      single k p dated (yes own) (no past) = rw (eq-eqb k i own, lt-leb (frame_of P (ticks h)) g (omega arith)) (omega arith)
      single k p dated (no other) d = rw (ne_eqb k i other) (omega arith)

      one : (e : Event) → NextDatedAt P i e h → tally (made_by g) (return_at P e h) ≤ tally (up_to i u) (credit_at P e h)
      one (requested w a) dated = omega arith
      one (credited k p (accepted x)) dated =
          let s = single k p dated (ℕ_discrete k i) (dec_le (frame_of P (ticks h)) g) in
          omega (arith, s)
      one (credited k p (refused r)) dated = omega arith
      one (ticked x) dated = omega arith
      one (lent m a) dated = omega arith
      one (Event.reset a) dated = omega arith

  shown-back : (late : ℕ) (h : History) → Each (NextDatedAt P i) h → ShownBy late P i h → GivenBack late P i h
  shown-back late h each shown_by s back = omega (arith, shown_by s back, made-dated (frame_of P s + late) h each)

pub shown-gives-back : ShownGivesBack
shown-gives-back late b x = go b.events dated x.shown_by
  where
    P : Plan
    P = plan_on b

    i : ℕ
    i = b.stream

    dated : Each (NextDatedAt P i) b.events
    dated = subst (Each (NextDatedAt P i)) x.events_are (end_kept (ok b) i b.known x.acts).dated

    go : (h : History) → Each (NextDatedAt P i) h → Each (AtRequest (λ w h. well_formed P w ≡ true → flow_of w ≡ i → ShownBy late P i h)) h
        → Each (AtRequest (λ w h. well_formed P w ≡ true → flow_of w ≡ i → GivenBack late P i h)) h
    go [] each shown_by = tt
    go (requested w a ∷ h) each shown_by =
        (λ well own. shown-back (ok b) i b.known late h each.1 (shown_by.0 well own), go h each.1 shown_by.1)
    go (credited k p a ∷ h) each shown_by = (tt, go h each.1 shown_by.1)
    go (ticked x ∷ h) each shown_by = (tt, go h each.1 shown_by.1)
    go (lent m a ∷ h) each shown_by = (tt, go h each.1 shown_by.1)
    go (Event.reset a ∷ h) each shown_by = (tt, go h each.1 shown_by.1)

pub dome-arrives-shown : DomeArrivesShown served
dome-arrives-shown show none i below late enough a rest on modest ends =
    dome-arrives show none i below late enough a rest on modest (shown-gives-back late (last_board a rest) ends)
