-- Two links with a crossing between them, told from their events alone: slot after slot no tile of the stream waits, as long as its cells are given back.
-- Assumes nothing.
use Prim.Native.Nat.{ℕ, suc, ◌+◌, ◌*◌, ◌≤◌, ◌<◌}
use mathlib.Core.Path.{◌≡◌, refl, sym, ap, ◌∙◌, subst}
use mathlib.Core.List.{◌∷◌, []}
use mathlib.Core.Option.{none}
use native.Mathlib.Decide.{dec_lt}
use native.Mathlib.Omega.{arith}
use lib.ListN.{length}
use Rattle.model.specs.Tables.{tally}
use Rattle.model.specs.Plan.{Plan, entry}
use Rattle.model.specs.Calls.{Event, History, requested, credited, ticked, lent, accepted, refused}
use Rattle.model.specs.History.{ticks, grants, marks_of, of_flow, granted_in_all}
use Rattle.model.specs.Claim.{Each, GrantedWordAt}
use Rattle.model.specs.Scheduler.{Played, reference}
use Rattle.arrival.specs.Delay.{AsksAt}
use Rattle.arrival.specs.SeveralLinks.{sent_slots, AskedAt, Together, start, both_tick, first_alone, second_alone, Board, plan_on, sent_on}
use Rattle.arrival.specs.EnoughCells.{return_at, returns, in_slot, CreditsEachTile}
use Rattle.arrival.specs.SharesOfCells.{GivenBack, AsksWithinShare, KeepsShares}
use Rattle.arrival.specs.LinksOnArrival.{AsksOnArrival}
use Rattle.arrival.specs.CreditedByNext.{JoinedByCredits, AsksModestly, ModestFirst}
use Rattle.arrival.specs.AllArrive.{ask_at, asked, asked_for, AllAsked}
use Rattle.arrival.specs.BooksInOrder.{AfterThoseAt}
use Rattle.model.proofs.Tallies.{tally-append}
use Rattle.model.proofs.Demand3.{each_map}
use Rattle.arrival.proofs.CreditsInTime.{given-back-by, each-tile-by}
use Rattle.arrival.proofs.SeveralLinks.{ok, none-granted, words}
use Rattle.arrival.proofs.SharesInOrder.{shares-in-order-accepted}
use Rattle.arrival.proofs.LinksOnArrival.{soon-on-next}
use Rattle.arrival.proofs.CreditedByNext.{each-tile-at-each, credited-each-tile-by}
use Rattle.crossings.specs.Crossing.{Crossing, waits, served}
use Rattle.crossings.specs.Playing.{others, begun}
use Rattle.crossings.proofs.OneLink.{Reached}
use Rattle.showcrossings.specs.Ways.{Crossed, crossing_of, PlansJoin}
use Rattle.showcrossings.proofs.Growing.{SinceTick, at_tick, after_tick, ticks-alone, each-before, no-reset-before, not-lent-before, cut}
use Rattle.showcrossings.proofs.Growing.{cut-before}
use Rattle.showcrossings.proofs.States.{others-arriving, others-leaving, arriving-since, leaving-since, state_at, NextState, over, by_slot}
use Rattle.showcrossings.proofs.States.{next-state, last-state, state-is}
use Rattle.showcrossings.proofs.InOrder.{up_to_slot, Descends, sent-descends, tile-past}
use Rattle.showcrossings.proofs.Pairs.{at-slot-stays, CreditedIn, credited-first}
use Rattle.showcrossings.proofs.Passed.{Allowed, joined_at}
use Rattle.showcrossings.proofs.Slots.{AllPassed, Passing, came, slot-passes}

-- ---- one link

-- where the stream keeps its shares of cells, its slots are in order
slots-in-order : (a : Board reference) (late : ℕ) {r : Played reference} → Reached (plan_on a) r → KeepsShares late 0 (plan_on a) a.stream r.history
    → Descends (sent_slots (plan_on a) r.history a.stream)
slots-in-order a late {r} reached keeps =
    let P = plan_on a in
    let i = a.stream in
    sent-descends P i r.history (none-granted r.history keeps.no_reset)
    (subst (λ (r : Played reference). KeepsShares late 0 P i r.history → Each (AfterThoseAt P i) r.history) reached.played
    (shares-in-order-accepted late P (ok a) reached.calls i a.known) keeps)

-- a slot more, without a credit for a tile that comes in it
credits-more : (P : Plan) (i : ℕ) (e : Event) (h : History) → ticks (e ∷ h) ≡ ticks h → CreditsEachTile P i h → CreditsEachTile P i (e ∷ h)
unfolding returns
credits-more P i e h same each t lt =
    let gone : t < ticks h = omega (arith, same) in
    omega (arith, each t gone, at-slot-stays P i t e h (omega (arith, gone)), tally-append (in_slot P i t) (return_at P e h) (returns P h))

credits-since : (P : Plan) (i : ℕ) {h h' : History} → SinceTick h h' → CreditsEachTile P i (ticked none ∷ h) → CreditsEachTile P i h'
unfolding ticks grants returns
credits-since P i (at_tick x) each = each
credits-since P i (after_tick {h'} e alone s) each = credits-more P i e h' (ticks-alone e alone h') (credits-since P i s each)

-- what is granted was asked for
granted-asked : (P : Plan) (i : ℕ) (h : History) → Each (GrantedWordAt P) h → granted_in_all P h i ≤ asked_for P h i
unfolding grants asked marks_of tally
granted-asked P i [] words = omega arith
granted-asked P i (requested w (accepted v) ∷ h) words =
    rw words.0.asked_well_formed (omega (arith, granted-asked P i h words.1))
granted-asked P i (requested w (refused r) ∷ h) words =
    omega (arith, granted-asked P i h words.1, tally-append (of_flow i) (ask_at P (requested w (refused r)) h) (asked P h))
granted-asked P i (credited k p a ∷ h) words = granted-asked P i h words.1
granted-asked P i (ticked x ∷ h) words = granted-asked P i h words.1
granted-asked P i (lent m a ∷ h) words = granted-asked P i h words.1
granted-asked P i (Event.reset a ∷ h) words = granted-asked P i h words.1

-- a modest source with its cells given back so late
module _ (P : Plan) (i late : ℕ) where
  modest-asks : (h : History) → Each (AsksAt AsksModestly P i) h → Each (AsksAt (λ P i w h. GivenBack late P i h) P i) h
      → Each (AsksAt (AsksWithinShare late) P i) h
  modest-asks [] m back = tt
  modest-asks (requested w a ∷ h) m back = (
    λ well own.
        let x = m.0 well own in
        record { come = x.come; number = x.number; given_back = back.0 well own; few = x.few },
    modest-asks h m.1 back.1,
  )
  modest-asks (credited k p a ∷ h) m back = (tt, modest-asks h m.1 back.1)
  modest-asks (ticked x ∷ h) m back = (tt, modest-asks h m.1 back.1)
  modest-asks (lent k a ∷ h) m back = (tt, modest-asks h m.1 back.1)
  modest-asks (Event.reset a ∷ h) m back = (tt, modest-asks h m.1 back.1)

-- what is asked of requests, without what is said of cells
module _ (P Q : Plan) (i j late : ℕ) where
  pub as-asked : {g₁ g₂ : History} → Together P Q i j (AsksOnArrival (GivenBack late) P Q i j) g₁ g₂
      → Together P Q i j (AsksOnArrival (λ P i h. Unit {0}) P Q i j) g₁ g₂
  as-asked start = start
  as-asked (both_tick t) = both_tick (as-asked t)
  as-asked (first_alone e alone t) = first_alone e alone (as-asked t)
  as-asked (second_alone {h₁ = g₁} {h₂ = g₂} e alone asks t) = second_alone e alone (one e asks) (as-asked t)
    where
      one : (e : Event) → AskedAt P Q i j (AsksOnArrival (GivenBack late) P Q i j) g₁ e g₂ → AskedAt P Q i j (AsksOnArrival (λ P i h. Unit {0}) P Q i j) g₁ e g₂
      one (requested w r) asks = λ well own.
          let y = asks well own in
          record { sent = y.sent; departs = y.departs; comes_now = y.comes_now; number = y.number; given_back = tt }
      one (credited k p r) asks = tt
      one (ticked r) asks = tt
      one (lent m r) asks = tt
      one (Event.reset r) asks = tt

-- ---- two links, with a crossing between them

module _ (a b : Board reference) (plans : PlansJoin a b) (x : Crossed served a b) (late : ℕ)
    (enough : (late + 2) * (entry (plan_on b) b.stream).share ≤ (entry (plan_on b) b.stream).cells) where
  abbrev P : Plan
  P = plan_on a

  abbrev Q : Plan
  Q = plan_on b

  abbrev i : ℕ
  i = a.stream

  abbrev j : ℕ
  j = b.stream

  abbrev pub first-state : Crossing
  first-state = others x.begin (begun P Q x.onward)

  abbrev pub state : ℕ → Crossing
  state n = state_at x.slots n first-state

  abbrev pub PassingIn : Crossing → Type 0
  PassingIn = Passing a b plans.in_step plans.share_kept late enough x.goes_on x.stream_goes_on

  abbrev pub AllowedIn : (h₁ h₂ : History) → Type 0
  AllowedIn = Allowed a b plans.in_step plans.share_kept late enough

  starts₁ : ticks first-state.arriving.history ≡ 0
  unfolding ticks
  starts₁ = others-arriving (λ h. ticks h ≡ 0) (λ e alone h z. ticks-alone e alone h ∙ z) x.begin (begun P Q x.onward) refl

  starts₂ : ticks first-state.leaving.history ≡ 0
  unfolding ticks
  starts₂ = others-leaving (λ h. ticks h ≡ 0) (λ e alone h z. ticks-alone e alone h ∙ z) x.begin (begun P Q x.onward) refl

  pub arriving-at : (n : ℕ) → (state n).arriving.history ≡ cut n a.events
  arriving-at n =
      sym (state-is (λ y. y.arriving.history) arriving-since x.slots n first-state starts₁) ∙ ap (cut n) x.arriving_is

  pub leaving-at : (n : ℕ) → (state n).leaving.history ≡ cut n b.events
  leaving-at n =
      sym (state-is (λ y. y.leaving.history) leaving-since x.slots n first-state starts₂) ∙ ap (cut n) x.leaving_is

  -- what is asked of the events at the end of slot n, where cells of b were given back until then
  pub allowed_at : (n : ℕ) → Each (AsksAt (λ P i w h. GivenBack late P i h) Q j) (cut n b.events)
      → AllowedIn (state n).arriving.history (state n).leaving.history
  allowed_at n back =
      subst (λ h. AllowedIn h (state n).leaving.history) (sym (arriving-at n)) (subst (AllowedIn (cut n a.events)) (sym (leaving-at n)) (record {
        none₁ = no-reset-before (cut-before n a.events) a.no_reset;
        none₂ = no-reset-before (cut-before n b.events) b.no_reset;
        not_lent = not-lent-before j (cut-before n b.events) x.not_lent;
        back = back;
      }))

  next-passing : {y y' : Crossing} → NextState y y' → PassingIn y → Descends (sent_slots P y.arriving.history i)
      → AllowedIn y'.arriving.history y'.leaving.history → PassingIn y'
  next-passing over z down allowed = z
  next-passing {y} (by_slot s) z down allowed =
      slot-passes a b plans.in_step plans.share_kept late enough x.goes_on x.stream_goes_on y z down s allowed

  -- a slot more
  pub passing-next : (n : ℕ) → PassingIn (state n) → Descends (sent_slots P (cut n a.events) i)
      → Each (AsksAt (λ P i w h. GivenBack late P i h) Q j) (cut (suc n) b.events) → PassingIn (state (suc n))
  passing-next n z down back =
      next-passing (next-state x.slots n first-state) z (subst (λ h. Descends (sent_slots P h i)) (sym (arriving-at n)) down)
      (allowed_at (suc n) back)

  -- the cells of a are given back, one slot longer
  module _ (n : ℕ) (z : PassingIn (state n)) (allowed : AllowedIn (state n).arriving.history (state n).leaving.history) where
    abbrev h₁ : History
    h₁ = (state n).arriving.history

    abbrev h₂ : History
    h₂ = (state n).leaving.history

    abbrev pair : AllPassed P Q i j late h₁ h₂
    pair = z.still.holds

    each-tile : (h : History) → ((t : ℕ) → t < ticks h → CreditedIn P Q i j t h h₂) → CreditsEachTile P i h
    each-tile h credits =
        credited-each-tile-by (ok b) plans.in_step i j h h₂
        (soon-on-next _ _ (joined_at a b plans.in_step plans.share_kept late enough z.still.reached₁ z.still.reached₂ pair allowed)) credits

    credits-next : {y : Crossing} → NextState (state n) y → CreditsEachTile P i y.arriving.history
    unfolding ticks
    credits-next over = each-tile h₁ (λ t lt. pair.credited t (omega arith))
    credits-next (by_slot s) =
        credits-since P i (arriving-since s (state n))
        (each-tile (ticked none ∷ h₁) (λ t lt. credited-first P Q i j t (ticked none) h₁ h₂ (omega arith) (pair.credited t lt)))

    pub back-next : Each (AsksAt (λ P i w h. GivenBack 0 P i h) P i) (cut (suc n) a.events)
    back-next =
        subst (Each (AsksAt (λ P i w h. GivenBack 0 P i h) P i)) (arriving-at (suc n))
        (each_map (λ e h. CreditsEachTile P i h) (AsksAt (λ P i w h. GivenBack 0 P i h) P i) one (state (suc n)).arriving.history
        (each-tile-at-each P i (state (suc n)).arriving.history (credits-next (next-state x.slots n first-state))))
      where
        one : (e : Event) (h : History) → CreditsEachTile P i h → AsksAt (λ P i w h. GivenBack 0 P i h) P i e h
        one (requested w r) h each = λ well own. given-back-by (ok a) i h (each-tile-by (ok a) i h each)
        one (credited k p r) h each = tt
        one (ticked r) h each = tt
        one (lent m r) h each = tt
        one (Event.reset r) h each = tt

    -- on b the stream keeps its shares of cells
    pub keeps-next : KeepsShares late 0 Q j h₂
    keeps-next = record { asks = pair.asks; enough_cells = omega (arith, enough); not_lent = allowed.not_lent; no_reset = allowed.none₂ }

    pub order-next : Descends (sent_slots Q (cut n b.events) j)
    order-next = subst (λ h. Descends (sent_slots Q h j)) (leaving-at n) (slots-in-order b late z.still.reached₂ keeps-next)

    -- so on a, where its source is modest
    pub order-first : (back : ℕ) → (back + 2) * (entry P i).share ≤ (entry P i).cells → ModestFirst P i a.events
        → Each (AsksAt (λ P i w h. GivenBack back P i h) P i) (cut n a.events) → Descends (sent_slots P (cut n a.events) i)
    order-first back cells modest given =
        subst (λ h. Descends (sent_slots P h i)) (arriving-at n) (slots-in-order a back z.still.reached₁
        (subst (KeepsShares back 0 P i) (sym (arriving-at n)) (record {
          asks = modest-asks P i back (cut n a.events) (each-before (AsksAt AsksModestly P i) (cut-before n a.events) modest.asks) given;
          enough_cells = omega (arith, cells);
          not_lent = not-lent-before i (cut-before n a.events) modest.not_lent;
          no_reset = no-reset-before (cut-before n a.events) a.no_reset;
        })))

  -- at the end
  abbrev pub done : ℕ
  done = length x.slots

  pub whole₁ : (state done).arriving.history ≡ a.events
  whole₁ = ap (λ (y : Crossing). y.arriving.history) (last-state x.slots first-state) ∙ x.arriving_is

  pub whole₂ : (state done).leaving.history ≡ b.events
  whole₂ = ap (λ (y : Crossing). y.leaving.history) (last-state x.slots first-state) ∙ x.leaving_is

  module _ (z : PassingIn (state done)) where
    pub waits-none : waits (crossing_of x) i ≡ 0
    waits-none = ap (λ (y : Crossing). waits y i) (sym (last-state x.slots first-state)) ∙ z.still.none_waits

    pair-whole : AllPassed P Q i j late a.events b.events
    pair-whole =
        subst (λ h. AllPassed P Q i j late h b.events) whole₁ (subst (AllPassed P Q i j late (state done).arriving.history) whole₂ z.still.holds)

    pub joins : JoinedByCredits a b
    joins = record {
      in_step = plans.in_step;
      share_kept = plans.share_kept;
      together = as-asked P Q i j late pair-whole.together;
      credits = λ t lt. pair-whole.credited t (omega arith);
      two_shares = plans.two_shares;
      not_lent = x.not_lent;
    }

    pub asks-all : Descends (sent_on a) → AllAsked a b
    asks-all down n sent gone = go (dec_lt n (up_to_slot (ticks a.events) (sent_on a)))
      where
        as_many : up_to_slot (ticks a.events) (sent_on a) ≡ granted_in_all Q b.events j
        as_many =
            subst (λ h. up_to_slot (ticks h) (sent_slots P h i) ≡ granted_in_all Q b.events j) whole₁
            (subst (λ h. up_to_slot (ticks (state done).arriving.history) (sent_slots P (state done).arriving.history i) ≡ granted_in_all Q h j) whole₂
            (came a b plans.in_step plans.share_kept late enough x.goes_on x.stream_goes_on (state done) z))

        go : Dec (n < up_to_slot (ticks a.events) (sent_on a)) → n < asked_for Q b.events j
        go (yes there) = omega (arith, there, as_many, granted-asked Q j b.events (words b))
        go (no past) = absurd (omega (arith, gone, tile-past (sent_on a) down (ticks a.events) n (omega arith) sent))
