-- One link of a crossing: it is a run of calls, and what an event more changes of what is counted. Assumes nothing.
use Prim.Native.Nat.{ℕ, suc, ◌+◌, ◌≤◌, ◌<◌}
use mathlib.Core.Path.{◌≡◌, refl, sym, ap, ◌∙◌, subst}
use mathlib.Core.List.{List, ◌∷◌, [], ◌++◌}
use mathlib.Core.Option.{some, none}
use mathlib.Core.Bool.{Bool, true, false, ◌&&◌, cond}
use native.Mathlib.Decide.{dec_le, dec_lt, ℕ_discrete}
use native.Mathlib.Omega.{arith}
use lib.Dec.{leb, eqb}
use lib.ListN.{length}
use borrow.Author.Tests.{le-leb, lt-leb, eq-eqb, ne_eqb}
use Rattle.model.specs.Tables.{bit, tally}
use Rattle.model.specs.Word.{departure_of}
use Rattle.model.specs.Plan.{Plan, positions, flow_count, entry, Accepted}
use Rattle.model.specs.Calls.{Call, TickAnswer, History, requested, accepted}
use Rattle.model.specs.Scheduler.{Played, reference, step, play, started, run}
use Rattle.model.specs.History.{Mark, ticks, slot_after, has_come, grants, credits, grants_since, of_flow, at_slot, up_to, granted_up_to}
use Rattle.model.specs.History.{lent_up_to, credited_up_to}
use Rattle.model.specs.Holding.{InWindow}
use Rattle.model.specs.Claim.{Each}
use Rattle.arrival.specs.AcceptedCredits.{CreditAcceptedAt}
use Rattle.arrival.specs.SeveralLinks.{slots_of}
use Rattle.model.proofs.Tests.{and-true}
use Rattle.model.proofs.Tallies.{tally-le}
use Rattle.model.proofs.Slots.{frame-begins, slot_after-first}
use Rattle.model.proofs.Departures.{come-at}
use Rattle.model.specs.Link.{flow}
use Rattle.model.proofs.Invariant.{HoldsAt}
use Rattle.model.proofs.HistoryCounts.{raises, raises-are}
use Rattle.model.proofs.AfterCalls.{Known, after-calls, after-fresh}
use Rattle.model.proofs.EventsOfRuns.{counts}
use Rattle.model.proofs.CountedBursts.{play-both}
use Rattle.arrival.proofs.AcceptedCredits.{credits-accepted-on-plan}

-- ---- a link that calls come to

pub record Reached (P : Plan) (r : Played reference) : Type 0 where
  pub calls : List Call
  pub played : run reference P calls ≡ r

pub reached-start : (P : Plan) → Reached P (started reference P)
unfolding play
reached-start P = record { calls = []; played = refl }

pub reached-more : {P : Plan} {r : Played reference} (c : Call) → Reached P r → Reached P (step reference r c)
unfolding play
reached-more {P} c x = record {
  calls = x.calls ++ c ∷ [];
  played = play-both (started reference P) x.calls (c ∷ []) ∙ ap (λ r. step reference r c) x.played;
}

module _ {P : Plan} (ok : Accepted P) {r : Played reference} (x : Reached P r) where
  pub known : Known P r
  known = subst (Known P) x.played (after-calls (started reference P) x.calls (after-fresh ok))

  pub credits-by-holding : Each (CreditAcceptedAt P) r.history
  credits-by-holding = subst (λ (r : Played reference). Each (CreditAcceptedAt P) r.history) x.played (credits-accepted-on-plan P ok x.calls)

  -- what a flow holds is at most its cells
  pub within_held : (i : ℕ) → i < flow_count P → (s : ℕ)
      → granted_up_to P r.history i s + lent_up_to r.history i s ≤ credited_up_to P r.history i s + (entry P i).cells
  within_held i below s =
      let g = known in
      let x = subst (λ Q. i < flow_count Q
      → HoldsAt Q (ticks r.history) (raises P r.history) (credits P r.history) i (flow r.state i).held s)
      g.plan_is (λ q. g.invariant.holds i q s) below in
      omega (arith, x.within, raises-are P (up_to i s) r.history)

-- ---- counts

-- slot s + 1 adds the marks of it
pub up-to-next : (i s : ℕ) (ms : List Mark) → tally (up_to i (suc s)) ms ≡ tally (up_to i s) ms + tally (λ m. of_flow i m && at_slot (suc s) m) ms
unfolding tally
up-to-next i s [] = refl
up-to-next i s (m ∷ ms) = omega (arith, one (eqb m.flow i), up-to-next i s ms)
  where
    on : Dec (m.slot ≤ s) → Dec (m.slot ≡ suc s) → bit (leb m.slot (suc s)) ≡ bit (leb m.slot s) + bit (eqb m.slot (suc s))
    on (yes a) d = rw (le-leb m.slot (suc s) (omega arith), le-leb m.slot s a, ne_eqb m.slot (suc s) (λ z. omega arith))
    on (no a) (yes e) = rw (le-leb m.slot (suc s) (omega arith), lt-leb m.slot s (omega arith), eq-eqb m.slot (suc s) e)
    on (no a) (no e) = rw (lt-leb m.slot (suc s) (omega arith), lt-leb m.slot s (omega arith), ne_eqb m.slot (suc s) e)

    one : (b : Bool) → bit (b && leb m.slot (suc s)) ≡ bit (b && leb m.slot s) + bit (b && eqb m.slot (suc s))
    one true = on (dec_le m.slot s) (ℕ_discrete m.slot (suc s))
    one false = refl

-- the slots tell the count up to one
pub up-to-slots : (i s : ℕ) (ms : List Mark) → tally (up_to i s) ms ≡ tally (λ t. leb t s) (slots_of i ms)
unfolding tally slots_of
up-to-slots i s [] = refl
up-to-slots i s (m ∷ ms) = go (eqb m.flow i) (up-to-slots i s ms)
  where
    go : (b : Bool) → tally (up_to i s) ms ≡ tally (λ t. leb t s) (slots_of i ms)
        → bit (b && leb m.slot s) + tally (up_to i s) ms ≡ tally (λ t. leb t s) (cond b (m.slot ∷ slots_of i ms) (slots_of i ms))
    go true rest = omega (arith, rest)
    go false rest = omega (arith, rest)

-- a slot that is granted or dated is to come
pub slot-to-come : (P : Plan) (t p : ℕ) → t < slot_after P t p
unfolding slot_after
slot-to-come P t p = omega arith

pub up-to-most : (i s : ℕ) (ms : List Mark) → tally (up_to i s) ms ≤ length (slots_of i ms)
unfolding tally slots_of
up-to-most i s [] = omega arith
up-to-most i s (m ∷ ms) = go (eqb m.flow i) (leb m.slot s) (up-to-most i s ms)
  where
    go : (b c : Bool) → tally (up_to i s) ms ≤ length (slots_of i ms)
        → bit (b && c) + tally (up_to i s) ms ≤ length (cond b (m.slot ∷ slots_of i ms) (slots_of i ms))
    go true true rest = omega (arith, rest)
    go true false rest = omega (arith, rest)
    go false c rest = omega (arith, rest)

-- ---- a tick

-- the flow that comes up
abbrev pub is_owner : TickAnswer → ℕ → Bool
is_owner none i = false
is_owner (some k) i = eqb k i

none-some : {k : ℕ} → none ≡ some k → ⊥
none-some e = let z : ◌≡◌ {A = ℕ} 0 1 = ap (λ (o : TickAnswer). bit (is_some o)) e in omega arith
  where
    is_some : TickAnswer → Bool
    is_some none = false
    is_some (some i) = true

same_flow : {k i : ℕ} → some k ≡ some i → k ≡ i
same_flow e = cc

module _ {P : Plan} (ok : Accepted P) {r : Played reference} (x : Reached P r) where
  abbrev h : History
  h = r.history

  abbrev owner : TickAnswer
  owner = (reference.tick r.state).1

  pub tick-adds : (i : ℕ) → granted_up_to P h i (suc (ticks h)) ≡ granted_up_to P h i (ticks h) + bit (is_owner owner i)
  tick-adds i = omega (arith, up-to-next i (ticks h) (grants P h), comes owner refl)
    where
      now : Known P (step reference r Call.tick)
      now = known ok (reached-more Call.tick x)

      count : ℕ
      count = tally (λ m. of_flow i m && at_slot (suc (ticks h)) m) (grants P h)

      one : count ≤ 1
      one =
          omega (
            arith,
            tally-le (λ m. of_flow i m && at_slot (suc (ticks h)) m) (at_slot (suc (ticks h)))
                (λ m e. (and-true (of_flow i m) (at_slot (suc (ticks h)) m) e).1) (grants P h),
            raises-are P (at_slot (suc (ticks h))) h,
            (known ok x).invariant.owned.one_owner (suc (ticks h)),
          )

      next : ticks h + 1 ≡ suc (ticks h)
      next = omega arith

      granted-if : owner ≡ some i → 0 < count
      granted-if e = subst (λ s. 0 < tally (λ m. of_flow i m && at_slot s m) (grants P h)) next ((now.events.0.comes_up i).0 e)

      none-if : (owner ≡ some i → ⊥) → count ≡ 0
      none-if other = go (dec_lt 0 count)
        where
          go : Dec (0 < count) → count ≡ 0
          go (yes some-there) =
              absurd (other ((now.events.0.comes_up i).1 (subst (λ s. 0 < tally (λ m. of_flow i m && at_slot s m) (grants P h))
              (sym next) some-there)))
          go (no none_there) = omega arith

      comes : (y : TickAnswer) → owner ≡ y → count ≡ bit (is_owner y i)
      comes none e = none-if (λ z. none-some (sym e ∙ z))
      comes (some k) e = go (ℕ_discrete k i)
        where
          go : Dec (k ≡ i) → count ≡ bit (eqb k i)
          go (yes same) = rw (eq-eqb k i same) (omega (arith, one, granted-if (e ∙ ap some same)))
          go (no other) = rw (ne_eqb k i other) (none-if (λ z. other (same_flow (sym e ∙ z))))

-- ---- a grant

module _ {P : Plan} (ok : Accepted P) {r : Played reference} (w v : ℕ)
    (x : Reached P (record { state = r.state; history = requested w (accepted v) ∷ r.history })) where
  abbrev t : ℕ
  t = ticks r.history

  pub granted-position : departure_of v < positions P
  granted-position = (known ok x).events.0.word.position

  -- the position is one that is still to come
  pub granted_later : has_come P t (departure_of v) ≡ false
  unfolding ticks grants_since
  granted_later =
      let first = slot_after-first ok t (departure_of v) granted-position in
      let s = slot_after P t (departure_of v) in
      let begun = (counts (known ok x)).begun.0 in
      let w-s : InWindow P t s = record { low = omega (arith, frame-begins ok t, first.later); high = begun } in
      ap (has_come P t) (sym first.position) ∙ come-at (record { accepted = ok; current_is = refl }) s w-s ∙ lt-leb s t first.later
