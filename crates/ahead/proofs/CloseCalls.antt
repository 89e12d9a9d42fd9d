-- Links that are close: a credit that the first takes the second takes; a lend to one flow, a tick, and a tile that the second sends ahead leave them close.
-- Assumes nothing.
use Prim.Native.Nat.{ℕ, zero, suc, ◌+◌, ◌-◌, ◌%◌, ◌≤◌, ◌<◌}
use mathlib.Core.Path.{◌≡◌, refl, sym, ap, ap₂, ◌∙◌, subst}
use mathlib.Core.Option.{none}
use mathlib.Core.Bool.{Bool, true, false, not, ◌&&◌, cond}
use native.Mathlib.Nat.{mod-lt, mul-le-mul_right}
use native.Mathlib.Decide.{dec_lt, ℕ_discrete}
use native.Mathlib.Omega.{arith}
use lib.Dec.{leb, ltb, eqb}
use lib.ListN.{get_or}
use borrow.Author.Tests.{ltb-true, leb-true, leb-false, le-leb, lt-ltb, eqb-true, eqb-false, eq-eqb, ne_eqb}
use Rattle.model.specs.Refusals.{first_of}
use Rattle.model.specs.Plan.{Plan, positions, flow_count}
use Rattle.model.specs.Calls.{CreditAnswer}
use Rattle.model.specs.Window.{Window, head, next, passed, from_on, every_from, in_head}
use Rattle.model.specs.Link.{Link, Flow, Step, window, flow, holding, share, with_current, with_mark, moved_to, with_held, held_from}
use Rattle.model.specs.Credit.{credit_tests, lowered, credit_after, credit}
use Rattle.model.specs.Tick.{left_head, carried_on, recycled, next_position, advanced, tick}
use Rattle.model.specs.Lend.{lent_to}
use Rattle.model.specs.History.{frame_of, slot_after}
use Rattle.model.specs.Holding.{frame_start, InWindow}
use Rattle.ahead.specs.Ahead.{held_until, sent_ahead}
use Rattle.ahead.specs.AheadRuns.{later_of, RefusedToo, AcceptedToo}
use Rattle.model.proofs.Slots.{some-position, frame-stays, frames-go-on, slot_at, slot_at-in-window, slot_at-position, slot_after-is}
use Rattle.model.proofs.Slots.{current-in-window, last-in-window, place-of-position}
use Rattle.model.proofs.Window.{passed_is, from_on-is, every_from-at, every_from-intro, last_is}
use Rattle.model.proofs.Tables.{get_d-table}
use Rattle.model.proofs.LinkUpdates.{owner-with_owners, flow-with_flows, flow-same, flow-other, held_from-at, carried_on-at}
use Rattle.model.proofs.Invariant.{Ledger, Invariant}
use Rattle.model.proofs.CreditKeeps.{CreditPasses, credit-passes}
use Rattle.model.proofs.NextSlot.{next-position}
use Rattle.model.proofs.FrameChangeKeeps.{kept, added, before}
use Rattle.arrival.proofs.AcceptedCredits.{credit-accepted}
use Rattle.ahead.proofs.CloseLinks.{CloseFlow, Close, Parts, with, by-base, raised, each-close}

-- a holding that fell by one from some position on, in both
fallen : (e : Bool) (x y : ℕ) → x ≤ y → cond e (x - 1) x ≤ cond e (y - 1) y
fallen true x y h = omega arith
fallen false x y h = h

-- flows with one injection frame, remainder and number
pub record SamePlace (x y : Flow) : Type 0 where
  pub frame : x.injection ≡ y.injection
  pub remainder : x.remainder ≡ y.remainder
  pub number : x.number ≡ y.number

-- The slots from which the holdings are the same, where a tile of flow i is sent ahead of position p and they were b before.
abbrev pub with_sent : Plan → (t : ℕ) → (b : ℕ → ℕ) → (i p : ℕ) → ℕ → ℕ
with_sent P t b i p j = cond (eqb j i) (later_of (slot_after P t p) (b j)) (b j)

module _ (base : Link) (x y : Parts) {L : Ledger} (v : Invariant (with base x) L) {b : ℕ → ℕ} (c : Close base.plan L.now b (with base x) (with base y)) where
  open base use {plan as P}
  open L use {now as t}
  open v use {current as now}
  open v.current use {accepted as ok}

  abbrev T : ℕ
  T = positions P

  abbrev w : Window
  w = window base

  abbrev k : Link
  k = with base x

  abbrev l : Link
  l = with base y

  -- ---- flow i's holdings changed by f from position p on, in both

  module _ {i : ℕ} (known : i < flow_count P) (p : ℕ) (f : ℕ → ℕ) (order : (e : Bool) (x y : ℕ) → x ≤ y → cond e (f x) x ≤ cond e (f y) y) where
    changed-flow : CloseFlow P t (b i) (with_held (flow k i) (held_from k i p f)) (with_held (flow l i) (held_from l i p f))
    changed-flow = record {
      frame = (c.flows i known).frame;
      remainder = (c.flows i known).remainder;
      number = (c.flows i known).number;
      no_less = λ s w-s le.
          let position = mod-lt s (some-position ok) in
          let both = order (from_on w p (s % T)) (holding k i (s % T)) (holding l i (s % T)) ((c.flows i known).no_less s w-s le) in
          rw (held_from-at k i p f (s % T) position, held_from-at l i p f (s % T) position) both;
      same_from = λ s w-s le from.
          let position = mod-lt s (some-position ok) in
          held_from-at k i p f (s % T) position
          ∙ ap (λ z. cond (from_on w p (s % T)) (f z) z) ((c.flows i known).same_from s w-s le from)
          ∙ sym (held_from-at l i p f (s % T) position);
    }

  -- ---- a credit

  module _ (i p : ℕ) where
    passes-too : CreditPasses k i p → CreditPasses l i p
    passes-too a = record {
      known = a.known;
      position = a.position;
      later = a.later;
      holds = subst (λ q. every_from w q (λ q. ltb 0 (holding l i q)) ≡ true) at_p
          (every_from-intro now s (λ q. ltb 0 (holding l i q)) w-s λ r w-r le.
          let some = ltb-true 0 (holding k i (r % T)) (every_from-at now s (λ q. ltb 0 (holding k i q)) w-s holds r w-r le) in
          lt-ltb 0 (holding l i (r % T)) (omega (arith, (c.flows i a.known).no_less r w-r (omega (arith, after)))));
    }
      where
        s : ℕ
        s = slot_at ok t p

        w-s : InWindow P t s
        w-s = slot_at-in-window ok t p

        at_p : s % T ≡ p
        at_p = slot_at-position ok t p a.position

        after : t < s
        after = leb-false s t (sym (passed_is now s w-s) ∙ ap (passed w) at_p ∙ a.later)

        holds : every_from w (s % T) (λ q. ltb 0 (holding k i q)) ≡ true
        holds = subst (λ q. every_from w q (λ q. ltb 0 (holding k i q)) ≡ true) (sym at_p) a.holds

    lowered-close : CreditPasses k i p → Close P t b (lowered k i p) (lowered l i p)
    unfolding lowered
    lowered-close a = record {
      plan_first = refl;
      plan_second = refl;
      current = refl;
      owners = c.owners;
      flows = each-close base x y c a.known _ _ (changed-flow a.known p (λ z. z - 1) fallen);
      begun = c.begun;
    }

    abbrev AcceptedAlike : Step CreditAnswer → Step CreditAnswer → Type 0
    AcceptedAlike s s' = RefusedToo s.answer s'.answer → AcceptedToo s.answer s'.answer × Close P t b s.link s'.link

    credit-close : AcceptedAlike (credit k i p) (credit l i p)
    unfolding credit credit_after
    credit-close = first (first_of (credit_tests k i p)) refl
      where
        second : (r r' : ℕ) → AcceptedAlike (credit_after (suc r) k i p) (credit_after r' l i p)
        second r zero both = absurd both
        second r (suc r') both = (tt, c)

        first : (r : ℕ) → first_of (credit_tests k i p) ≡ r → AcceptedAlike (credit_after r k i p) (credit l i p)
        first zero e =
            let a = credit-passes k i p e in
            subst (AcceptedAlike (credit_after 0 k i p)) (sym (credit-accepted l i p (passes-too a))) (λ both. (refl, lowered-close a))
        first (suc r) e = second r (first_of (credit_tests l i p))

  -- ---- a lend to one flow in both

  lent-close : {i : ℕ} → i < flow_count P → Close P t b (lent_to k i) (lent_to l i)
  unfolding lent_to
  lent-close known = record {
    plan_first = refl;
    plan_second = refl;
    current = refl;
    owners = c.owners;
    flows = each-close base x y c known _ _ (changed-flow known base.current suc raised);
    begun = c.begun;
  }

  -- ---- a tile of flow i that the second link sends ahead of position p

  module _ {i p : ℕ} (known : i < flow_count P) (below : p < T) (to_come : passed w p ≡ false) where
    abbrev s : ℕ
    s = slot_at ok t p

    w-s : InWindow P t s
    w-s = slot_at-in-window ok t p

    at_p : s % T ≡ p
    at_p = slot_at-position ok t p below

    after : t < s
    after = leb-false s t (sym (passed_is now s w-s) ∙ ap (passed w) at_p ∙ to_come)

    slot_is : slot_after P t p ≡ s
    slot_is = ap (slot_after P t) (sym at_p) ∙ slot_after-is ok t s w-s after

    -- the later of two slots comes after neither
    later-least : (a d r : ℕ) → later_of a d ≤ r → (a ≤ r) × (d ≤ r)
    later-least a d r = go (leb a d) refl
      where
        go : (e : Bool) → leb a d ≡ e → cond e d a ≤ r → (a ≤ r) × (d ≤ r)
        go true e h = let le = leb-true a d e in (omega arith, h)
        go false e h = let lt = leb-false a d e in (h, omega arith)

    later-below : (a d r : ℕ) → a < r → d < r → later_of a d < r
    later-below a d r ha hd = go (leb a d)
      where
        go : (e : Bool) → cond e d a < r
        go true = hd
        go false = ha

    until-at : (r : ℕ) → InWindow P t r → get_or (held_until l i p) (r % T) 0 ≡ cond (leb t r && not (leb s r)) (suc (holding l i (r % T))) (holding l i (r % T))
    until-at r w-r =
        get_d-table T _ (r % T) 0 (mod-lt r (some-position ok))
        ∙ ap₂ (λ a d. cond (a && not d) (suc (holding l i (r % T))) (holding l i (r % T)))
        (ap (λ q. from_on w q (r % T)) now.current_is ∙ from_on-is now t r (current-in-window ok t) w-r)
        (ap (λ q. from_on w q (r % T)) (sym at_p) ∙ from_on-is now s r w-s w-r)

    up : (a : Bool) (z : ℕ) → z ≤ cond a (suc z) z
    up true z = omega arith
    up false z = omega arith

    unchanged : (a d : Bool) (z : ℕ) → d ≡ true → z ≡ cond (a && not d) (suc z) z
    unchanged true true z e = refl
    unchanged false true z e = refl
    unchanged a false z e = let no : ◌≡◌ {A = ℕ} 0 1 = cc in absurd (omega arith)

    ahead-flow : CloseFlow P t (later_of (slot_after P t p) (b i)) (flow k i) (with_held (flow l i) (held_until l i p))
    ahead-flow = record {
      frame = (c.flows i known).frame;
      remainder = (c.flows i known).remainder;
      number = (c.flows i known).number;
      no_less = λ r w-r le.
          let more = up (leb t r && not (leb s r)) (holding l i (r % T)) in
          let less = (c.flows i known).no_less r w-r le in
          rw (until-at r w-r) (omega arith);
      same_from = λ r w-r le from.
          let both = later-least (slot_after P t p) (b i) r from in
          (c.flows i known).same_from r w-r le both.1
          ∙ unchanged (leb t r) (leb s r) (holding l i (r % T)) (le-leb s r (subst (◌≤ r) slot_is both.0))
          ∙ sym (until-at r w-r);
    }

    ahead-close : Close P t (with_sent P t b i p) k (sent_ahead l i p)
    ahead-close = record {
      plan_first = refl;
      plan_second = refl;
      current = refl;
      owners = c.owners;
      flows = λ j known-j. each j known-j (ℕ_discrete j i);
      begun = λ j known-j. begun j known-j (eqb j i);
    }
      where
        each : (j : ℕ) → j < flow_count P → Dec (j ≡ i) → CloseFlow P t (with_sent P t b i p j) (flow k j) (flow (sent_ahead l i p) j)
        each j known-j (yes e) = rw (e, eq-eqb i i refl, flow-same l i (with_held (flow l i) (held_until l i p)) known) ahead-flow
        each j known-j (no d) = rw (ne_eqb j i d, flow-other l i (with_held (flow l i) (held_until l i p)) j known-j d) (c.flows j known-j)

        begun : (j : ℕ) → j < flow_count P → (e : Bool) → cond e (later_of (slot_after P t p) (b j)) (b j) < frame_start P t + T
        begun j known-j true = later-below (slot_after P t p) (b j) (frame_start P t + T) (subst (◌< frame_start P t + T) (sym slot_is) w-s.high) (c.begun j known-j)
        begun j known-j false = c.begun j known-j

  -- ---- a tick

  place : next_position base % P.slots ≡ suc t % P.slots
  place = ap (◌% P.slots) (next-position v) ∙ place-of-position ok (suc t)

  next-below : next_position base < T
  next-below = mod-lt _ (some-position ok)

  starts-go-on : frame_start P t ≤ frame_start P (suc t)
  starts-go-on = mul-le-mul_right P.slots (frames-go-on ok t)

  begun-on : (j : ℕ) → j < flow_count P → b j < frame_start P (suc t) + T
  begun-on j known = omega (arith, c.begun j known, starts-go-on)

  -- in the same frame
  in_frame : (suc t % P.slots ≡ 0 → ⊥)
      → Close P (suc t) b (with_mark (with_current k (next_position base)) false) (with_mark (with_current l (next_position base)) false)
  in_frame d = record {
    plan_first = refl;
    plan_second = refl;
    current = refl;
    owners = c.owners;
    flows = λ j known. record {
      frame = (c.flows j known).frame;
      remainder = (c.flows j known).remainder;
      number = (c.flows j known).number;
      no_less = λ s w-s le. (c.flows j known).no_less s (was s w-s) (omega arith);
      same_from = λ s w-s le. (c.flows j known).same_from s (was s w-s) (omega arith);
    };
    begun = begun-on;
  }
    where
      same : frame_of P (suc t) ≡ frame_of P t
      same = frame-stays ok t d

      was : (s : ℕ) → InWindow P (suc t) s → InWindow P t s
      was s w-s = record { low = rw same at w-s.low; high = rw same at w-s.high }

  -- at a frame change
  module _ (change : suc t % P.slots ≡ 0) where
    abbrev end : ℕ
    end = frame_start P t + T

    -- what a flow holds at a slot of the next window is what it held at one of this, not before it unless at the end
    carried : (m : Parts) (i : ℕ) (f : Flow) (s : ℕ) → InWindow P (suc t) s → s < end → get_or (carried_on (with base m) i f).held (s % T) 0 ≡ holding (with base m) i (s % T)
    carried m i f s w-s below = carried_on-at (with base m) i f (s % T) (mod-lt s (some-position ok)) ∙ rw (kept v change s w-s below) refl

    carried-last : (m : Parts) (i : ℕ) (f : Flow) (s : ℕ) → InWindow P (suc t) s → end ≤ s
        → get_or (carried_on (with base m) i f).held (s % T) 0 ≡ holding (with base m) i ((end - 1) % T)
    carried-last m i f s w-s above =
        carried_on-at (with base m) i f (s % T) (mod-lt s (some-position ok)) ∙ rw (added v change s w-s above, last_is now) refl

    left-same : (j : ℕ) → j < flow_count P → SamePlace (left_head k j) (left_head l j)
    left-same j known = rw (sym (c.flows j known).frame) (go (eqb (flow k j).injection (head w)))
      where
        go : (e : Bool) → SamePlace (cond e (moved_to (flow k j) (next w (head w)) (share k j)) (flow k j))
            (cond e (moved_to (flow l j) (next w (head w)) (share l j)) (flow l j))
        go true = record { frame = refl; remainder = refl; number = (c.flows j known).number }
        go false = record { frame = (c.flows j known).frame; remainder = (c.flows j known).remainder; number = (c.flows j known).number }

    carried-close : (j : ℕ) → j < flow_count P → CloseFlow P (suc t) (b j) (carried_on k j (left_head k j)) (carried_on l j (left_head l j))
    carried-close j known = record {
      frame = (left-same j known).frame;
      remainder = (left-same j known).remainder;
      number = (left-same j known).number;
      no_less = λ s w-s le. less s w-s le (dec_lt s end);
      same_from = λ s w-s le from. same s w-s le from (dec_lt s end);
    }
      where
        less : (s : ℕ) → InWindow P (suc t) s → suc t ≤ s → Dec (s < end)
            → get_or (carried_on k j (left_head k j)).held (s % T) 0 ≤ get_or (carried_on l j (left_head l j)).held (s % T) 0
        less s w-s le (yes below) =
            rw (carried x j (left_head k j) s w-s below, carried y j (left_head l j) s w-s below)
            ((c.flows j known).no_less s (before v change s w-s below) (omega arith))
        less s w-s le (no above) =
            rw (carried-last x j (left_head k j) s w-s (omega arith), carried-last y j (left_head l j) s w-s (omega arith))
            ((c.flows j known).no_less (end - 1) (last-in-window ok t) (omega (arith, (current-in-window ok t).high)))

        same : (s : ℕ) → InWindow P (suc t) s → suc t ≤ s → b j ≤ s → Dec (s < end)
            → get_or (carried_on k j (left_head k j)).held (s % T) 0 ≡ get_or (carried_on l j (left_head l j)).held (s % T) 0
        same s w-s le from (yes below) =
            carried x j (left_head k j) s w-s below
            ∙ (c.flows j known).same_from s (before v change s w-s below) (omega arith) from
            ∙ sym (carried y j (left_head l j) s w-s below)
        same s w-s le from (no above) =
            carried-last x j (left_head k j) s w-s (omega arith)
            ∙ (c.flows j known).same_from (end - 1) (last-in-window ok t) (omega (arith, (current-in-window ok t).high)) (omega (arith, c.begun j known))
            ∙ sym (carried-last y j (left_head l j) s w-s (omega arith))

    recycled-close : Close P (suc t) b (with_mark (with_current (recycled k) (next_position base)) false) (with_mark (with_current (recycled l) (next_position base)) false)
    unfolding recycled
    recycled-close = record {
      plan_first = refl;
      plan_second = refl;
      current = refl;
      owners = λ q below. owner-with_owners k _ q below ∙ ap (cond (in_head w q) none) (c.owners q below) ∙ sym (owner-with_owners l _ q below);
      flows = λ j known. rw (flow-with_flows k _ j known, flow-with_flows l _ j known) (carried-close j known);
      begun = begun-on;
    }

  tick-close : Close P (suc t) b (advanced k) (advanced l)
  unfolding advanced recycled
  tick-close = go (eqb (next_position base % P.slots) 0) refl
    where
      go : (e : Bool) → eqb (next_position base % P.slots) 0 ≡ e
          → Close P (suc t) b (with_mark (with_current (cond e (recycled k) k) (next_position base)) false)
          (with_mark (with_current (cond e (recycled l) l) (next_position base)) false)
      go true e = recycled-close (sym place ∙ eqb-true (next_position base % P.slots) 0 e)
      go false e = in_frame (λ z. eqb-false (next_position base % P.slots) 0 e (place ∙ z))

  ticks-alike : ((tick k).answer ≡ (tick l).answer) × Close P (suc t) b (tick k).link (tick l).link
  unfolding tick
  ticks-alike = (tick-close.owners (next_position base) next-below, tick-close)

-- ---- for any two links that are close

module _ {P : Plan} {k l : Link} {L : Ledger} {b : ℕ → ℕ} (v : Invariant k L) (c : Close P L.now b k l) where
  open L use {now as t}

  of-both : (X : Plan → Link → Link → Type 0)
      → ((base : Link) (x y : Parts) → Invariant (with base x) L → Close base.plan t b (with base x) (with base y) → X base.plan (with base x) (with base y))
      → X P k l
  of-both X all =
      by-base (λ Q m n. Invariant m L → Close Q t b m n → X Q m n) all P k l c.plan_first c.plan_second c.current v c

  pub close-credit : (i p : ℕ) → RefusedToo (credit k i p).answer (credit l i p).answer
      → AcceptedToo (credit k i p).answer (credit l i p).answer × Close P t b (credit k i p).link (credit l i p).link
  close-credit i p =
      of-both
      (λ Q m n. RefusedToo (credit m i p).answer (credit n i p).answer
      → AcceptedToo (credit m i p).answer (credit n i p).answer × Close Q t b (credit m i p).link (credit n i p).link)
      (λ base x y v c. credit-close base x y v c i p)

  pub close-lend : (i : ℕ) → i < flow_count k.plan → Close P t b (lent_to k i) (lent_to l i)
  close-lend i = of-both (λ Q m n. i < flow_count m.plan → Close Q t b (lent_to m i) (lent_to n i)) (λ base x y v c known. lent-close base x y v c known)

  pub close-ahead : (i p : ℕ) → i < flow_count l.plan → p < positions l.plan → passed (window l) p ≡ false
      → Close P t (with_sent P t b i p) k (sent_ahead l i p)
  close-ahead i p =
      of-both
      (λ Q m n. i < flow_count n.plan → p < positions n.plan → passed (window n) p ≡ false → Close Q t (with_sent Q t b i p) m (sent_ahead n i p))
      (λ base x y v c known below to_come. ahead-close base x y v c known below to_come)

  pub close-tick : ((tick k).answer ≡ (tick l).answer) × Close P (suc t) b (tick k).link (tick l).link
  close-tick =
      of-both (λ Q m n. ((tick m).answer ≡ (tick n).answer) × Close Q (suc t) b (tick m).link (tick n).link) (λ base x y v c. ticks-alike base x y v c)
