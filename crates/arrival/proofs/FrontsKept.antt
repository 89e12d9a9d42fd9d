-- A credit, a tick, a lend and a reset keep what is known of a modest flow. Assumes nothing.
use Prim.Native.Nat.{ℕ, zero, suc, ◌+◌, ◌-◌, ◌%◌, ◌≤◌, ◌<◌}
use mathlib.Core.Path.{◌≡◌, refl, sym, ap, ◌∙◌}
use mathlib.Core.List.{[], ◌∷◌}
use mathlib.Core.Option.{Option, some, none}
use mathlib.Core.Bool.{Bool, true, false, cond}
use native.Mathlib.Nat.{mod-add-mod, zero-div, zero-mod}
use native.Mathlib.Decide.{dec_le, ℕ_discrete}
use native.Mathlib.Numerals.{add-one}
use native.Mathlib.Omega.{arith}
use lib.Dec.{eqb}
use borrow.Author.Tests.{eqb-false}
use Rattle.model.specs.Tables.{tally}
use Rattle.model.specs.Refusals.{first_of}
use Rattle.model.specs.Plan.{Plan, flow_count, Accepted}
use Rattle.model.specs.Calls.{TickAnswer, Event, History, ResetAnswer, credited, ticked, lent, accepted, refused}
use Rattle.model.specs.Window.{head, next}
use Rattle.model.specs.Link.{Link, Step, window, flow, share, moved_to, with_held, held_from}
use Rattle.model.specs.Fresh.{fresh}
use Rattle.model.specs.Credit.{credit_tests, lowered, credit_after, credit}
use Rattle.model.specs.Tick.{advanced, tick}
use Rattle.model.specs.Lend.{lend_tests, lent_to, first_in_turn, lent_after, lend_after, lend}
use Rattle.model.specs.Reset.{quiet, from_head, reset_link, reset}
use Rattle.model.specs.History.{ticks, frame_of, grants_since}
use Rattle.arrival.specs.Delay.{current_frame, due_since}
use Rattle.model.proofs.Round.{mod-unique}
use Rattle.model.proofs.Slots.{some-frame, frame-stays, frame_changes}
use Rattle.model.proofs.Window.{head_is}
use Rattle.model.proofs.LinkUpdates.{flow-with_flows, each_flow}
use Rattle.model.proofs.Invariant.{Ledger, Injects, Invariant}
use Rattle.model.proofs.FreshKeeps.{fresh-flow}
use Rattle.model.proofs.TickKeeps.{advances}
use Rattle.model.proofs.ResetTests.{granted, not_granted, reset-is}
use Rattle.model.proofs.AfterHistory.{After}
use Rattle.arrival.proofs.Fronts.{Front, Near, front-near, front_same, Kept}

-- ---- a credit and a lend leave every injection frame

credit-leaves : (l : Link) (i p q : ℕ) → q < flow_count l.plan → (flow (credit l i p).link q).injection ≡ (flow l q).injection
unfolding credit credit_after lowered
credit-leaves l i p q known = go (first_of (credit_tests l i p))
  where
    go : (r : ℕ) → (flow (credit_after r l i p).link q).injection ≡ (flow l q).injection
    go zero = each_flow l (λ k x. x.injection ≡ (flow l k).injection) i (with_held (flow l i) (held_from l i p (λ x. x - 1))) refl (λ k below d. refl) q known
    go (suc r) = refl

lend-leaves : (l : Link) (mask q : ℕ) → q < flow_count l.plan → (flow (lend l mask).link q).injection ≡ (flow l q).injection
unfolding lend lend_after lent_after lent_to
lend-leaves l mask q known = go (first_of (lend_tests l mask))
  where
    taken : (o : Option ℕ) → (flow (lent_after l o).link q).injection ≡ (flow l q).injection
    taken none = refl
    taken (some k) =
        each_flow l (λ k x. x.injection ≡ (flow l k).injection) (k % flow_count l.plan)
        (with_held (flow l (k % flow_count l.plan)) (held_from l (k % flow_count l.plan) l.current suc)) refl (λ k below d. refl) q known

    go : (r : ℕ) → (flow (lend_after r l mask).link q).injection ≡ (flow l q).injection
    go zero = taken (first_in_turn l mask)
    go (suc r) = refl

-- ---- at a frame change an injection frame stays, or becomes the new head

module _ {l : Link} {L : Ledger} (v : Invariant l L) (change : suc L.now % l.plan.slots ≡ 0) {q : ℕ} (known : q < flow_count l.plan) where
  open l use {plan as P}
  open P use {frames as W}
  open L use {now as t}
  open v.current use {accepted as ok}

  injects-at-change : (b : ℕ) → (v.injects q known).frame ≤ b → suc (frame_of P t) ≤ b
      → (a : ℕ) → frame_of P (suc t) ≤ a → a < frame_of P (suc t) + W → (flow (advanced l) q).injection ≡ a % W → a ≤ b
  injects-at-change b old new a low high e =
      go (eqb (flow l q).injection (head (window l))) refl (sym ((advances v).injections_at_change change q known) ∙ e)
    where
      f : Injects P (frame_of P t) L.grants q (flow l q)
      f = v.injects q known

      step : frame_of P (suc t) ≡ suc (frame_of P t)
      step = frame_changes ok t change

      go : (b' : Bool) → eqb (flow l q).injection (head (window l)) ≡ b'
          → (cond b' (moved_to (flow l q) (next (window l) (head (window l))) (share l q)) (flow l q)).injection ≡ a % W → a ≤ b
      go true at_head e =
          let some = some-frame ok in
          let next-head : next (window l) (head (window l)) ≡ suc (frame_of P t) % W =
          ap (λ x. (x + 1) % W) (head_is v.current) ∙ mod-add-mod (frame_of P t) W 1 ∙ ap (◌% W) (add-one (frame_of P t)) in
          let z : suc (frame_of P t) ≡ a =
          mod-unique some {b = suc (frame_of P t)} (omega arith) (omega arith) (omega (arith, step)) (omega (arith, step)) (sym next-head ∙ e) in
          omega arith
      go false elsewhere e =
          let differ : f.frame ≡ frame_of P t → ⊥ =
          λ z. eqb-false (flow l q).injection (head (window l)) elsewhere (f.injection_is ∙ ap (◌% W) z ∙ sym (head_is v.current)) in
          let z : f.frame ≡ a =
          mod-unique (some-frame ok) {b = suc (frame_of P t)} (omega (arith, f.low)) (omega (arith, f.high)) (omega (arith, step)) (omega (arith, step))
          (sym f.injection_is ∙ e) in
          omega arith

module _ {l : Link} {h : History} (g : After l.plan l h) {q : ℕ} (known : q < flow_count l.plan) where
  open l use {plan as P}
  open g use {invariant as v}
  open v.current use {accepted as ok}

  -- ---- the tick

  front-ticked : (x : TickAnswer) → Front P q (flow l q).injection h → Front P q (flow (advanced l) q).injection (ticked x ∷ h)
  unfolding ticks grants_since due_since
  front-ticked x y = go (ℕ_discrete (suc (ticks h) % P.slots) 0)
    where
      now : ℕ
      now = frame_of P (suc (ticks h))

      go : Dec (suc (ticks h) % P.slots ≡ 0) → Front P q (flow (advanced l) q).injection (ticked x ∷ h)
      go (no same) =
          let stays : now ≡ current_frame P h = frame-stays ok (ticks h) same in
          let same-injection = ap (λ z. z.injection) ((advances v).flows_in_frame same q) in
          record {
            front = y.front;
            from_now = omega (arith, y.from_now);
            last_due = λ f low none. y.last_due f (omega arith) none;
            injects_by = λ a low high e. y.injects_by a (omega arith) (omega arith) (sym same-injection ∙ e);
            booked_next = y.booked_next;
          }
      go (yes change) = at-change (dec_le now y.front)
        where
          step : now ≡ suc (current_frame P h)
          step = frame_changes ok (ticks h) change

          near : (n : ℕ) → y.front ≤ n → Near P q (v.injects q known).frame n h
          near = front-near y (v.injects q known)

          at-change : Dec (now ≤ y.front) → Front P q (flow (advanced l) q).injection (ticked x ∷ h)
          at-change (yes ahead) = record {
            front = y.front;
            from_now = ahead;
            last_due = λ f low none. y.last_due f (omega (arith, step)) none;
            injects_by = injects-at-change v change known (suc y.front) (near y.front (omega arith)).injects_by (omega (arith, step));
            booked_next = y.booked_next;
          }
          at-change (no behind) =
              let old = near y.front (omega arith) in
              record {
                front = now;
                from_now = omega arith;
                last_due = λ f low none. low;
                injects_by = injects-at-change v change known (suc now) (omega (arith, old.injects_by)) (omega (arith, step));
                booked_next = omega (arith, old.none_after (suc now) (omega arith));
              }

  pub tick-kept : Kept P h q (flow l q).injection → Kept P (ticked (tick l).answer ∷ h) q (flow (tick l).link q).injection
  unfolding tick due_since
  tick-kept kept m =
      let so_far = kept (record { asks = m.asks.1; within_share = m.within_share }) in
      record { front = front-ticked (tick l).answer so_far.front; served = (tt, so_far.served) }

  -- ---- the credit and the lend

  pub credit-kept : (i p : ℕ) → Kept P h q (flow l q).injection → Kept P (credited i p (credit l i p).answer ∷ h) q (flow (credit l i p).link q).injection
  unfolding ticks grants_since due_since
  credit-kept i p kept m =
      let so_far = kept (record { asks = m.asks.1; within_share = m.within_share }) in
      record { front = front_same P q refl refl refl (sym (credit-leaves l i p q known)) so_far.front; served = (tt, so_far.served) }

  pub refused-credit-kept : (i p r : ℕ) → Kept P h q (flow l q).injection → Kept P (credited i p (refused r) ∷ h) q (flow l q).injection
  unfolding ticks grants_since due_since
  refused-credit-kept i p r kept m =
      let so_far = kept (record { asks = m.asks.1; within_share = m.within_share }) in
      record { front = front_same P q refl refl refl refl so_far.front; served = (tt, so_far.served) }

  pub lend-kept : (mask : ℕ) → Kept P h q (flow l q).injection → Kept P (lent mask (lend l mask).answer ∷ h) q (flow (lend l mask).link q).injection
  unfolding ticks grants_since due_since
  lend-kept mask kept m =
      let so_far = kept (record { asks = m.asks.1; within_share = m.within_share }) in
      record { front = front_same P q refl refl refl (sym (lend-leaves l mask q known)) so_far.front; served = (tt, so_far.served) }

  -- ---- the reset

  front-reset : Front P q (flow (reset_link l) q).injection (Event.reset (accepted tt) ∷ h)
  unfolding ticks grants_since due_since tally reset_link
  front-reset = record {
    front = current_frame P h;
    from_now = omega arith;
    last_due = λ f low none. low;
    injects_by = λ a low high e.
        let at_head = ap (λ x. x.injection) (sym (flow-with_flows l (from_head l) q known)) ∙ e in
        let z : current_frame P h ≡ a =
        mod-unique (some-frame ok) {b = current_frame P h} (omega arith) (omega (arith, some-frame ok)) low high (sym (head_is v.current) ∙ at_head) in
        omega arith;
    booked_next = omega arith;
  }

  pub reset-kept : Kept P h q (flow l q).injection → Kept P (Event.reset (reset l).answer ∷ h) q (flow (reset l).link q).injection
  unfolding ticks grants_since due_since
  reset-kept kept = rw (reset-is l) (go (quiet l))
    where
      handed : Bool → Step ResetAnswer
      handed b = cond b (granted l) (not_granted l)

      go : (b : Bool) → Kept P (Event.reset (handed b).answer ∷ h) q (flow (handed b).link q).injection
      go true m = record { front = front-reset; served = tt }
      go false m =
          let so_far = kept (record { asks = m.asks.1; within_share = m.within_share }) in
          record { front = front_same P q refl refl refl refl so_far.front; served = (tt, so_far.served) }

-- ---- the fresh link

pub fresh_kept : {P : Plan} → Accepted P → (q : ℕ) → q < flow_count P → Kept P [] q (flow (fresh P) q).injection
unfolding ticks grants_since due_since tally
fresh_kept {P} ok q known m = record {
  front = record {
    front = frame_of P 0;
    from_now = omega arith;
    last_due = λ f low none. low;
    injects_by = λ a low high e.
        let at-0 : 0 ≡ a % P.frames = ap (λ x. x.injection) (sym (fresh-flow ok q known)) ∙ e in
        let begins = zero-div P.slots in
        let z : 0 ≡ a = mod-unique (some-frame ok) {b = 0} (omega arith) (omega (arith, some-frame ok)) (omega arith) (omega arith) (zero-mod P.frames ∙ at-0) in
        omega arith;
    booked_next = omega arith;
  };
  served = tt;
}
