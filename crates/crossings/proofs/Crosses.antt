-- Our board crosses well: so after every slot, whatever the others ask. Assumes nothing.
use Prim.Native.Nat.{ℕ, zero, suc, ◌≤◌, ◌<◌}
use mathlib.Core.Path.{◌≡◌, refl, sym, ap, ◌∙◌, subst}
use mathlib.Core.List.{List, ◌∷◌, []}
use mathlib.Core.Option.{Option, some, none}
use mathlib.Core.Bool.{Bool, true, false, not, true≢false, cond}
use native.Mathlib.Decide.{dec_lt}
use native.Mathlib.Omega.{arith}
use lib.Dec.{leb}
use lib.ListN.{get_or, length, replicate, get_or-eq_default}
use borrow.Author.Tests.{eq-eqb}
use Rattle.model.specs.Tables.{bit, tally}
use Rattle.model.specs.Word.{flow_of}
use Rattle.model.specs.Plan.{Plan, plan_of, Accepted}
use Rattle.model.specs.Calls.{Call, Grant, requested, accepted, refused}
use Rattle.model.specs.Scheduler.{reference, step}
use Rattle.model.specs.History.{ticks, grants, credits}
use Rattle.model.specs.TwoHops.{InStep}
use Rattle.arrival.specs.SeveralLinks.{slots_of}
use Rattle.model.proofs.Tests.{any-hit}
use Rattle.model.proofs.Plan.{accepted as accepted_plan}
use Rattle.arrival.proofs.TileSlots.{count-slots}
use Rattle.crossings.specs.Crossing.{Crossing, crossing_with, goes_on_as, served}
use Rattle.crossings.specs.Playing.{Other, on_arriving, on_leaving, is_flow, is_none, goes_onto, theirs_arriving, theirs_leaving, another, others}
use Rattle.crossings.specs.Playing.{Slot, both_tick, tick_answer_of, in_slot, in_slots, begun}
use Rattle.crossings.specs.Claim.{Onward, refused_then, Crosses, CrossesWell}
use Rattle.crossings.proofs.OneLink.{reached-start, reached-more, within_held, up-to-slots, is_owner, tick-adds}
use Rattle.crossings.proofs.Kept.{NoGrant, Kept, by-arriving, by-leaving, ticks-requested, refused-more}
use Rattle.crossings.proofs.Tiles.{Tried}
use Rattle.crossings.proofs.Board.{Full, served-full}

-- ---- what others ask changes neither the tiles that wait nor the slot, and no refusal is taken back

pub zeros : (n i : ℕ) → ◌≡◌ {A = ℕ} (get_or (replicate n 0) i 0) 0
zeros zero i = refl
zeros (suc n) zero = refl
zeros (suc n) (suc i) = zeros n i

record Stays (Q : Plan) (x y : Crossing) : Type 0 where
  waiting : y.waiting ≡ x.waiting
  same_time : ticks y.leaving.history ≡ ticks x.leaving.history
  refused_still : (j t : ℕ) → refused_then Q j t x.leaving.history ≤ refused_then Q j t y.leaving.history

stays_same : {Q : Plan} (x : Crossing) → Stays Q x x
stays_same x = record { waiting = refl; same_time = refl; refused_still = λ j t. omega arith }

stays_then : {Q : Plan} {x y z : Crossing} → Stays Q x y → Stays Q y z → Stays Q x z
stays_then a b = record {
  waiting = b.waiting ∙ a.waiting;
  same_time = b.same_time ∙ a.same_time;
  refused_still = λ j t. omega (arith, a.refused_still j t, b.refused_still j t);
}

module _ {P Q : Plan} {onward : List (Option ℕ)} (ok-P : Accepted P) (ok-Q : Accepted Q) (in_step : InStep P Q) (goes_on : Onward P Q onward) where
  -- a flow that goes on here is one of the list
  pub listed : (i j : ℕ) → get_or onward i none ≡ some j → i < length onward
  listed i j goes = go (dec_lt i (length onward))
    where
      go : Dec (i < length onward) → i < length onward
      go (yes below) = below
      go (no past) =
          let none_there : get_or onward i none ≡ none = get_or-eq_default onward none {n = i} (omega arith) in
          let z : ◌≡◌ {A = ℕ} 1 0 = ap (λ (o : Option ℕ). bit (is_none o)) (sym none_there ∙ goes) in
          absurd (omega arith)

  module _ {extra : ℕ → ℕ} {x : Crossing} (k : Kept P Q onward extra x) where
    goes-here : (i j : ℕ) → get_or onward i none ≡ some j → goes_on_as x i ≡ some j
    goes-here i j goes = ap (λ o. get_or o i none) k.onward_is ∙ goes

    -- on the in-link
    arriving-kept : (c : Call) → theirs_arriving x c ≡ true
        → Kept P Q onward extra (crossing_with x (step reference x.arriving c) x.leaving x.waiting)
    unfolding ticks
    arriving-kept (Call.request w) e = by-arriving k _ _ refl (reached-more (Call.request w) k.arriving) refl (λ i j goes. tt)
    arriving-kept (Call.credit n p) e =
        by-arriving k _ _ refl (reached-more (Call.credit n p) k.arriving) refl
        (λ i j goes same. true≢false (sym e ∙ ap is_none (ap (goes_on_as x) same ∙ goes-here i j goes)))
    arriving-kept Call.tick e = absurd (true≢false (sym e))
    arriving-kept (Call.lend m) e = by-arriving k _ _ refl (reached-more (Call.lend m) k.arriving) refl (λ i j goes. tt)
    arriving-kept Call.reset e = by-arriving k _ _ refl (reached-more Call.reset k.arriving) refl (λ i j goes. tt)

    -- on the out-link
    not-theirs : (w : ℕ) → not (goes_onto x (flow_of w)) ≡ true → (i j : ℕ) → get_or onward i none ≡ some j → flow_of w ≡ j → ⊥
    not-theirs w e i j goes same =
        let here = goes-here i j goes in
        let hit : is_flow (flow_of w) (goes_on_as x i) ≡ true = ap (is_flow (flow_of w)) here ∙ eq-eqb j (flow_of w) (sym same) in
        let all = any-hit (length x.onward) (λ n. is_flow (flow_of w) (goes_on_as x n)) i (rw k.onward_is (listed i j goes)) hit in
        true≢false (sym e ∙ ap not all)

    request-kept : (w : ℕ) (a : Grant) → (reference.request x.leaving.state w).1 ≡ a → not (goes_onto x (flow_of w)) ≡ true
        → Kept P Q onward extra (crossing_with x x.arriving (step reference x.leaving (Call.request w)) x.waiting)
    request-kept w a is e =
        by-leaving k (requested w a) _ (ap (λ b. requested w b ∷ x.leaving.history) is) (reached-more (Call.request w) k.leaving)
        (ticks-requested w a _)
        (λ i j goes. (none-granted a i j goes, λ same. absurd (not-theirs w e i j goes same)))
      where
        none-granted : (a : Grant) (i j : ℕ) → get_or onward i none ≡ some j → NoGrant j (requested w a)
        none-granted (accepted v) i j goes = not-theirs w e i j goes
        none-granted (refused r) i j goes = tt

    leaving-kept : (c : Call) → theirs_leaving x c ≡ true
        → Kept P Q onward extra (crossing_with x x.arriving (step reference x.leaving c) x.waiting)
    unfolding ticks
    leaving-kept (Call.request w) e = request-kept w _ refl e
    leaving-kept (Call.credit n p) e = by-leaving k _ _ refl (reached-more (Call.credit n p) k.leaving) refl (λ i j goes. (tt, tt))
    leaving-kept Call.tick e = absurd (true≢false (sym e))
    leaving-kept (Call.lend m) e = by-leaving k _ _ refl (reached-more (Call.lend m) k.leaving) refl (λ i j goes. (tt, tt))
    leaving-kept Call.reset e = by-leaving k _ _ refl (reached-more Call.reset k.leaving) refl (λ i j goes. (tt, tt))

  leaving-stays : (x : Crossing) (c : Call) → theirs_leaving x c ≡ true
      → Stays Q x (crossing_with x x.arriving (step reference x.leaving c) x.waiting)
  unfolding ticks
  leaving-stays x (Call.request w) e = record { waiting = refl; same_time = refl; refused_still = λ j t. refused-more Q j t _ x.leaving.history }
  leaving-stays x (Call.credit n p) e = record { waiting = refl; same_time = refl; refused_still = λ j t. refused-more Q j t _ x.leaving.history }
  leaving-stays x Call.tick e = absurd (true≢false (sym e))
  leaving-stays x (Call.lend m) e = record { waiting = refl; same_time = refl; refused_still = λ j t. refused-more Q j t _ x.leaving.history }
  leaving-stays x Call.reset e = record { waiting = refl; same_time = refl; refused_still = λ j t. refused-more Q j t _ x.leaving.history }

  other-kept : {extra : ℕ → ℕ} (o : Other) (x : Crossing) → Kept P Q onward extra x → Kept P Q onward extra (another o x) × Stays Q x (another o x)
  other-kept {extra} (on_arriving c) x k = go (theirs_arriving x c) refl
    where
      go : (b : Bool) → theirs_arriving x c ≡ b
          → (let y = cond b (crossing_with x (step reference x.arriving c) x.leaving x.waiting) x in Kept P Q onward extra y × Stays Q x y)
      go true e = (arriving-kept k c e, record { waiting = refl; same_time = refl; refused_still = λ j t. omega arith })
      go false e = (k, stays_same x)
  other-kept {extra} (on_leaving c) x k = go (theirs_leaving x c) refl
    where
      go : (b : Bool) → theirs_leaving x c ≡ b
          → (let y = cond b (crossing_with x x.arriving (step reference x.leaving c) x.waiting) x in Kept P Q onward extra y × Stays Q x y)
      go true e = (leaving-kept k c e, leaving-stays x c e)
      go false e = (k, stays_same x)

  others-kept : {extra : ℕ → ℕ} (os : List Other) (x : Crossing) → Kept P Q onward extra x
      → Kept P Q onward extra (others os x) × Stays Q x (others os x)
  unfolding others
  others-kept [] x k = (k, stays_same x)
  others-kept (o ∷ os) x k =
      let (one, stays) = other-kept o x k in
      let (rest, then) = others-kept os (another o x) one in
      (rest, stays_then stays then)

  abbrev FullHere : Crossing → Type 0
  FullHere = Full ok-P ok-Q in_step goes_on

  -- what was tried stays so
  full-stays : {x y : Crossing} → ((i j : ℕ) → get_or onward i none ≡ some j → Tried ok-P ok-Q in_step goes_on i j x) → Kept P Q onward (λ i. 0) y
      → Stays Q x y → FullHere y
  full-stays {x} {y} tried kept stays = record {
    kept = kept;
    tried = λ i j goes some-wait.
        let t = ticks x.leaving.history in
        let before = tried i j goes (subst (λ ks. 0 < get_or ks i 0) stays.waiting some-wait) in
        let after : 0 < refused_then Q j t y.leaving.history = omega (arith, before, stays.refused_still j t) in
        subst (λ n. 0 < refused_then Q j n y.leaving.history) (sym stays.same_time) after;
  }

  pub others-full : (os : List Other) (x : Crossing) → FullHere x → FullHere (others os x)
  others-full os x z = let (kept, stays) = others-kept os x z.kept in full-stays z.tried kept stays

  -- ---- a slot

  tick-kept : (x : Crossing) → Kept P Q onward (λ i. 0) x → Kept P Q onward (λ i. bit (is_owner (tick_answer_of x) i)) (both_tick x)
  unfolding ticks grants credits
  tick-kept x k = record {
    arriving = reached-more Call.tick k.arriving;
    leaving = reached-more Call.tick k.leaving;
    in_step = ap suc k.in_step;
    onward_is = k.onward_is;
    long = k.long;
    flows = λ i j goes.
        let f = k.flows i j goes in
        record {
          all_accepted = (tt, f.all_accepted);
          dated = f.dated;
          none_lost = omega (arith, tick-adds ok-P k.arriving i, f.none_lost);
          asks_now = (tt, f.asks_now);
        };
  }

  -- the board's part of a slot, after the ticks and what others ask before it; and where they ask nothing
  pub part-full : (before : List Other) (x : Crossing) → FullHere x → FullHere (served (tick_answer_of x) (others before (both_tick x)))
  part-full before x z =
      let (kept, _) = others-kept before (both_tick x) (tick-kept x z.kept) in
      served-full ok-P ok-Q in_step goes_on (tick_answer_of x) (others before (both_tick x)) kept

  pub slot-alone-full : (x : Crossing) → FullHere x → FullHere (served (tick_answer_of x) (both_tick x))
  unfolding others
  slot-alone-full x z = part-full [] x z

  slot-full : (s : Slot) (x : Crossing) → FullHere x → FullHere (in_slot served s x)
  slot-full s x z = others-full s.after _ (part-full s.before x z)

  slots-full : (ss : List Slot) (x : Crossing) → FullHere x → FullHere (in_slots served ss x)
  unfolding in_slots
  slots-full [] x z = z
  slots-full (s ∷ ss) x z = slots-full ss (in_slot served s x) (slot-full s x z)

  pub begun-full : FullHere (begun P Q onward)
  unfolding ticks grants credits slots_of tally
  begun-full = record {
    kept = record {
      arriving = reached-start P;
      leaving = reached-start Q;
      in_step = refl;
      onward_is = refl;
      long = refl;
      flows = λ i j goes. record { all_accepted = tt; dated = refl; none_lost = omega (arith, zeros 16 i); asks_now = tt };
    };
    tried = λ i j goes some-wait. absurd (omega (arith, zeros 16 i, some-wait));
  }

  -- ---- what is claimed

  pub crosses : {x : Crossing} → FullHere x → (i j : ℕ) → get_or onward i none ≡ some j → Crosses P Q i j x
  crosses {x} z i j goes =
      let f = z.kept.flows i j goes in
      let h₁ = x.arriving.history in
      let h₂ = x.leaving.history in
      record {
        all_accepted = f.all_accepted;
        dated = f.dated;
        within_cells = λ s.
            omega (
              arith,
              within_held ok-P z.kept.arriving i (goes_on.known i j goes).0 s,
              up-to-slots i s (credits P h₁) ∙ ap (tally (λ t. leb t s)) f.dated ∙ sym (up-to-slots j s (grants Q h₂)),
            );
        none_lost = omega (arith, f.none_lost, count-slots j (grants Q h₂));
        asks_now = f.asks_now;
        waits_refused = z.tried i j goes;
      }

-- RULES 27.7 to 27.10: our board keeps all of it.
pub crosses-well : CrossesWell served
crosses-well first second passes₁ passes₂ in_step onward goes_on begin slots i j goes =
    let P = plan_of first in
    let Q = plan_of second in
    let ok-P = accepted_plan first passes₁ in
    let ok-Q = accepted_plan second passes₂ in
    let begun-so = others-full ok-P ok-Q in_step goes_on begin (begun P Q onward) (begun-full ok-P ok-Q in_step goes_on) in
    crosses ok-P ok-Q in_step goes_on (slots-full ok-P ok-Q in_step goes_on slots (others begin (begun P Q onward)) begun-so) i j goes
