-- What a board keeps at a crossing, tile by tile and flow by flow. Assumes nothing.
use Prim.Native.Nat.{ℕ, zero, suc, ◌-◌, ◌≤◌, ◌<◌}
use mathlib.Core.Path.{◌≡◌, refl, sym, ap, ◌∙◌, subst}
use mathlib.Core.List.{List, ◌∷◌}
use mathlib.Core.Option.{Option, some, none}
use mathlib.Core.Bool.{false}
use native.Mathlib.Decide.{ℕ_discrete}
use native.Mathlib.Omega.{arith}
use lib.ListN.{get_or, length, length-set}
use lib.Seq.{get_or-set_same, get_or-set_other}
use Rattle.model.specs.Word.{flow_of, departure_of}
use Rattle.model.specs.Plan.{Plan, positions, Accepted}
use Rattle.model.specs.Calls.{Call, Grant, CreditAnswer, History, requested, credited, accepted, refused}
use Rattle.model.specs.Scheduler.{reference, step}
use Rattle.model.specs.History.{ticks, slot_after, has_come, grants}
use Rattle.model.specs.Claim.{Each, AtRequest}
use Rattle.arrival.specs.AcceptedCredits.{IsAccepted}
use Rattle.model.specs.TwoHops.{InStep}
use Rattle.arrival.specs.SeveralLinks.{slots_of}
use Rattle.crossings.specs.Crossing.{Crossing, waits, asking, answer_for, asked_for, leaves, on_grant, pass_on}
use Rattle.crossings.specs.Claim.{AsksNow, Onward, refused_then}
use Rattle.crossings.proofs.OneLink.{Reached, reached-more, known, credits-by-holding, granted-position}
use Rattle.crossings.proofs.OneLink.{granted_later}
use Rattle.crossings.proofs.Kept.{same-arriving, same-leaving, FlowKept, Kept, by-leaving, same_slot}
use Rattle.crossings.proofs.Kept.{gives_back}
use Rattle.crossings.proofs.Kept.{credit-dated, grant-slot, credit-came, ticks-credited, ticks-requested, AskedAs, asks-so, refused-more}
use Rattle.crossings.proofs.Kept.{refused-now}

module _ {P Q : Plan} {onward : List (Option ℕ)} (ok-P : Accepted P) (ok-Q : Accepted Q) (in_step : InStep P Q) (goes_on : Onward P Q onward) where
  -- ---- one tile

  module _ {extra : ℕ → ℕ} {x : Crossing} (k : Kept P Q onward extra x) (i j : ℕ) (goes : get_or onward i none ≡ some j) where
    abbrev w : ℕ
    w = asking x.leaving.state j

    abbrev h₁ : History
    h₁ = x.arriving.history

    abbrev h₂ : History
    h₂ = x.leaving.history

    asked : AskedAs Q j w h₂
    asked = asks-so j (known ok-Q k.leaving) ok-Q (goes_on.known i j goes).1

    -- other flows go on as others
    other-flow : (i' j' : ℕ) → get_or onward i' none ≡ some j' → (i' ≡ i → ⊥) → flow_of w ≡ j' → ⊥
    other-flow i' j' goes' d e = d (goes_on.apart i' i j' goes' (goes ∙ ap some (sym asked.flow ∙ e)))

    same_out : (j' : ℕ) → get_or onward i none ≡ some j' → j ≡ j'
    same_out j' goes' = same_some (sym goes ∙ goes')
      where
        same_some : some j ≡ some j' → j ≡ j'
        same_some e = cc

    asks_of : (i' j' : ℕ) → get_or onward i' none ≡ some j' → flow_of w ≡ j' → AsksNow Q j' w h₂
    asks_of i' j' goes' e = subst (λ m. AsksNow Q m w h₂) (sym asked.flow ∙ e) asked.now

    -- it is refused
    pub tile-refused : (r : ℕ) → answer_for j x ≡ refused r → Kept P Q onward extra (asked_for j x)
    tile-refused r e =
        by-leaving k (requested w (refused r)) (step reference x.leaving (Call.request w)) (ap (λ a. requested w a ∷ h₂) e)
        (reached-more (Call.request w) k.leaving) (ticks-requested w (refused r) h₂) (λ i' j' goes'. (tt, asks_of i' j' goes'))

    -- it is granted
    module _ (some-wait : 0 < waits x i) (v : ℕ) (e : answer_for j x ≡ accepted v) where
      abbrev p : ℕ
      p = departure_of v

      abbrev y : Crossing
      y = leaves i p (asked_for j x)

      abbrev receipt : CreditAnswer
      receipt = (reference.credit x.arriving.state i p).1

      out_is : y.leaving.history ≡ requested w (accepted v) ∷ h₂
      out_is = ap (λ a. requested w a ∷ h₂) e

      reached-out : Reached Q (record { state = y.leaving.state; history = requested w (accepted v) ∷ h₂ })
      reached-out = subst (λ h. Reached Q (record { state = y.leaving.state; history = h })) out_is (reached-more (Call.request w) k.leaving)

      below : p < positions Q
      below = granted-position ok-Q {r = record { state = y.leaving.state; history = h₂ }} w v reached-out

      later : has_come Q (ticks h₂) p ≡ false
      later = granted_later ok-Q {r = record { state = y.leaving.state; history = h₂ }} w v reached-out

      is-accepted : IsAccepted receipt
      is-accepted = (credits-by-holding ok-P (reached-more (Call.credit i p) k.arriving)).0.1
          (gives_back ok-P ok-Q in_step goes_on k i j goes some-wait p below later)

      few : i < length x.waiting
      few = omega (arith, k.long, (goes_on.known i j goes).0, ok-P.flows_most)

      its-flow : (j' : ℕ) → get_or onward i none ≡ some j' → FlowKept P Q i j' (extra i) y
      its-flow j' goes' =
          let f = k.flows i j' goes' in
          let at = asked.flow ∙ same_out j' goes' in
          let out = ap (λ h. slots_of j' (grants Q h)) out_is ∙ grant-slot Q j' w v h₂ at in
          let same = same_slot in_step (ticks h₁) p ∙ ap (λ n. slot_after Q n p) k.in_step in
          record {
            all_accepted = ((λ z. is-accepted), f.all_accepted);
            dated = credit-dated P i p receipt h₁ is-accepted ∙ (λ m. same m ∷ f.dated m) ∙ sym out;
            none_lost =
                omega (
                  arith,
                  credit-came P i i p receipt h₁,
                  f.none_lost,
                  ap length out,
                  get_or-set_same x.waiting i (waits x i - 1) 0 few,
                );
            asks_now = subst (Each (AtRequest (λ w h. flow_of w ≡ j' → AsksNow Q j' w h))) (sym out_is) (asks_of i j' goes', f.asks_now);
          }

      another-flow : (i' j' : ℕ) → get_or onward i' none ≡ some j' → (i' ≡ i → ⊥) → FlowKept P Q i' j' (extra i') y
      another-flow i' j' goes' d =
          let f = k.flows i' j' goes' in
          let a = same-arriving P i' (credited i p receipt) h₁ (λ z. d (sym z)) in
          let out = ap (λ h. slots_of j' (grants Q h)) out_is ∙ (same-leaving Q j' (requested w (accepted v)) h₂ (other-flow i' j' goes' d)).dated in
          record {
            all_accepted = (a.all_accepted, f.all_accepted);
            dated = a.dated ∙ f.dated ∙ sym out;
            none_lost =
                omega (
                  arith,
                  credit-came P i' i p receipt h₁,
                  f.none_lost,
                  ap length out,
                  get_or-set_other x.waiting i i' (waits x i - 1) 0 d,
                );
            asks_now = subst (Each (AtRequest (λ w h. flow_of w ≡ j' → AsksNow Q j' w h))) (sym out_is) (asks_of i' j' goes', f.asks_now);
          }

      pub tile-granted : Kept P Q onward extra y
      tile-granted = record {
        arriving = reached-more (Call.credit i p) k.arriving;
        leaving = reached-more (Call.request w) k.leaving;
        in_step = ticks-credited i p receipt h₁ ∙ k.in_step ∙ sym (ap ticks out_is ∙ ticks-requested w (accepted v) h₂);
        onward_is = k.onward_is;
        long = length-set x.waiting i (waits x i - 1) ∙ k.long;
        flows = λ i' j' goes'. go i' j' goes' (ℕ_discrete i' i);
      }
        where
          go : (i' j' : ℕ) → get_or onward i' none ≡ some j' → Dec (i' ≡ i) → FlowKept P Q i' j' (extra i') y
          go i' j' goes' (yes z) = subst (λ n. get_or onward n none ≡ some j' → FlowKept P Q n j' (extra n) y) (sym z) (its-flow j') goes'
          go i' j' goes' (no d) = another-flow i' j' goes' d

      pub one_fewer : waits y i ≡ waits x i - 1
      one_fewer = get_or-set_same x.waiting i (waits x i - 1) 0 few

  -- ---- the tiles of one flow

  -- where tiles of flow i wait, one was refused in the current slot
  abbrev pub Tried : (i j : ℕ) → Crossing → Type 0
  Tried i j x = 0 < waits x i → 0 < refused_then Q j (ticks x.leaving.history) x.leaving.history

  -- y comes of x by tiles of flow i that are asked for
  pub record PassedOn (extra : ℕ → ℕ) (i : ℕ) (x y : Crossing) : Type 0 where
    pub kept : Kept P Q onward extra y
    pub others_wait : (i' : ℕ) → (i' ≡ i → ⊥) → waits y i' ≡ waits x i'
    pub same_time : ticks y.leaving.history ≡ ticks x.leaving.history
    pub refused_still : (j' t : ℕ) → refused_then Q j' t x.leaving.history ≤ refused_then Q j' t y.leaving.history

  -- what was tried of another flow stays so
  pub tried-still : {extra : ℕ → ℕ} {i : ℕ} {x y : Crossing} → PassedOn extra i x y → (i' j' : ℕ) → (i' ≡ i → ⊥) → Tried i' j' x → Tried i' j' y
  tried-still {x = x} {y} z i' j' d tried some-wait =
      let before = tried (omega (arith, z.others_wait i' d)) in
      let then : 0 < refused_then Q j' (ticks x.leaving.history) y.leaving.history = omega
      (arith, before, z.refused_still j' (ticks x.leaving.history)) in
      subst (λ t. 0 < refused_then Q j' t y.leaving.history) (sym z.same_time) then

  pub passed_none : {extra : ℕ → ℕ} {x : Crossing} (i : ℕ) → Kept P Q onward extra x → PassedOn extra i x x
  passed_none i k = record { kept = k; others_wait = λ i' d. refl; same_time = refl; refused_still = λ j' t. omega arith }

  pub pass_on_lem : {extra : ℕ → ℕ} (n i j : ℕ) → get_or onward i none ≡ some j → (x : Crossing) → Kept P Q onward extra x → n ≡ waits x i
      → PassedOn extra i x (pass_on n i j x) × Tried i j (pass_on n i j x)
  unfolding pass_on
  pass_on_lem zero i j goes x k all = (passed_none i k, λ some-wait. absurd (omega arith))
  pass_on_lem {extra} (suc n) i j goes x k all = go (λ y kept same. pass_on_lem n i j goes y kept same) (answer_for j x) refl
    where
      Again : Type 0
      Again = (y : Crossing) → Kept P Q onward extra y → n ≡ waits y i → PassedOn extra i y (pass_on n i j y) × Tried i j (pass_on n i j y)

      w : ℕ
      w = asking x.leaving.state j

      h₂ : History
      h₂ = x.leaving.history

      granted : Again → (v : ℕ) → answer_for j x ≡ accepted v
          → (let y = pass_on n i j (leaves i (departure_of v) (asked_for j x)) in PassedOn extra i x y × Tried i j y)
      granted again v e =
          let (z, tried) = again _ (tile-granted k i j goes (omega arith) v e) (omega (arith, one_fewer k i j goes (omega arith) v e)) in (
            record {
              kept = z.kept;
              others_wait = λ i' d. z.others_wait i' d ∙ get_or-set_other x.waiting i i' (waits x i - 1) 0 d;
              same_time = z.same_time ∙ ticks-requested w (answer_for j x) h₂;
              refused_still = λ j' t. omega (arith, refused-more Q j' t (requested w (answer_for j x)) h₂, z.refused_still j' t);
            },
            tried,
          )

      refused-one : (r : ℕ) → answer_for j x ≡ refused r → PassedOn extra i x (asked_for j x) × Tried i j (asked_for j x)
      refused-one r e = (
        record {
          kept = tile-refused k i j goes r e;
          others_wait = λ i' d. refl;
          same_time = ticks-requested w (answer_for j x) h₂;
          refused_still = λ j' t. refused-more Q j' t (requested w (answer_for j x)) h₂;
        },
        λ some-wait.
            subst (λ t. 0 < refused_then Q j t (requested w (answer_for j x) ∷ h₂)) (sym (ticks-requested w (answer_for j x) h₂))
            (subst (λ a. 0 < refused_then Q j (ticks h₂) (requested w a ∷ h₂)) (sym e)
            (refused-now Q j w r h₂ (asked k i j goes).well (asked k i j goes).flow)),
      )

      go : Again → (a : Grant) → answer_for j x ≡ a
          → PassedOn extra i x (on_grant i a (pass_on n i j) (asked_for j x)) × Tried i j (on_grant i a (pass_on n i j) (asked_for j x))
      go again (accepted v) e = granted again v e
      go again (refused r) e = refused-one r e
