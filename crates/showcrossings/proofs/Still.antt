-- A crossing's part of a slot but for the tile of one stream that comes in it: what its events leave as it is. Assumes nothing.
use Prim.Native.Nat.{ℕ, zero, suc, ◌+◌, ◌-◌, min}
use mathlib.Core.Path.{◌≡◌, refl, sym, ap, ◌∙◌, subst}
use mathlib.Core.List.{List, ◌∷◌}
use mathlib.Core.Option.{Option, some, none}
use mathlib.Core.Bool.{Bool, true, false, not, true≢false, cond}
use native.Mathlib.Decide.{ℕ_discrete}
use lib.Dec.{eqb}
use lib.ListN.{get_or, length}
use lib.Seq.{get_or-set_other}
use borrow.Author.Tests.{eq-eqb}
use Rattle.model.specs.Word.{flow_of, departure_of}
use Rattle.model.specs.Plan.{Plan, Accepted}
use Rattle.model.specs.Calls.{Call, Grant, Event, History, requested, credited, ticked, lent, accepted, refused}
use Rattle.model.specs.Scheduler.{reference, step}
use Rattle.model.specs.TwoHops.{InStep}
use Rattle.model.proofs.Tests.{any-hit}
use Rattle.crossings.specs.Crossing.{Crossing, crossing_with, goes_on_as, waits, with_waiting, asking, answer_for, asked_for, leaves, on_grant, pass_on, pass_as}
use Rattle.crossings.specs.Crossing.{pass_flow}
use Rattle.crossings.specs.Crossing.{pass_waiting, queued, comes}
use Rattle.crossings.specs.Playing.{Other, is_flow, is_none, goes_onto, theirs_arriving, theirs_leaving, others}
use Rattle.crossings.specs.Claim.{Onward}
use Rattle.crossings.proofs.OneLink.{Reached, reached-more, known}
use Rattle.crossings.proofs.Kept.{NotGiven, asks-so}
use Rattle.crossings.proofs.Crosses.{listed}
use Rattle.showcrossings.proofs.States.{others_keep}

-- it is no tick, and no request of flow j
abbrev pub NoAsk : ℕ → Event → Type 0
NoAsk j (requested w a) = flow_of w ≡ j → ⊥
NoAsk j (credited k p a) = Unit {0}
NoAsk j (ticked x) = ⊥
NoAsk j (lent m a) = Unit {0}
NoAsk j (Event.reset a) = Unit {0}

-- Flow i goes on as flow j; what holds of the events of both links goes on where no cell of flow i is credited, and nothing is asked for flow j.
module _ {P Q : Plan} {onward : List (Option ℕ)} (ok-P : Accepted P) (ok-Q : Accepted Q) (in_step : InStep P Q) (goes_on : Onward P Q onward) (i j : ℕ)
    (goes : get_or onward i none ≡ some j) (R : History → History → Type 0)
    (first : (e : Event) → NotGiven i e → (h₁ h₂ : History) → R h₁ h₂ → R (e ∷ h₁) h₂)
    (second : (e : Event) → NoAsk j e → (h₁ h₂ : History) → R h₁ h₂ → R h₁ (e ∷ h₂)) where
  pub record Still (x : Crossing) : Type 0 where
    pub reached₁ : Reached P x.arriving
    pub reached₂ : Reached Q x.leaving
    pub onward_is : x.onward ≡ onward
    pub none_waits : waits x i ≡ 0
    pub holds : R x.arriving.history x.leaving.history

  -- ---- another flow's tiles

  module _ (i' j' : ℕ) (goes' : get_or onward i' none ≡ some j') (d : i' ≡ i → ⊥) where
    other_word : (x : Crossing) → Still x → flow_of (asking x.leaving.state j') ≡ j → ⊥
    other_word x z e =
        let asked = asks-so j' (known ok-Q z.reached₂) ok-Q (goes_on.known i' j' goes').1 in
        d (goes_on.apart i' i j (goes' ∙ ap some (sym asked.flow ∙ e)) goes)

    asked-still : (x : Crossing) → Still x → Still (asked_for j' x)
    asked-still x z = record {
      reached₁ = z.reached₁;
      reached₂ = reached-more (Call.request (asking x.leaving.state j')) z.reached₂;
      onward_is = z.onward_is;
      none_waits = z.none_waits;
      holds = second (requested (asking x.leaving.state j') (answer_for j' x)) (other_word x z) x.arriving.history x.leaving.history z.holds;
    }

    counted-still : (k : ℕ) (x : Crossing) → Still x → Still (with_waiting x i' k)
    counted-still k x z = record {
      reached₁ = z.reached₁;
      reached₂ = z.reached₂;
      onward_is = z.onward_is;
      none_waits = get_or-set_other x.waiting i' i k 0 (λ e. d (sym e)) ∙ z.none_waits;
      holds = z.holds;
    }

    left-still : (p : ℕ) (x : Crossing) → Still x → Still (leaves i' p x)
    left-still p x z = record {
      reached₁ = reached-more (Call.credit i' p) z.reached₁;
      reached₂ = z.reached₂;
      onward_is = z.onward_is;
      none_waits = get_or-set_other x.waiting i' i (waits x i' - 1) 0 (λ e. d (sym e)) ∙ z.none_waits;
      holds = first (credited i' p (reference.credit x.arriving.state i' p).1) d x.arriving.history x.leaving.history z.holds;
    }

    pass-still : (k : ℕ) (x : Crossing) → Still x → Still (pass_on k i' j' x)
    unfolding pass_on
    pass-still zero x z = z
    pass-still (suc k) x z = go (answer_for j' x) (λ y. pass-still k y)
      where
        go : (a : Grant) → ((y : Crossing) → Still y → Still (pass_on k i' j' y)) → Still (on_grant i' a (pass_on k i' j') (asked_for j' x))
        go (accepted v) rest = rest _ (left-still (departure_of v) (asked_for j' x) (asked-still x z))
        go (refused r) rest = asked-still x z

    comes-there : (x : Crossing) → Still x → Still (comes (some j') i' x)
    comes-there x z = go (eqb (waits x i') 0)
      where
        one_more : Still (queued i' x)
        one_more = counted-still (min (waits x i' + 1) 255) x z

        go : (b : Bool) → Still (cond b (pass_on 1 i' j' (queued i' x)) (queued i' x))
        go true = pass-still 1 (queued i' x) one_more
        go false = one_more

  -- ---- flow by flow: of flow i none waits

  none_passed : (n : ℕ) (x : Crossing) → Still x → (o : Option ℕ) (k : ℕ) → k ≡ 0 → Still (pass_as o k n x)
  unfolding pass_on
  none_passed n x z none k e = z
  none_passed n x z (some m) k e = rw e z

  flow-still : (n : ℕ) (x : Crossing) → Still x → Still (pass_flow n x)
  flow-still n x z = subst (λ o. Still (pass_as (get_or o n none) (waits x n) n x)) (sym z.onward_is) (go (ℕ_discrete n i) (get_or onward n none) refl)
    where
      go : Dec (n ≡ i) → (o : Option ℕ) → get_or onward n none ≡ o → Still (pass_as o (waits x n) n x)
      go (yes same) o e = none_passed n x z o (waits x n) (ap (waits x) same ∙ z.none_waits)
      go (no other) none e = z
      go (no other) (some m) e = pass-still n m e other (waits x n) x z

  pub waiting-still : (n : ℕ) (x : Crossing) → Still x → Still (pass_waiting n x)
  unfolding pass_waiting
  waiting-still zero x z = z
  waiting-still (suc n) x z = flow-still n (pass_waiting n x) (waiting-still n x z)

  -- another flow's tile comes
  pub comes-still : (n : ℕ) → (n ≡ i → ⊥) → (x : Crossing) → Still x → Still (comes (goes_on_as x n) n x)
  comes-still n other x z = subst (λ o. Still (comes (get_or o n none) n x)) (sym z.onward_is) (go (get_or onward n none) refl)
    where
      go : (o : Option ℕ) → get_or onward n none ≡ o → Still (comes o n x)
      go none e = z
      go (some m) e = comes-there n m e other x z

  -- ---- calls of others

  not-credited : (x : Crossing) → Still x → (n : ℕ) → is_none (goes_on_as x n) ≡ true → n ≡ i → ⊥
  not-credited x z n theirs same =
      true≢false (sym theirs ∙ ap is_none (ap (goes_on_as x) same ∙ ap (λ o. get_or o i none) z.onward_is ∙ goes))

  not-asked : (x : Crossing) → Still x → (w : ℕ) → not (goes_onto x (flow_of w)) ≡ true → flow_of w ≡ j → ⊥
  not-asked x z w theirs same =
      let here = ap (λ o. get_or o i none) z.onward_is ∙ goes in
      let hit : is_flow (flow_of w) (goes_on_as x i) ≡ true = ap (is_flow (flow_of w)) here ∙ eq-eqb j (flow_of w) (sym same) in
      let all = any-hit (length x.onward) (λ n. is_flow (flow_of w) (goes_on_as x n)) i
      (rw z.onward_is (listed ok-P ok-Q in_step goes_on i j goes)) hit in
      true≢false (sym theirs ∙ ap not all)

  arriving-still : (c : Call) (x : Crossing) → theirs_arriving x c ≡ true → Still x
      → Still (crossing_with x (step reference x.arriving c) x.leaving x.waiting)
  arriving-still c x theirs z = record {
    reached₁ = reached-more c z.reached₁;
    reached₂ = z.reached₂;
    onward_is = z.onward_is;
    none_waits = z.none_waits;
    holds = one c theirs;
  }
    where
      one : (c : Call) → theirs_arriving x c ≡ true → R (step reference x.arriving c).history x.leaving.history
      one (Call.request w) e = first _ tt _ _ z.holds
      one (Call.credit n p) e = first _ (not-credited x z n e) _ _ z.holds
      one Call.tick e = absurd (true≢false (sym e))
      one (Call.lend m) e = first _ tt _ _ z.holds
      one Call.reset e = first _ tt _ _ z.holds

  leaving-still : (c : Call) (x : Crossing) → theirs_leaving x c ≡ true → Still x
      → Still (crossing_with x x.arriving (step reference x.leaving c) x.waiting)
  leaving-still c x theirs z = record {
    reached₁ = z.reached₁;
    reached₂ = reached-more c z.reached₂;
    onward_is = z.onward_is;
    none_waits = z.none_waits;
    holds = one c theirs;
  }
    where
      one : (c : Call) → theirs_leaving x c ≡ true → R x.arriving.history (step reference x.leaving c).history
      one (Call.request w) e = second _ (not-asked x z w e) _ _ z.holds
      one (Call.credit n p) e = second _ tt _ _ z.holds
      one Call.tick e = absurd (true≢false (sym e))
      one (Call.lend m) e = second _ tt _ _ z.holds
      one Call.reset e = second _ tt _ _ z.holds

  pub others-still : (os : List Other) (x : Crossing) → Still x → Still (others os x)
  others-still = others_keep {Keeps = Still} arriving-still leaving-still
