-- What is known of a modest flow after a history: how far its injection frame has got, and how much it has booked there. Assumes nothing.
use Prim.Native.Nat.{ℕ, suc, ◌+◌, ◌%◌, ◌≤◌, ◌<◌}
use mathlib.Core.Path.{◌≡◌, sym, ◌∙◌}
use mathlib.Core.List.{◌∷◌}
use native.Mathlib.Decide.{ℕ_discrete}
use native.Mathlib.Omega.{arith}
use Rattle.model.specs.Word.{flow_of, departure_of}
use Rattle.model.specs.Plan.{Plan}
use Rattle.model.specs.Calls.{History, requested, accepted}
use Rattle.model.specs.History.{ticks, slot_after, grants_since, granted_in, in_frame}
use Rattle.model.specs.Claim.{EachSince}
use Rattle.arrival.specs.Delay.{current_frame, due_slot, grant_by, due_since, due_in, TimelyInOrder, Modest, ServedAt}
use Rattle.model.proofs.Tallies.{tally-append}
use Rattle.model.proofs.Marks.{mark, in-frame-other}
use Rattle.model.proofs.Invariant.{Injecting}

-- Flow i's front: the last frame in which a grant of it is due since the last granted reset, or the current one. Where j is its injection frame.
pub record Front (P : Plan) (i j : ℕ) (h : History) : Type 0 where
  pub front : ℕ
  pub from_now : current_frame P h ≤ front
  pub last_due : (f : ℕ) → current_frame P h ≤ f → ((g : ℕ) → f < g → due_in P h i g ≡ 0) → front ≤ f
  -- the injection frame is the one after it at the most
  pub injects_by : (a : ℕ) → current_frame P h ≤ a → a < current_frame P h + P.frames → j ≡ a % P.frames → a ≤ suc front
  -- and what is booked there is due in the front
  pub booked_next : granted_in P h i (suc front) ≤ due_in P h i front

-- the same of a frame n that is the front, or comes after it; `frame` is the injection frame, numbered on without end
pub record Near (P : Plan) (i frame n : ℕ) (h : History) : Type 0 where
  pub injects_by : frame ≤ suc n
  pub booked_next : granted_in P h i (suc n) ≤ due_in P h i n
  pub none_after : (f : ℕ) → suc n < f → granted_in P h i f ≡ 0

module _ {P : Plan} {i j c : ℕ} {h : History} (x : Front P i j h) (f : Injecting P (current_frame P h) (grants_since P h) i j c) where
  pub front-near : (n : ℕ) → x.front ≤ n → Near P i f.frame n h
  front-near n le = record { injects_by = omega (arith, by); booked_next = go (ℕ_discrete x.front n); none_after = λ g lt. f.spends.none_after g (omega (arith, by)) }
    where
      by : f.frame ≤ suc x.front
      by = x.injects_by f.frame f.low f.high f.injection_is

      go : Dec (x.front ≡ n) → granted_in P h i (suc n) ≤ due_in P h i n
      go (yes e) = rw (← e) x.booked_next
      go (no d) = omega (arith, f.spends.none_after (suc n) (omega (arith, by)))

-- the same counts, and the same injection frame
pub front_same : (P : Plan) (i : ℕ) {j k : ℕ} {h next : History} → ticks h ≡ ticks next → grants_since P h ≡ grants_since P next → due_since P h ≡ due_since P next
    → j ≡ k → Front P i j h → Front P i k next
front_same P i {j} {k} {h} {next} same_slot same_grants same-dues same-injection x = record {
  front = x.front;
  from_now = rw (← same_slot) x.from_now;
  last_due = λ f low none. x.last_due f (rw same_slot low) (λ g lt. rw same-dues (none g lt));
  injects_by = λ a low high e. x.injects_by a (rw same_slot low) (rw same_slot high) (same-injection ∙ e);
  booked_next = rw (← same_grants, ← same-dues) x.booked_next;
}

-- a modest flow has a front, and its requests were answered in time
pub record InFront (P : Plan) (h : History) (i j : ℕ) : Type 0 where
  pub front : Front P i j h
  pub served : EachSince (ServedAt P i) h

-- what is kept
abbrev pub Kept : Plan → History → (i j : ℕ) → Type 0
Kept P h i j = Modest TimelyInOrder 0 P i h → InFront P h i j

module _ (P : Plan) (w v : ℕ) (h : History) (i : ℕ) where
  -- a grant leaves a flow modest only if it was
  pub modest-before-grant : Modest TimelyInOrder 0 P i (requested w (accepted v) ∷ h) → Modest TimelyInOrder 0 P i h
  unfolding due_since
  modest-before-grant m = record {
    asks = m.asks.1;
    within_share = λ f. omega (arith, m.within_share f, tally-append (in_frame P i f) (grant_by (due_slot P) (requested w (accepted v)) h) (due_since P h));
  }

  -- another flow's grant leaves the front
  pub front-other : {j : ℕ} → (flow_of w ≡ i → ⊥) → Front P i j h → Front P i j (requested w (accepted v) ∷ h)
  unfolding ticks grants_since due_since
  front-other other x = record {
    front = x.front;
    from_now = x.from_now;
    last_due = λ f low none. x.last_due f low (λ g lt. sym (same-due g) ∙ none g lt);
    injects_by = x.injects_by;
    booked_next = omega (arith, x.booked_next, same-due x.front, in-frame-other P i (suc x.front) (mark (flow_of w) slot) (grants_since P h) other);
  }
    where
      slot : ℕ
      slot = slot_after P (ticks h) (departure_of v)

      same-due : (f : ℕ) → due_in P (requested w (accepted v) ∷ h) i f ≡ due_in P h i f
      same-due f = in-frame-other P i f (mark (flow_of w) (due_slot P w h)) (due_since P h) other
