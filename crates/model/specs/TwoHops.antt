-- Two boards, one after the other. RULES 6.7 and 21.12. Assumes nothing.
use Rattle.std.specs.Prelude.{ℕ, ◌≤◌, ◌<◌, ◌≡◌, List, ◌∷◌, ◌++◌}
use Rattle.model.specs.Word.{departure_of}
use Rattle.model.specs.Plan.{Plan, plan_of, refusal}
use Rattle.model.specs.Calls.{Call, History, requested, accepted}
use Rattle.model.specs.History.{ticks, slot_after}
use Rattle.model.specs.Scheduler.{Scheduler, run}

-- RULES 6.7: two boards with equal F and W
pub record InStep (P Q : Plan) : Type 0 where
  pub slots : P.slots ≡ Q.slots
  pub frames : P.frames ≡ Q.frames

-- Among the events h a word w is answered with the word v, after the events of `early`.
pub record GrantedIn (h : History) (w v : ℕ) (early : History) : Type 0 where
  pub later : History
  pub is : h ≡ later ++ requested w (accepted v) ∷ early

-- the slot that v grants after them
abbrev pub sent_at : Plan → (early : History) → (v : ℕ) → ℕ
sent_at P early v = slot_after P (ticks early) (departure_of v)

-- The first board grants v₁, and then, or in the same slot, the second is asked with a word of that departure and grants another: the second slot comes
-- after the first. RULES 21.12.
abbrev pub LeavesAfter : (P Q : Plan) (h₁ h₂ : History) → Type 0
LeavesAfter P Q h₁ h₂ =
    (w₁ v₁ w₂ v₂ : ℕ) (early₁ early₂ : History) → GrantedIn h₁ w₁ v₁ early₁ → GrantedIn h₂ w₂ v₂ early₂
    → departure_of w₂ ≡ departure_of v₁ → ticks early₁ ≤ ticks early₂ → sent_at P early₁ v₁ < sent_at Q early₂ v₂

-- RULES 21.12: so on two boards with this scheduler, whatever else they are asked
abbrev pub LeavesAfterItCame : Scheduler → Type 0
LeavesAfterItCame c =
    (first second : List ℕ) → refusal first ≡ 0 → refusal second ≡ 0 → InStep (plan_of first) (plan_of second) → (calls₁ calls₂ : List Call)
    → LeavesAfter (plan_of first) (plan_of second) (run c (plan_of first) calls₁).history (run c (plan_of second) calls₂).history
