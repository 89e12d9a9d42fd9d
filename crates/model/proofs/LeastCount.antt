-- What the least count needs: frames in which a flow has its whole share. Assumes nothing.
use Prim.Native.Nat.{ℕ, ◌+◌, ◌-◌, ◌%◌, ◌≤◌, ◌<◌}
use mathlib.Core.Path.{◌≡◌, ◌∙◌}
use mathlib.Core.List.{List, ◌∷◌}
use Rattle.model.specs.Plan.{Plan, entry}
use Rattle.model.specs.History.{Mark}
use Rattle.model.proofs.Marks.{marks_in, in-frame-other}

-- Flow i has its whole share in every frame after frame o and below n.
abbrev pub Full : Plan → ℕ → List Mark → ℕ → ℕ → Type 0
Full P o G i n = (f : ℕ) → o < f → f < n → marks_in P i f G ≡ (entry P i).share

-- Of a flow i that asks until it is refused, in frame k: its injection frame is j, and R f counts its refusals in frame f.
pub record Least (P : Plan) (k o : ℕ) (G : List Mark) (R : ℕ → ℕ) (i j : ℕ) : Type 0 where
  pub before_injection : (a : ℕ) → k ≤ a → a < k + P.frames → j ≡ a % P.frames → Full P o G i a
  pub after_a_change : o < k → Full P o G i (k + P.frames - 1)
  pub after_a_refusal : 0 < R k → Full P o G i (k + P.frames)

module _ {P : Plan} {k o : ℕ} {G : List Mark} {R : ℕ → ℕ} {i j : ℕ} (x : Least P k o G R i j) where
  -- the same counts of refusals
  pub least-recounted : (S : ℕ → ℕ) → ((f : ℕ) → S f ≡ R f) → Least P k o G S i j
  least-recounted S same = record {
    before_injection = x.before_injection;
    after_a_change = x.after_a_change;
    after_a_refusal = λ re. x.after_a_refusal (rw same at re);
  }

  -- a grant that changes no full frame
  pub least-granted : (m : Mark) → ((n : ℕ) → Full P o G i n → Full P o (m ∷ G) i n) → Least P k o (m ∷ G) R i j
  least-granted m kept = record {
    before_injection = λ a low high e. kept a (x.before_injection a low high e);
    after_a_change = λ since. kept (k + P.frames - 1) (x.after_a_change since);
    after_a_refusal = λ re. kept (k + P.frames) (x.after_a_refusal re);
  }

  -- a grant to another flow
  pub least_other : (m : Mark) → (m.flow ≡ i → ⊥) → Least P k o (m ∷ G) R i j
  least_other m other = least-granted m λ n full f since below. in-frame-other P i f m G other ∙ full f since below
