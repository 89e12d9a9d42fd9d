-- What is read of a link after an update. Assumes nothing.
use Prim.Native.Nat.{ℕ, ◌<◌}
use mathlib.Core.Path.{◌≡◌, refl, sym, ◌∙◌, subst}
use mathlib.Core.Option.{Option, none}
use mathlib.Core.Bool.{cond}
use native.Mathlib.Decide.{ℕ_discrete}
use lib.Dec.{eqb}
use lib.ListN.{get_or}
use borrow.Author.Tests.{eq-eqb, ne_eqb}
use Rattle.model.specs.Plan.{positions, flow_count}
use Rattle.model.specs.Window.{frame_at, head, last, from_on}
use Rattle.model.specs.Link.{Link, Flow, no_flow, window, owner, flow, holding, with_owners, with_flows, with_flow, held_from}
use Rattle.model.specs.Tick.{carried_on}
use Rattle.model.proofs.Tables.{get_d-table}

module _ (l : Link) where
  pub owner-with_owners : (f : ℕ → Option ℕ) (p : ℕ) → p < positions l.plan → owner (with_owners l f) p ≡ f p
  owner-with_owners f p h = get_d-table (positions l.plan) f p none h

  pub flow-with_flows : (f : ℕ → Flow) (i : ℕ) → i < flow_count l.plan → flow (with_flows l f) i ≡ f i
  flow-with_flows f i h = get_d-table (flow_count l.plan) f i no_flow h

  pub flow-same : (i : ℕ) (x : Flow) → i < flow_count l.plan → flow (with_flow l i x) i ≡ x
  flow-same i x h = flow-with_flows _ i h ∙ rw (eq-eqb i i refl)

  pub flow-other : (i : ℕ) (x : Flow) (j : ℕ) → j < flow_count l.plan → (j ≡ i → ⊥) → flow (with_flow l i x) j ≡ flow l j
  flow-other i x j h d = flow-with_flows _ j h ∙ rw (ne_eqb j i d)

  -- Q holds of every flow where flow i is x, if it holds of x and of the other flows.
  pub each_flow : (Q : ℕ → Flow → Type 0) (i : ℕ) (x : Flow) → Q i x → ((j : ℕ) → j < flow_count l.plan → (j ≡ i → ⊥) → Q j (flow l j))
      → (j : ℕ) → j < flow_count l.plan → Q j (flow (with_flow l i x) j)
  each_flow Q i x own others j h = go (ℕ_discrete j i)
    where
      go : Dec (j ≡ i) → Q j (flow (with_flow l i x) j)
      go (yes e) =
          subst (λ k. k < flow_count l.plan → Q k (flow (with_flow l i x) k)) (sym e)
          (λ h. subst (Q i) (sym (flow-same i x h)) own) h
      go (no d) = subst (Q j) (sym (flow-other i x j h d)) (others j h d)

  pub held_from-at : (i p : ℕ) (f : ℕ → ℕ) (q : ℕ) → q < positions l.plan
      → get_or (held_from l i p f) q 0 ≡ cond (from_on (window l) p q) (f (holding l i q)) (holding l i q)
  held_from-at i p f q h = get_d-table (positions l.plan) _ q 0 h

  pub carried_on-at : (i : ℕ) (x : Flow) (q : ℕ) → q < positions l.plan
      → get_or (carried_on l i x).held q 0 ≡ cond (eqb (frame_at (window l) q) (head (window l))) (holding l i (last (window l))) (holding l i q)
  carried_on-at i x q h = get_d-table (positions l.plan) _ q 0 h
