-- A flow at a frame change: one that was in the head frame goes on in the next one with its share, another one stays. Assumes nothing.
use Prim.Native.Nat.{ℕ, ◌<◌}
use mathlib.Core.Path.{◌≡◌, ap}
use native.Mathlib.Omega.{arith}
use lib.ListN.{get_or}
use borrow.Author.Tests.{eq-eqb, ne_eqb}
use Rattle.model.specs.Plan as reference
use Rattle.plan.specs.declared.Plan.{Plan}
use Rattle.plan.specs.Reading.{Valid, no_entry}
use Rattle.link.specs.declared.Flow.{Flow}
use Rattle.link.specs.Updates.{moved_to, left_head}
use Rattle.link.proofs.Plans.{plan-count, plan-entry}

-- flow k after it
abbrev pub flow_left : Plan → (head on : ℕ) → ℕ → Flow → Flow
flow_left plan head on k f = left_head head on (get_or plan.entries k no_entry).share f

module _ (plan : Plan) (head on k : ℕ) (f : Flow) where
  pub left-moved : f.injection ≡ head → moved_to f on (get_or plan.entries k no_entry).share ≡ flow_left plan head on k f
  left-moved e = rw (eq-eqb _ _ e)

  pub left-kept : (f.injection ≡ head → ⊥) → {g : Flow} → f ≡ g → flow_left plan head on k g ≡ g
  left-kept n e = rw (← e) (rw (ne_eqb _ _ n))

-- a share fits a byte
pub share-few : (plan : Plan) → Valid plan → (k : ℕ) → k < plan.count → (get_or plan.entries k no_entry).share < 256
share-few plan v k h =
    let fits = v.accepted.entries_fit k (rw (plan-count plan) h) in
    let most = rw (ap (λ (e : reference.Entry). e.share) (plan-entry plan k h)) at fits.share_most in
    omega (arith, v.accepted.slots_most)
