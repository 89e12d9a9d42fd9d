-- Every edge of the count comes out as it stands in its table. Assumes nothing.
use Prim.Native.Nat.{ℕ, ◌-◌, ◌^◌}
use mathlib.Core.Path.{◌≡◌, refl, ◌∙◌}
use mathlib.Core.List.{map}
use mathlib.Core.Bool.{cond}
use Rattle.model.specs.Calls.{Answer, accepted, refused}
use Rattle.shares.specs.Counts.{Counts, out_of_range, counted}
use Rattle.shares.specs.Binomial.{choose}
use Rattle.shares.specs.CountEdges.{Pass, count_edges}
use Rattle.shares.proofs.Binomial.{accepted-binomial, refused-binomial}

closed : (F n : ℕ) → Answer Counts
closed F n = cond (out_of_range F n) (refused 26) (accepted (record { accepts = choose F n; refuses = F ^ n - choose F n }))

closed-form : (F n : ℕ) → counted F n ≡ closed F n
unfolding counted closed
closed-form F n i = cond (out_of_range F n) (refused 26) (accepted (record { accepts = accepted-binomial F n i; refuses = refused-binomial F n i }))

pub count-edges-hold : Pass count_edges
unfolding count_edges closed choose
count-edges-hold = (λ i. map (λ e. closed-form e.slots e.flows i) count_edges) ∙ refl
