-- Every edge of the table comes out as expected. Assumes nothing.
use mathlib.Core.Path.{◌≡◌, refl, ap₂, ◌∙◌}
use mathlib.Core.List.{List, ◌∷◌, [], map}
use Rattle.model.specs.Tables.{any}
use Rattle.model.specs.Refusals.{first_of}
use Rattle.week.specs.Week.{keeps_limits, running, plan_at}
use Rattle.week.specs.Edges.{Case, Hold, edges}
use Rattle.week.proofs.ByEnds.{answer_by_ends, answered-by-ends}

by-ends : (cases : List Case) → map (λ c. plan_at c.entries c.minute) cases ≡ map (λ c. answer_by_ends c.entries c.minute) cases
by-ends [] = refl
by-ends (c ∷ rest) = ap₂ ◌∷◌ (answered-by-ends c.entries c.minute) (by-ends rest)

pub edges-hold : Hold edges
unfolding edges any first_of keeps_limits running
edges-hold = by-ends edges ∙ refl
