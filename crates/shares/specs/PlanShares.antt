-- The shares of a plan, one for each flow. Assumes nothing.
use Rattle.std.specs.Prelude.{ℕ, List, map}
use Rattle.model.specs.Plan.{Plan}

abbrev pub shares_in : Plan → List ℕ
shares_in P = map (λ e. e.share) P.entries
