-- Flows that start in a frame with their share, as they are stored: those of a fresh link, and of one after a reset, which keep their numbers.
-- Assumes nothing.
use Rattle.std.specs.Prelude.{ℕ, List, get_or, replicate}
use Rattle.plan.specs.declared.Entry.{Entry}
use Rattle.plan.specs.Reading.{no_entry}
use Rattle.window.specs.Ranges.{in_range, replaced}
use Rattle.link.specs.declared.Flow.{Flow}
use Rattle.link.specs.Layout.{no_flow}
use Rattle.link.specs.Updates.{moved_to}

-- flows that the plan does not have
abbrev pub no_flows : List Flow
no_flows = replicate 16 no_flow

-- in frame j, with its share
abbrev pub started_flow : ℕ → Entry → Flow → Flow
started_flow j e f = moved_to f j e.share

-- the first n of these flows, by their entries
abbrev pub started_flows : (j : ℕ) → List Entry → (n : ℕ) → List Flow → List Flow
started_flows j entries n = replaced (in_range 0 n) (λ i. started_flow j (get_or entries i no_entry))
