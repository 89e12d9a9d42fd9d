-- Demand 3 of the bytes that the program hands back to be written, however the input is cut into pieces. Assumes nothing.
use Prim.Native.Nat.{ℕ, ◌<◌}
use mathlib.Core.Path.{◌≡◌, ◌∙◌}
use mathlib.Core.List.{List, ◌++◌, flat_map, reverse}
use mathlib.Core.Bool.{false}
use lib.ListN.{take, drop}
use Rattle.model.specs.Plan.{flow_count, plan_of, refusal}
use Rattle.model.specs.Fresh.{fresh}
use Rattle.model.specs.Claim.{Demand3}
use Rattle.model.specs.Listing.{line_of, calls_of, outcomes, listing, plan_line, plan_length, plan_missing, output_after, output}
use Rattle.model.proofs.ListingMeets.{events_in, listing-meets}
use Rattle.program.specs.Promises.{joined, Runs}
use Rattle.program.proofs.Pieces.{cut-anyhow}

-- the plan of an input, and what comes after it
abbrev pub plan_in : List ℕ → List ℕ
plan_in input = take (plan_length input) input

abbrev pub records_in : List ℕ → List ℕ
records_in input = drop (plan_length input) input

-- The lines are `P 0` and those of the events of the records, and these events meet demand 3.
pub record WritesEvents (input lines : List ℕ) : Type 0 where
  pub lines_are : lines ≡ plan_line 0 ++ flat_map line_of (outcomes (fresh (plan_of (plan_in input))) (calls_of (records_in input)))
  pub events_meet : (i : ℕ) → i < flow_count (plan_of (plan_in input))
      → Demand3 (plan_of (plan_in input)) i (reverse (events_in (fresh (plan_of (plan_in input))) (records_in input)))

pub written-meets : {pieces : List (List ℕ)} {lines : List ℕ} → Runs pieces lines → plan_missing (joined pieces) ≡ false
    → refusal (plan_in (joined pieces)) ≡ 0 → WritesEvents (joined pieces) lines
unfolding output output_after listing
written-meets {pieces} r there accepted = record {
  lines_are = cut-anyhow r ∙ rw (there, accepted);
  events_meet = listing-meets (plan_in (joined pieces)) accepted (records_in (joined pieces));
}
