-- A link taken apart: its plan, and what is read of the parts of its state. Assumes nothing.
use Rattle.std.specs.Prelude.{ℕ, ◌+◌, ◌*◌, ◌/◌, ◌%◌, ◌<◌, List, ◌∷◌, [], Bool, not, get_or, eqb}
use Rattle.model.specs.Tables.{table}
use Rattle.plan.specs.declared.Plan.{Plan}
use Rattle.state.specs.Parts.{part, with_part}
use Rattle.state.specs.State.{held_of, owners_of, masks_of}
use Rattle.link.specs.declared.Flow.{Flow}

pub record Parts : Type 0 where
  pub plan : Plan
  pub current : ℕ
  pub owner : List ℕ
  pub unbooked : List ℕ
  pub flows : List Flow
  pub held : List ℕ
  pub marked : Bool
  pub turn : ℕ

-- ---- a flow in four bytes: its frame, its remainder, and its number, the low byte first

abbrev pub flow_from : List ℕ → Flow
flow_from xs = record { injection = get_or xs 0 0; remainder = get_or xs 1 0; number = get_or xs 2 0 + 256 * get_or xs 3 0 }

abbrev pub flow_bytes : Flow → List ℕ
flow_bytes f = f.injection ∷ f.remainder ∷ f.number % 256 ∷ f.number / 256 ∷ []

-- each of its numbers fits its bytes
pub record FitsBytes (f : Flow) : Type 0 where
  pub injection : f.injection < 256
  pub remainder : f.remainder < 256
  pub number : f.number < 65536

unfoldable pub flow_read : List ℕ → (i : ℕ) → Flow
flow_read s i = flow_from (part s (4416 + 4 * i) 4)

unfoldable pub with_flow_at : List ℕ → (i : ℕ) → Flow → List ℕ
with_flow_at s i f = with_part s (4416 + 4 * i) 4 (flow_bytes f)

unfoldable pub flows_of : List ℕ → List Flow
flows_of s = table 16 (flow_read s)

-- ---- the parts of a state

abbrev pub parts_in : Plan → List ℕ → Parts
parts_in p s = record {
  plan = p;
  current = get_or s 4496 0;
  owner = owners_of s;
  unbooked = masks_of s;
  flows = flows_of s;
  held = held_of s;
  marked = not (eqb (get_or s 4497 0) 0);
  turn = get_or s 4498 0;
}
