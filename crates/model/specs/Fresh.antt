-- The fresh link. RULES 4.2. Assumes nothing.
use Rattle.std.specs.Prelude.{ℕ, false, replicate}
use Rattle.std.proofs.Math.Option.{none}
use Rattle.model.specs.Tables.{table}
use Rattle.model.specs.Plan.{Plan, positions, flow_count, entry}
use Rattle.model.specs.Link.{Link, Flow}

-- RULES 4.2: a flow in frame 0 with its whole share, which holds nothing
abbrev pub fresh_flow : Plan → ℕ → Flow
fresh_flow P i = record {
  injection = 0;
  remainder = (entry P i).share;
  held = replicate (positions P) 0;
  number = 0;  -- and its first word carries 0
}

-- RULES 4.2: nobody owns a position
unfoldable pub fresh : Plan → Link
fresh P = record {
  plan = P;
  current = 0;
  owners = replicate (positions P) none;
  flows = table (flow_count P) (fresh_flow P);
  marked = false;  -- the mark is off
  turn = 0;  -- flow 0 is looked at first
}
