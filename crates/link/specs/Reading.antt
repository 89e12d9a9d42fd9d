-- A link read as the model's: the first T positions, the first n flows; and the model's link as it is stored. Assumes nothing.
use Rattle.std.specs.Prelude.{ℕ, get_or}
use Rattle.std.proofs.Math.Option.{Option, some, none}
use Rattle.unbooked.specs.Words.{words_of}
use Rattle.tables.specs.Rows.{rows_of}
use Rattle.tables.specs.Owners.{nobody, owner_of, everywhere}
use Rattle.link.specs.declared.Flow.{Flow}
use Rattle.link.specs.Parts.{Parts}
use Rattle.link.specs.Layout.{FlowRow, size_of, no_flow, flow_row, flow_at, owner_at}
use Rattle.link.specs.Updates.{moved_to, with_number}
use Rattle.plan.specs.Reading as plan
use Rattle.model.specs.Tables.{table}
use Rattle.model.specs.Link as model
use Rattle.model.specs.Request.{unbooked}

-- ---- read as the model's

-- the holdings at the first T positions
abbrev pub flow_of : ℕ → FlowRow → model.Flow
flow_of T x = record {
  injection = x.flow.injection;
  remainder = x.flow.remainder;
  held = table T (λ p. get_or x.held p 0);
  number = x.flow.number;
}

unfoldable pub link_of : Parts → model.Link
link_of l = record {
  plan = plan.plan_for l.plan;
  current = l.current;
  owners = table (size_of l) (λ p. owner_of (owner_at l p));
  flows = table l.plan.count (λ i. flow_of (size_of l) (flow_at l i));
  marked = l.marked;
  turn = l.turn;
}

-- ---- the model's link as it is stored: 256 positions and 16 flows

-- what stands in the place of a flow that the plan does not have
abbrev pub spare_flow : FlowRow
spare_flow = flow_row no_flow (everywhere 0)

abbrev pub stored_owner : Option ℕ → ℕ
stored_owner none = nobody
stored_owner (some i) = i

abbrev pub stored_flow : model.Flow → Flow
stored_flow f = with_number (moved_to no_flow f.injection f.remainder) f.number

unfoldable pub stored : model.Link → Parts
stored m = record {
  plan = plan.stored m.plan;
  current = m.current;
  owner = table 256 (λ p. stored_owner (model.owner m p));
  unbooked = words_of m.plan.slots m.plan.frames (λ p. unbooked (model.owner m p));
  flows = table 16 (λ i. stored_flow (model.flow m i));
  held = rows_of (model.holding m);
  marked = m.marked;
  turn = m.turn;
}
