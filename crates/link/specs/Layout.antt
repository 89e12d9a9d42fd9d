-- The link as it is stored: what is read of its fields. Assumes nothing.
use Rattle.std.specs.Prelude.{ℕ, ◌*◌, List, get_or}
use Rattle.link.specs.declared.Flow.{Flow}
use Rattle.link.specs.Parts.{Parts}
use Rattle.tables.specs.Rows.{row}
use Rattle.plan.specs.declared.Entry.{Entry}
use Rattle.plan.specs.declared.Plan.{Plan}
use Rattle.plan.specs.Reading.{no_entry}

-- T
abbrev pub size_for : Plan → ℕ
size_for p = p.slots * p.frames

abbrev pub size_of : Parts → ℕ
size_of l = size_for l.plan

abbrev pub entry_at : Parts → ℕ → Entry
entry_at l i = get_or l.plan.entries i no_entry

abbrev pub owner_at : Parts → ℕ → ℕ
owner_at l p = get_or l.owner p 0

-- past the end of the flows
abbrev pub no_flow : Flow
no_flow = record { injection = 0; remainder = 0; number = 0 }

-- a flow with its row of the holdings: what it holds at each of 256 positions
pub record FlowRow : Type 0 where
  pub flow : Flow
  pub held : List ℕ

abbrev pub flow_row : Flow → List ℕ → FlowRow
flow_row f h = record { flow = f; held = h }

-- flow i of these flows and holdings
abbrev pub flow_in : List Flow → List ℕ → ℕ → FlowRow
flow_in flows held i = flow_row (get_or flows i no_flow) (row held i)

abbrev pub flow_at : Parts → ℕ → FlowRow
flow_at l = flow_in l.flows l.held
