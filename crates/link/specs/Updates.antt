-- A flow and a link with something changed, and the rest left: a flow or a link that was there before is written out nowhere else. Assumes nothing.
use Rattle.std.specs.Prelude.{ℕ, List, Bool, cond, get_or, set, eqb}
use Rattle.link.specs.declared.Flow.{Flow}
use Rattle.link.specs.Parts.{Parts}
use Rattle.plan.specs.declared.Plan.{Plan}
use Rattle.plan.specs.Reading.{no_entry}
use Rattle.window.specs.Ranges.{in_range, replaced}
use Rattle.tables.specs.Rows.{with_row}
use Rattle.link.specs.Layout.{FlowRow, flow_row}
use Rattle.model.specs.Request.{next_number}

-- ---- a flow

-- another frame and another remainder
abbrev pub moved_to : Flow → ℕ → ℕ → Flow
moved_to f j c = record { injection = j; remainder = c; number = f.number }

-- another number
abbrev pub with_number : Flow → ℕ → Flow
with_number f k = record { injection = f.injection; remainder = f.remainder; number = k }

-- after a grant: another frame and another remainder, and the next number
abbrev pub granted_in : Flow → ℕ → ℕ → Flow
granted_in f j c = with_number (moved_to f j c) (next_number f.number)

-- a flow that was in the head frame goes on in the next one, with its share
abbrev pub left_head : (head on share : ℕ) → Flow → Flow
left_head head on share f = cond (eqb f.injection head) (moved_to f on share) f

-- each of the plan's flows that was in the head frame
abbrev pub left_heads : Plan → (head on : ℕ) → List Flow → List Flow
left_heads plan head on = replaced (in_range 0 plan.count) (λ i f. left_head head on (get_or plan.entries i no_entry).share f)

-- other holdings
abbrev pub with_held : FlowRow → List ℕ → FlowRow
with_held x h = flow_row x.flow h

-- ---- a link

-- another current position, other owners with their words, other flows and holdings, and another mark; the flow to lend from stays
abbrev pub link_with : Parts → (current : ℕ) (owner unbooked : List ℕ) (flows : List Flow) (held : List ℕ) (marked : Bool) → Parts
link_with l p o u fs h t = record { plan = l.plan; current = p; owner = o; unbooked = u; flows = fs; held = h; marked = t; turn = l.turn }

abbrev pub with_current : Parts → ℕ → Parts
with_current l p = link_with l p l.owner l.unbooked l.flows l.held l.marked

abbrev pub with_owners : Parts → (owner unbooked : List ℕ) → Parts
with_owners l o u = link_with l l.current o u l.flows l.held l.marked

abbrev pub with_flows : Parts → List Flow → Parts
with_flows l fs = link_with l l.current l.owner l.unbooked fs l.held l.marked

abbrev pub with_holdings : Parts → List ℕ → Parts
with_holdings l h = link_with l l.current l.owner l.unbooked l.flows h l.marked

abbrev pub with_mark : Parts → Bool → Parts
with_mark l t = link_with l l.current l.owner l.unbooked l.flows l.held t

-- another flow to lend from
abbrev pub with_turn : Parts → ℕ → Parts
with_turn l i = record { plan = l.plan; current = l.current; owner = l.owner; unbooked = l.unbooked; flows = l.flows; held = l.held; marked = l.marked; turn = i }

-- another flow i, with its row
abbrev pub with_flow : Parts → ℕ → FlowRow → Parts
with_flow l i x = with_holdings (with_flows l (set l.flows i x.flow)) (with_row l.held i x.held)
