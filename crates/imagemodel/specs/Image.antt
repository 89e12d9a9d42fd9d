-- The image of a link: its layout, a link as bytes, and bytes read as a link. RULES 12.1. Assumes nothing.
use Rattle.std.specs.Prelude.{ℕ, ◌+◌, ◌*◌, cond, length, take, drop, eqb}
use mathlib.Core.List.{List, ◌∷◌, [], ◌++◌, map, flat_map}
use Rattle.std.proofs.Math.Option.{Option, some, none}
use Rattle.model.specs.Tables.{table, bit}
use Rattle.model.specs.Plan.{Plan, positions, flow_count, field16, plan_of}
use Rattle.model.specs.Link.{Link, Flow}
use Rattle.model.specs.WrittenPlan.{field, bytes_of}

-- ---- fields (RULES 1.2)

-- numbers as fields, one after the other
unfoldable pub fields : List ℕ → List ℕ
fields xs = flat_map field xs

-- field k of those that begin at a place
abbrev pub field_at : List ℕ → (at k : ℕ) → ℕ
field_at b at k = field16 b (at + 2 * k)

-- ---- the table of the header's and each flow's own fields. One that is added comes last, here and where it is read.

-- RULES 12.1: CP, the mark, and the flow that the next lend looks from
abbrev pub state : List (Link → ℕ)
state =
    (λ l. l.current)
    ∷ (λ l. bit l.marked)
    ∷ (λ l. l.turn)
    ∷ []

-- RULES 12.1: a flow's part
abbrev pub flow_part : Flow → List ℕ
flow_part x = x.injection ∷ x.remainder ∷ (x.held ++ (x.number ∷ []))

-- how many fields that is
abbrev pub flow_fields : Plan → ℕ
flow_fields P = 3 + positions P

-- ---- the parts (RULES 12.1)

-- six fields that the plan gives, and the link's own
abbrev pub header_length : ℕ
header_length = 2 * (6 + length state)

-- RULES 12.1: where the positions' owners start, behind the plan; where the flows' parts do; and how long all is
abbrev pub positions_at : Plan → ℕ
positions_at P = header_length + (12 + 4 * flow_count P)

abbrev pub flows_at : Plan → ℕ
flows_at P = positions_at P + 2 * positions P

abbrev pub image_length : Plan → ℕ
image_length P = flows_at P + 2 * (flow_count P * flow_fields P)

-- ---- a link as bytes

-- RULES 12.1: the six fields of the header that the plan gives
abbrev pub layout : Plan → List ℕ
layout P = image_length P ∷ header_length ∷ positions_at P ∷ positions P ∷ flows_at P ∷ flow_count P ∷ []

abbrev pub header : Link → List ℕ
header l = layout l.plan ++ map (λ f. f l) state

-- RULES 12.1: an owner's field
abbrev pub owner_field : Option ℕ → ℕ
owner_field none = 16
owner_field (some i) = i

unfoldable pub image_of : Link → List ℕ
image_of l = fields (header l) ++ bytes_of l.plan ++ fields (map owner_field l.owners) ++ fields (flat_map flow_part l.flows)

-- ---- bytes read as a link

abbrev pub header_field : List ℕ → ℕ → ℕ
header_field b k = field_at b 0 k

-- line k of the table of the link's own
abbrev pub state_field : List ℕ → ℕ → ℕ
state_field b k = header_field b (6 + k)

-- the plan's bytes, as many as it states
abbrev pub plan_part : List ℕ → List ℕ
plan_part b = take (field16 b header_length) (drop header_length b)

abbrev pub plan_in : List ℕ → Plan
plan_in b = plan_of (plan_part b)

abbrev pub owner_in : ℕ → Option ℕ
owner_in x = cond (eqb x 16) none (some x)

-- field k of flow i's part
abbrev pub flow_field : List ℕ → Plan → (i k : ℕ) → ℕ
flow_field b P i k = field_at b (flows_at P) (i * flow_fields P + k)

abbrev pub flow_in : List ℕ → Plan → ℕ → Flow
flow_in b P i = record {
  injection = flow_field b P i 0;
  remainder = flow_field b P i 1;
  held = table (positions P) (λ p. flow_field b P i (2 + p));
  number = flow_field b P i (2 + positions P);
}

-- the link of plan P whose tables stand in b
abbrev pub link_from : List ℕ → Plan → Link
link_from b P = record {
  plan = P;
  current = state_field b 0;
  owners = table (positions P) (λ p. owner_in (field_at b (positions_at P) p));
  flows = table (flow_count P) (flow_in b P);
  marked = eqb (state_field b 1) 1;
  turn = state_field b 2;
}

unfoldable pub link_in : List ℕ → Link
link_in b = link_from b (plan_in b)
