-- The parts of a link's image, from its plan and its state. Assumes nothing.
use Rattle.std.specs.Prelude.{ℕ}
use mathlib.Core.List.{List, ◌∷◌, [], ◌++◌, flat_map}
use Rattle.model.specs.Tables.{table}
use Rattle.model.specs.Plan.{Plan}
use Rattle.model.specs.Link.{Flow}
use Rattle.tables.specs.Rows.{row}
use Rattle.link.specs.Layout.{flow_row}
use Rattle.link.specs.Parts.{flow_read}
use Rattle.link.specs.Reading.{flow_of}
use Rattle.imagemodel.specs.Image.{fields, layout, flow_part}

-- the header's fields, with CP, the mark and the flow to look from
abbrev pub header_of : Plan → (current mark turn : ℕ) → List ℕ
header_of P current mark turn = layout P ++ (current ∷ mark ∷ turn ∷ [])

-- flow i of a state, with what it holds at the first T positions
abbrev pub flow_stored : (T : ℕ) → List ℕ → ℕ → Flow
flow_stored T s i = flow_of T (flow_row (flow_read s i) (row s i))

-- its part
abbrev pub part_of : (T : ℕ) → List ℕ → ℕ → List ℕ
part_of T s i = fields (flow_part (flow_stored T s i))

-- the parts of the first n flows
abbrev pub parts_of : (T : ℕ) → List ℕ → ℕ → List ℕ
parts_of T s n = fields (flat_map flow_part (table n (flow_stored T s)))
