-- The tables of a link as they are read from an image with a layout. Assumes nothing.
use Rattle.std.specs.Prelude.{ℕ, ◌+◌, ◌*◌, ◌≡◌, List, cond, get_or, replicate, ltb}
use Rattle.model.specs.Plan.{field16}
use Rattle.window.specs.Ranges.{in_range, replaced}
use Rattle.state.specs.Parts.{Beside}
use Rattle.state.specs.State.{held_of}
use Rattle.tables.specs.Owners.{nobody, everywhere}
use Rattle.tables.specs.Rows.{rows_of}
use Rattle.link.specs.declared.Flow.{Flow}
use Rattle.link.specs.Layout.{no_flow}
use Rattle.imagemodel.specs.Image.{field_at}
use Rattle.imagecheck.specs.declared.layout.Layout.{Layout}

-- so many fields from a place on, as the first of a table, and one value after them
abbrev pub table_from : List ℕ → (at count spare : ℕ) → List ℕ
table_from b at count spare = replaced (in_range 0 count) (λ p x. field_at b at p) (everywhere spare)

abbrev pub owners_from : List ℕ → Layout → List ℕ
owners_from b y = table_from b y.positions y.size nobody

-- where the part of flow i stands
abbrev pub part_at : Layout → ℕ → ℕ
part_at y i = y.flows + 2 * (i * y.fields)

-- the injection frame, the remainder and, after T holdings, the expected number of a part at a place
abbrev pub flow_from : List ℕ → (T at : ℕ) → Flow
flow_from b T at = record { injection = field16 b at; remainder = field16 b (at + 2); number = field16 b (at + 4 + 2 * T) }

-- the first n of these flows
abbrev pub flows_over : List ℕ → Layout → List Flow → List Flow
flows_over b y = replaced (in_range 0 y.count) (λ i f. flow_from b y.size (part_at y i))

-- the first n of sixteen
abbrev pub flows_from : List ℕ → Layout → List Flow
flows_from b y = flows_over b y (replicate 16 no_flow)

-- what flow i holds
abbrev pub row_from : List ℕ → Layout → ℕ → List ℕ
row_from b y i = table_from b (part_at y i + 4) y.size 0

-- what each of the first n of sixteen flows holds; the others hold nothing
abbrev pub holding_from : List ℕ → Layout → (i p : ℕ) → ℕ
holding_from b y i p = cond (ltb i y.count) (get_or (row_from b y i) p 0) 0

unfoldable pub held_from : List ℕ → Layout → List ℕ
held_from b y = rows_of (holding_from b y)

-- what the flows hold is that, and nothing else changed
pub record HeldRead (b : List ℕ) (y : Layout) (before after : List ℕ) : Type 0 where
  pub held_is : held_of after ≡ held_from b y
  pub beside : Beside 0 4096 before after
