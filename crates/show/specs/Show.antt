-- A show over the mesh of boards: its streams with their cells, the plan of each link, and the refusal of the whole. RULES 25. Assumes nothing.
use Rattle.std.specs.Prelude.{ℕ, zero, suc, List, ◌∷◌, [], map, Bool, cond, length, take, get_or, eqb}
use Rattle.model.specs.Refusals.{first_of}
use Rattle.model.specs.Plan as plan
use Rattle.model.specs.WrittenPlan.{number_tests}
use Rattle.mesh.specs.Mesh.{Link, to, keep, some_of, links}
use Rattle.mesh.specs.Streams.{Stream, no_stream, uses}
use Rattle.mesh.specs.Admission as admission

-- ---- the show

-- a stream, with its places in the buffers on its way: those of each board but the last, and those of the last. RULES 25.1.
pub record ShowStream : Type 0 where
  pub stream : Stream
  pub cells : ℕ
  pub last_cells : ℕ

-- F, W and N, which hold for every link, and the streams. RULES 25.1.
pub record Show : Type 0 where
  pub slots : ℕ
  pub frames : ℕ
  pub buffer : ℕ
  pub streams : List ShowStream

-- the streams as the mesh knows them. RULES 16.2.
abbrev pub streams_in : Show → List Stream
streams_in show = map (λ s. s.stream) show.streams

abbrev pub no_show_stream : ShowStream
no_show_stream = record { stream = no_stream; cells = 0; last_cells = 0 }

-- stream i of the set
abbrev pub show_stream : Show → ℕ → ShowStream
show_stream show i = get_or show.streams i no_show_stream

-- ---- the plan of a link

-- whether a link is on a stream's way. RULES 16.2.
abbrev pub uses_link : Link → ShowStream → Bool
uses_link l s = uses s.stream l

-- a stream's cells on a link of its way: the link is the last where it leads to the destination. RULES 25.2.
abbrev pub cells_on : Link → ShowStream → ℕ
cells_on l s = cond (eqb (to l) s.stream.destination) s.last_cells s.cells

-- a stream as a flow of a link. RULES 25.2.
abbrev pub entry_on : Link → ShowStream → plan.Entry
entry_on l s = record { share = s.stream.share; cells = cells_on l s; source = s.stream.source; destination = s.stream.destination }

-- the streams that use a link, in the order of the set, as its flows. RULES 25.2.
abbrev pub flows_of : Link → List ShowStream → List plan.Entry
flows_of l streams = map (entry_on l) (keep (uses_link l) streams)

-- the plan of a link. RULES 25.2.
unfoldable pub link_plan : Show → Link → plan.Plan
link_plan show l = record { slots = show.slots; frames = show.frames; buffer = show.buffer; entries = flows_of l show.streams }

-- the flow number that stream i has on a link that it uses: how many streams before it use the link. RULES 25.2.
unfoldable pub flow_on : Show → Link → ℕ → ℕ
flow_on show l i = length (keep (uses_link l) (take i show.streams))

-- ---- the refusal

-- some stream uses the link. RULES 25.3.
unfoldable pub used : Show → Link → Bool
used show l = some_of (uses_link l) show.streams

-- the number of the first of tests 2 to 7 that applies to a link's plan, and 0 where none does. RULES 15.1.
abbrev pub plan_refusal : Show → Link → ℕ
plan_refusal show l = first_of (number_tests (link_plan show l))

-- the refusal of a link: 0 too where no stream uses it. RULES 25.3.
abbrev pub link_refusal : Show → Link → ℕ
link_refusal show l = cond (used show l) (plan_refusal show l) 0

-- the first number that is not 0, and 0 where there is none
unfoldable pub first_number : List ℕ → ℕ
first_number [] = 0
first_number (zero ∷ rest) = first_number rest
first_number (suc r ∷ rest) = suc r

-- the refusal of a show: the mesh's, and then that of the first link that has one, by from and then to node. RULES 25.3.
unfoldable pub refusal : Show → ℕ
refusal show = first_number (admission.refusal show.slots (streams_in show) ∷ map (link_refusal show) links)
