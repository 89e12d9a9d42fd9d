-- The edges of shows, each by computing. Assumes nothing.
use mathlib.Core.Path.{refl}
use mathlib.Core.List.{flat_map}
use Rattle.model.specs.Tables.{any, sum}
use Rattle.model.specs.Refusals.{first_of}
use Rattle.model.specs.Plan.{entry_fits}
use Rattle.mesh.specs.Mesh.{keep, some_of, links}
use Rattle.mesh.specs.Streams.{uses, load}
use Rattle.mesh.specs.Admission as admission
use Rattle.show.specs.Show.{link_plan, used, first_number, refusal}
use Rattle.show.specs.Edges.{Passes, cases, FlowsAre, two_streams, some_links, some_flows}

pub edges : Passes cases
unfolding cases refusal first_number used link_plan admission.refusal admission.stream_fits keep some_of links uses load any sum first_of entry_fits flat_map
edges = refl

pub flow-edges : FlowsAre two_streams some_links some_flows
unfolding two_streams link_plan keep uses
flow-edges = refl
