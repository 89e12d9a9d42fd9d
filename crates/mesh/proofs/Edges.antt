-- Every edge of the mesh comes out as it stands in its table. Assumes nothing.
use mathlib.Core.Path.{refl}
use mathlib.Core.List.{◌++◌, flat_map}
use Rattle.model.specs.Tables.{any, sum}
use Rattle.model.specs.Refusals.{first_of}
use Rattle.mesh.specs.Mesh.{keep, some_of, links}
use Rattle.mesh.specs.Streams.{uses, load}
use Rattle.mesh.specs.Admission.{stream_fits, refusal_before_links, refusal, over_links}
use Rattle.mesh.specs.EdgeCases.{Passes}
use Rattle.mesh.specs.Edges.{asked_edges, link_edges}

pub edges-hold : Passes (asked_edges ++ link_edges)
unfolding any sum first_of flat_map keep some_of links uses load stream_fits refusal_before_links refusal over_links asked_edges link_edges
edges-hold = refl
