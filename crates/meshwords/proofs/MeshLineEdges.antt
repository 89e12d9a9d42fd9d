-- Every edge of the words `mesh` and `mesh-over` comes out as expected. Assumes nothing.
use mathlib.Core.Path.{refl}
use mathlib.Core.List.{◌++◌, flat_map}
use Rattle.model.specs.Tables.{any, sum}
use Rattle.model.specs.Refusals.{first_of}
use Rattle.model.specs.Listing.{digits, decimal}
use Rattle.mesh.specs.Mesh.{keep, some_of, links}
use Rattle.mesh.specs.Streams.{uses, load}
use Rattle.mesh.specs.Admission.{stream_fits, refusal_before_links, refusal, over_links}
use Rattle.meshwords.specs.Answers.{mesh_answer, answer_to_mesh, answer_to_over}
use Rattle.meshwords.specs.MeshLineEdges.{Pass, either_line_edges, mesh_line_edges, over_line_edges}

pub mesh-lines-hold : Pass answer_to_mesh (either_line_edges ++ mesh_line_edges)
unfolding any sum first_of digits decimal flat_map keep some_of links uses load stream_fits refusal_before_links refusal over_links mesh_answer either_line_edges mesh_line_edges
mesh-lines-hold = refl

pub over-lines-hold : Pass answer_to_over (either_line_edges ++ over_line_edges)
unfolding any sum first_of digits decimal flat_map keep some_of links uses load stream_fits refusal_before_links refusal over_links mesh_answer either_line_edges over_line_edges
over-lines-hold = refl
