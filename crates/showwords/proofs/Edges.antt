-- Every edge of the word `show` comes out as expected. Assumes nothing.
use mathlib.Core.Path.{refl}
use mathlib.Core.List.{flat_map}
use Rattle.model.specs.Tables.{any, sum}
use Rattle.model.specs.Refusals.{first_of}
use Rattle.model.specs.Plan.{entry_fits}
use Rattle.model.specs.WrittenPlan.{bytes_of}
use Rattle.model.specs.Listing.{digits, decimal}
use Rattle.mesh.specs.Mesh.{keep, some_of, links}
use Rattle.mesh.specs.Streams.{uses, load}
use Rattle.mesh.specs.Admission as admission
use Rattle.replies.specs.Lines.{hex}
use Rattle.show.specs.Show.{link_plan, used, first_number, refusal}
use Rattle.showwords.specs.Answers.{link_line, link_lines, show_lines, answer_to_show}
use Rattle.showwords.specs.Edges.{Pass, edges}

pub edges-hold : Pass edges
unfolding any sum first_of entry_fits bytes_of digits decimal flat_map keep some_of links uses load admission.stream_fits admission.refusal hex link_plan used first_number refusal link_line link_lines show_lines answer_to_show edges
edges-hold = refl
