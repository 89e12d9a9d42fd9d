-- The flows of a link while they are gathered. Assumes nothing.
use Rattle.std.specs.Prelude.{◌+◌, List, cond, length, get_or, set}
use Rattle.model.specs.Tables.{table}
use Rattle.model.specs.Plan as plan
use Rattle.limits.specs.declared.Wanted.{Wanted}
use Rattle.limits.specs.declared.Draft.{Draft}
use Rattle.mesh.specs.Mesh.{Link}
use Rattle.show.specs.declared.Dome.{Dome}
use Rattle.show.specs.Show.{ShowStream, uses_link, entry_on}

-- a flow as it is asked for
abbrev pub asked_for : plan.Entry → Wanted
asked_for e = record { share = e.share; cells = e.cells; source = e.source; destination = e.destination }

-- a plan with these flows as it is asked for: all are counted, and the first 16 stand in it
unfoldable pub draft_over : Dome → List plan.Entry → Draft
draft_over dome es = record {
  slots = dome.slots;
  frames = dome.frames;
  buffer = dome.buffer;
  count = length es;
  entries = table 16 (λ i. asked_for (get_or es i plan.no_entry));
}

-- one flow more
unfoldable pub added : Draft → Wanted → Draft
added d e = record { slots = d.slots; frames = d.frames; buffer = d.buffer; count = d.count + 1; entries = set d.entries d.count e }

-- a stream's flow more, where it uses the link
abbrev pub joined : Link → ShowStream → Draft → Draft
joined l s d = cond (uses_link l s) (added d (asked_for (entry_on l s))) d
