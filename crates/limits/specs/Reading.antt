-- A plan as asked for, read as the model's. Assumes nothing.
use Rattle.std.specs.Prelude.{get_or}
use Rattle.limits.specs.declared.Wanted.{Wanted}
use Rattle.limits.specs.declared.Draft.{Draft}
use Rattle.model.specs.Tables.{table}
use Rattle.model.specs.Plan as model

abbrev pub wanted_for : Wanted → model.Entry
wanted_for e = record { share = e.share; cells = e.cells; source = e.source; destination = e.destination }

abbrev pub no_wanted : Wanted
no_wanted = record { share = 0; cells = 0; source = 0; destination = 0 }

-- the plan of the first n entries: what stands past them has no effect
abbrev pub draft_for : Draft → model.Plan
draft_for d = record { slots = d.slots; frames = d.frames; buffer = d.buffer; entries = table d.count (λ i. wanted_for (get_or d.entries i no_wanted)) }
