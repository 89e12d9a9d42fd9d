-- The crate's types read as the model's, and the model's plan as it is stored. Assumes nothing.
use Rattle.std.specs.Prelude.{ℕ, ◌≤◌, ◌≡◌, Result, Ok, Err, List, length, get_or}
use Rattle.plan.specs.declared.Entry.{Entry}
use Rattle.plan.specs.declared.Plan.{Plan}
use Rattle.plan.specs.declared.header.Header.{Header}
use Rattle.limits.specs.declared.Wanted.{Wanted}
use Rattle.limits.specs.declared.Draft.{Draft}
use Rattle.limits.specs.declared.refusal.Refusal.{Refusal}
use Rattle.limits.specs.Refusals.{number}
use Rattle.model.specs.Tables.{table}
use Rattle.model.specs.Plan as model

-- ---- read as the model's

abbrev pub header_for : Header → model.Header
header_for h = record { total = h.total; count = h.count; offset = h.offset; slots = h.slots; frames = h.frames; buffer = h.buffer }

abbrev pub entry_for : Entry → model.Entry
entry_for e = record { share = e.share; cells = e.cells; source = e.source; destination = e.destination }

abbrev pub no_entry : Entry
no_entry = record { share = 0; cells = 0; source = 0; destination = 0 }

-- the plan of the first n entries
abbrev pub plan_for : Plan → model.Plan
plan_for p = record { slots = p.slots; frames = p.frames; buffer = p.buffer; entries = table p.count (λ i. entry_for (get_or p.entries i no_entry)) }

-- ---- the model's plan as it is stored

abbrev pub stored_entry : model.Entry → Entry
stored_entry e = record { share = e.share; cells = e.cells; source = e.source; destination = e.destination }

-- sixteen entries, all zero after those given
unfoldable pub stored_entries : List model.Entry → List Entry
stored_entries es = table 16 (λ i. stored_entry (get_or es i model.no_entry))

unfoldable pub stored : model.Plan → Plan
stored P = record { slots = P.slots; frames = P.frames; buffer = P.buffer; count = model.flow_count P; entries = stored_entries P.entries }

-- ---- a stored plan as it would be asked for

abbrev pub wanted_of : Entry → Wanted
wanted_of e = record { share = e.share; cells = e.cells; source = e.source; destination = e.destination }

unfoldable pub widened : List Entry → List Wanted
widened es = table 16 (λ i. wanted_of (get_or es i no_entry))

abbrev pub draft_of : Plan → Draft
draft_of p = record { slots = p.slots; frames = p.frames; buffer = p.buffer; count = p.count; entries = widened p.entries }

-- ---- what the reader answers

-- what a plan's bytes are read as: the plan where the model accepts it, and otherwise the refusal with the model's number
abbrev pub ReadAs : List ℕ → Result Plan Refusal → Type 0
ReadAs b (Ok plan) = (model.refusal b ≡ 0) × (plan ≡ stored (model.plan_of b))
ReadAs b (Err refusal) = model.refusal b ≡ number refusal

-- ---- a plan that the reader accepted

pub record Valid (p : Plan) : Type 0 where
  pub accepted : model.Accepted (plan_for p)
  pub long : length p.entries ≡ 16
  pub spare : (i : ℕ) → p.count ≤ i → get_or p.entries i no_entry ≡ no_entry
