-- The fields with which the code asks for a tile are those of the model's word. Assumes nothing.
use Prim.Native.Nat.{ℕ, ◌<◌}
use mathlib.Core.Path.{◌≡◌, sym, ap, ◌∙◌}
use mathlib.Core.List.{List}
use native.Mathlib.Omega.{arith}
use lib.ListN.{get_or}
use borrow.Author.Tests.{lt-ltb}
use Rattle.model.specs.Word as word
use Rattle.model.specs.Plan as reference
use Rattle.model.specs.Link as model
use Rattle.model.specs.Window as seen
use Rattle.model.proofs.Word.{split-join}
use Rattle.plan.specs.declared.Plan.{Plan}
use Rattle.plan.specs.Reading.{no_entry}
use Rattle.word.specs.declared.Fields.{Fields}
use Rattle.word.specs.Reading.{fields_of}
use Rattle.window.specs.declared.Window.{Window}
use Rattle.link.specs.declared.Flow.{Flow}
use Rattle.link.specs.Parts.{Parts, parts_in, flow_read}
use Rattle.link.specs.Reading.{link_of}
use Rattle.link.specs.Steps.{read_in}
use Rattle.link.specs.Given.{StateIn, RequestIn, flow_or_zero}
use Rattle.link.proofs.Readings.{read-entry, read-flow, read_count, flows_most}
use Rattle.link.proofs.FlowBytes.{flows-at}
use Rattle.link.proofs.Given.{request-in}
use Rattle.crossings.specs.Crossing.{asking}

module _ {p : Plan} {w : Window} {s : List ℕ} (o : StateIn p w s) {j : ℕ} (below : j < p.count) where
  abbrev parts : Parts
  parts = parts_in p s

  pub flow-few : j < 16
  flow-few = omega (arith, below, flows_most parts o.sound.parts)

  pub current-few : w.current < 256
  current-few = omega (arith, o.proper.measures.current_below, o.proper.measures.positions_most)

  -- what is read of the state
  destination-is : (reference.entry (read_in p s).plan j).destination ≡ (get_or p.entries j no_entry).destination
  destination-is = ap (λ (e : reference.Entry). e.destination) (read-entry parts j below)

  number_is : (model.flow (read_in p s) j).number ≡ (flow_read s j).number
  number_is = ap (λ (f : model.Flow). f.number) (read-flow parts j below) ∙ ap (λ (f : Flow). f.number) (flows-at s j flow-few)

  current_is : (read_in p s).current ≡ w.current
  current_is = ap (λ (v : seen.Window). v.current) (sym o.window_is)

  pub number-few : (flow_read s j).number < 1024
  number-few = rw (← ap (λ (f : Flow). f.number) (flows-at s j flow-few)) (o.sound.parts.flows j below).number

  entry-fits : reference.FittingEntry (read_in p s).plan (reference.entry (read_in p s).plan j)
  unfolding link_of
  entry-fits = o.sound.parts.plan.accepted.entries_fit j (omega (arith, read_count parts))

  pub destination-few : (get_or p.entries j no_entry).destination < 64
  destination-few = omega (arith, destination-is, entry-fits.destination_most)

  -- the word's parts
  abbrev asked : Fields
  asked = record { destination = (get_or p.entries j no_entry).destination; flow = j; quantum = (flow_read s j).number; departure = w.current }

  fields_are : fields_of asked ≡ word.split (asking (read_in p s) j)
  fields_are =
      sym (split-join _ (record {
        destination = destination-few;
        flow = omega (arith, flow-few);
        quantum = number-few;
        departure = omega
            (arith, current-few);
      }))
      ∙ ap word.split (λ k. word.join (record {
        destination = sym destination-is k;
        flow = j;
        quantum = sym number_is k;
        departure = sym current_is k;
      }))

  in_place : j ≡ flow_or_zero p.count j
  in_place = rw (lt-ltb j p.count below)

  -- the request is one with this word, where the flow is the one that is read
  abbrev asked_by : Flow → Fields
  asked_by f = record { destination = (get_or p.entries j no_entry).destination; flow = j; quantum = f.number; departure = w.current }

  pub asked_in : {f : Flow} → f ≡ flow_read s j
      → RequestIn p p.count (get_or p.entries j no_entry) w (asked_by f) (asking (read_in p s) j) s
  asked_in {f} e = rw e (request-in o (asking (read_in p s) j) fields_are in_place)
