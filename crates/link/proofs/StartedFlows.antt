-- A link of which nobody owns a position and whose flows start in one frame: how they are read, and that they are sound. Assumes nothing.
use Prim.Native.Nat.{ℕ, ◌≤◌, ◌<◌}
use mathlib.Core.Path.{◌≡◌, ◌∙◌}
use mathlib.Core.List.{List}
use mathlib.Core.Bool.{true}
use mathlib.Core.Option.{none}
use native.Mathlib.Nat.{mul-pos}
use native.Mathlib.Omega.{arith}
use lib.ListN.{length, get_or, length-replicate, get_or-replicate}
use Rattle.model.specs.Tables.{table}
use Rattle.plan.specs.declared.Entry.{Entry}
use Rattle.plan.specs.declared.Plan.{Plan}
use Rattle.plan.specs.Reading as plan
use Rattle.unbooked.specs.Words.{Words}
use Rattle.window.specs.Window.{Measures}
use Rattle.window.proofs.Tabulated.{table_same}
use Rattle.window.proofs.Ranges.{in-range, past-range, length-replaced, replaced-at, replaced-off}
use Rattle.tables.specs.Owners.{nobody, owner_of, everywhere}
use Rattle.tables.proofs.FreshTables.{length-everywhere, everywhere-at}
use Rattle.tables.proofs.UnbookedSlots.{words-unowned}
use Rattle.link.specs.declared.Flow.{Flow}
use Rattle.link.specs.Layout.{no_flow}
use Rattle.link.specs.Started.{no_flows, started_flow, started_flows}
use Rattle.link.proofs.Updated.{SoundOwners}

-- the measures of a window at position 0
pub measures-start : (p : Plan) → plan.Valid p → Measures p.slots p.frames 0
measures-start p v = let a = v.accepted in record {
  some_slot = a.some_slot;
  slots_most = a.slots_most;
  two_frames = a.two_frames;
  frames_most = a.frames_most;
  positions_most = a.positions_most;
  current_below = mul-pos a.some_slot (omega (arith, a.two_frames));
}

-- ---- nobody owns a position

pub read-unowned : (T : ℕ) → T ≤ 256 → table T (λ q. owner_of (get_or (everywhere nobody) q 0)) ≡ table T (λ q. none)
read-unowned T most = table_same T _ _ (λ q b. rw (everywhere-at nobody q (omega arith)))

pub sound-unowned : (p : Plan) → plan.Valid p → {u : List ℕ} → Words p.slots p.frames (λ q. true) u → SoundOwners p (everywhere nobody) u
sound-unowned p v words = record {
  long = length-everywhere nobody;
  owned = λ q b n. absurd (n (everywhere-at nobody q b));
  spare = λ q h b. everywhere-at nobody q b;
  words = words-unowned p.slots p.frames v.accepted.positions_most words;
}

-- ---- the first n of sixteen flows, in frame j

module _ (j : ℕ) (entries : List Entry) (n : ℕ) (flows : List Flow) where
  pub started-at : n ≤ length flows → (i : ℕ) → i < n
      → get_or (started_flows j entries n flows) i no_flow ≡ started_flow j (get_or entries i plan.no_entry) (get_or flows i no_flow)
  started-at few i h = replaced-at _ _ flows i no_flow (omega arith) ∙ rw (in-range 0 n i (omega arith) h)

  pub started-past : (i : ℕ) → n ≤ i → get_or (started_flows j entries n flows) i no_flow ≡ get_or flows i no_flow
  started-past i h = replaced-off _ _ flows i no_flow (past-range 0 n i h)

  pub length-started : length (started_flows j entries n flows) ≡ length flows
  length-started = length-replaced _ _ flows

-- ---- flows that the plan does not have

pub no-flow-at : (i : ℕ) → i < 16 → get_or no_flows i no_flow ≡ no_flow
no-flow-at i b = get_or-replicate 16 i no_flow no_flow b

pub length-no-flows : length no_flows ≡ 16
length-no-flows = length-replicate 16 no_flow
