-- A plan as it is read: its count and entries; a valid plan is what its reading is stored as. Assumes nothing.
use Prim.Native.Nat.{ℕ, ◌≤◌, ◌<◌}
use mathlib.Core.Path.{◌≡◌, sym, ap, ◌∙◌}
use native.Mathlib.Decide.{dec_lt}
use native.Mathlib.Omega.{arith}
use lib.ListN.{get_or}
use Rattle.model.specs.Plan as reference
use Rattle.plan.specs.declared.Plan.{Plan}
use Rattle.plan.specs.Reading.{entry_for, no_entry, plan_for, stored_entry, stored_entries, stored, Valid}
use Rattle.window.proofs.Tabulated.{get_d-table, length-table, table-past, table_of}

module _ (p : Plan) where
  pub plan-count : reference.flow_count (plan_for p) ≡ p.count
  plan-count = length-table p.count _

  pub plan-entry : (i : ℕ) → i < p.count → reference.entry (plan_for p) i ≡ entry_for (get_or p.entries i no_entry)
  plan-entry i h = get_d-table p.count _ i _ h

  module _ (v : Valid p) where
    pub count-some : 1 ≤ p.count
    count-some = rw (← plan-count) v.accepted.some_flow

    pub count_most : p.count ≤ 16
    count_most = rw (← plan-count) v.accepted.flows_most

    pub stored-plan : stored (plan_for p) ≡ p
    unfolding stored stored_entries
    stored-plan = λ k. record { slots = p.slots; frames = p.frames; buffer = p.buffer; count = plan-count k; entries = entries k }
      where
        go : (i : ℕ) → Dec (i < p.count) → stored_entry (reference.entry (plan_for p) i) ≡ get_or p.entries i no_entry
        go i (yes h) = ap stored_entry (plan-entry i h)
        go i (no h) = ap stored_entry (table-past p.count _ i _ (omega arith)) ∙ sym (v.spare i (omega arith))

        entries : stored_entries (plan_for p).entries ≡ p.entries
        entries = table_of p.entries 16 _ no_entry v.long (λ i _. go i (dec_lt i p.count))
