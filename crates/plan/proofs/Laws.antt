-- The plan that the reader stores is the model's plan of the bytes. Assumes nothing.
use Prim.Native.Nat.{ℕ, ◌≤◌}
use mathlib.Core.Path.{◌≡◌, sym, ap, ◌∙◌}
use mathlib.Core.List.{List}
use native.Mathlib.Omega.{arith}
use lib.ListN.{get_or}
use Rattle.std.proofs.Common.{Result, Ok, Err}
use Rattle.limits.specs.declared.refusal.Refusal.{Refusal}
use Rattle.limits.specs.Refusals.{number}
use Rattle.limits.proofs.Refusals.{some-number, one-number}
use Rattle.plan.specs.declared.Plan.{Plan}
use Rattle.model.specs.Plan as model
use Rattle.model.proofs.Plan as of_plan
use Rattle.model.proofs.Tables.{get_d-table, table-get_d, table_same}
use Rattle.plan.specs.Reading.{entry_for, no_entry, plan_for, stored_entry, stored_entries, stored, ReadAs}

pub reads-back : (P : model.Plan) → model.flow_count P ≤ 16 → plan_for (stored P) ≡ P
unfolding stored stored_entries
reads-back P few =
    let entries = table_same (model.flow_count P) _ (λ i. get_or P.entries i model.no_entry)
    (λ i l. ap entry_for (get_d-table 16 (λ j. stored_entry (get_or P.entries j model.no_entry)) i no_entry (omega arith)))
    ∙ table-get_d P.entries model.no_entry in
    λ k. record { slots = P.slots; frames = P.frames; buffer = P.buffer; entries = entries k }

-- the plan of bytes that are accepted, as the reader hands it over
pub is-plan : (b : List ℕ) (p : Plan) → ReadAs b (Ok p) → plan_for p ≡ model.plan_of b
is-plan b p r = ap plan_for r.1 ∙ reads-back (model.plan_of b) (of_plan.accepted b r.0).flows_most

-- the model gives one result for each list of bytes
pub one-result : (b : List ℕ) (x y : Result Plan Refusal) → ReadAs b x → ReadAs b y → x ≡ y
one-result b (Ok p) (Ok q) r s = ap Ok (r.1 ∙ sym s.1)
one-result b (Ok p) (Err f) r s = let z : 0 ≡ number f = sym r.0 ∙ s in absurd (omega (arith, some-number f))
one-result b (Err e) (Ok q) r s = let z : 0 ≡ number e = sym s.0 ∙ r in absurd (omega (arith, some-number e))
one-result b (Err e) (Err f) r s = ap Err (one-number e f (sym r ∙ s))
