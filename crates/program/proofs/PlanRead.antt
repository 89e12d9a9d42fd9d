-- What the plan's bytes lead to: still to come, never a plan, refused, or accepted and played on. Assumes nothing.
use Prim.Native.Nat.{ℕ, zero, suc, ◌+◌, ◌≤◌, ◌<◌}
use mathlib.Core.Path.{◌≡◌, refl, sym, ap, ◌∙◌}
use mathlib.Core.Bool.{true}
use mathlib.Core.List.{List, [], ◌++◌}
use native.Mathlib.Nat.{zero-add}
use native.Mathlib.Omega.{arith}
use lib.ListN.{length}
use Rattle.model.specs.Plan.{plan_of, refusal}
use Rattle.model.specs.Link.{Link}
use Rattle.model.specs.Fresh.{fresh}
use Rattle.model.specs.Listing.{plan_line, plan_length, output_after}
use Rattle.calls.proofs.Stores.{Written, out-in-room, next-in-room}
use Rattle.program.specs.declared.State.{State}
use Rattle.program.specs.declared.Progress.{Progress}
use Rattle.program.specs.Stage.{reading, playing, ended, whole_records, plan_open, stage_after, written_after, stage_with, stage_fed, written_fed}
use Rattle.program.specs.State.{Stands}
use Rattle.program.specs.Parts.{Leaves, LeavesFed, LeavesPlan}
use Rattle.program.proofs.PlanStages.{Never, There, stage-open, written-open, stage-never, written-never, stage-plan, written-plan}
use Rattle.program.proofs.Leaving.{same-leaves, leaves_after, leaves-silent, leaves-line}

module _ (plan rest : List ℕ) where
  stage-refused : (n : ℕ) → 0 < n → ended ≡ stage_with n plan rest
  unfolding stage_with
  stage-refused zero h = absurd (omega arith)
  stage-refused (suc r) h = refl

  output-refused : (n : ℕ) → 0 < n → plan_line n ≡ output_after n plan (whole_records rest)
  unfolding output_after
  output-refused zero h = absurd (omega arith)
  output-refused (suc r) h = refl

  pub left-refused : {k : ℕ} {out out' : List ℕ} {state : State} {w : ℕ} → 0 < k → refusal plan ≡ k → 0 + 7 ≤ length out
      → Written (plan_line k) out out' 0 w → Stands state ended → LeavesPlan plan rest out 0 (record { state = state; written = w }) out'
  left-refused {k} some e room w h =
      let nonzero : 0 < refusal plan = rw e some in
      let lines = ap plan_line (sym e) ∙ output-refused (refusal plan) nonzero in
      same-leaves (stage-refused (refusal plan) nonzero) lines (leaves-line (plan_line k) room w h)

  pub left-accepted : {l : Link} {out out₁ out₂ : List ℕ} {at : ℕ} {r : Progress} → refusal plan ≡ 0 → l ≡ fresh (plan_of plan) → 0 + 7 ≤ length out
      → Written (plan_line 0) out out₁ 0 at → LeavesFed (playing l []) rest out₁ at r out₂ → LeavesPlan plan rest out 0 r out₂
  unfolding stage_with stage_fed written_fed output_after
  left-accepted {l} {out} e f room w h =
      same-leaves
      (ap (λ (m : Link). stage_fed (playing m []) rest) f ∙ ap (λ m. stage_with m plan rest) (sym e))
      (ap (λ (m : Link). plan_line 0 ++ written_fed (playing m []) rest) f ∙ ap (λ m. output_after m plan (whole_records rest)) (sym e))
      (leaves_after (plan_line 0) (w.1.0 ∙ next-in-room (plan_line 0) out 0 room ∙ zero-add _) (w.0 ∙ out-in-room (plan_line 0) out 0 room) h)

-- ---- where the plan is not all there

-- bytes of it are still to come
pub left_open : (input : List ℕ) {b out : List ℕ} {state : State} → b ≡ input → plan_open b ≡ true → Stands state (reading b)
    → Leaves (stage_after input) (written_after input) out 0 (record { state = state; written = 0 }) out
left_open input {b} e o = leaves-silent (sym (stage-open b o) ∙ ap stage_after e) (sym (written-open b o) ∙ ap written_after e)

-- it is never one
pub left-never : (input : List ℕ) {out out' : List ℕ} {state : State} {n : ℕ} → Never input → 0 + 7 ≤ length out → Written (plan_line 1) out out' 0 n
    → Stands state ended → Leaves (stage_after input) (written_after input) out 0 (record { state = state; written = n }) out'
left-never input never room w h = same-leaves (sym (stage-never input never)) (sym (written-never input never)) (leaves-line (plan_line 1) room w h)

-- it is all there, and more comes after it
pub left-plan : (plan more input : List ℕ) {out out' : List ℕ} {r : Progress} → plan ++ more ≡ input → There plan → plan_length plan ≡ length plan
    → LeavesPlan plan more out 0 r out' → Leaves (stage_after input) (written_after input) out 0 r out'
left-plan plan more input e t exact =
    same-leaves (sym (stage-plan plan more t exact) ∙ ap stage_after e) (sym (written-plan plan more t exact) ∙ ap written_after e)
