-- A scheduler that meets demand 3 never fills the next board's buffer over. Assumes nothing.
use Prim.Native.Nat.{ℕ, ◌+◌, ◌≤◌, ◌<◌}
use mathlib.Core.List.{◌∷◌, []}
use native.Mathlib.Omega.{arith}
use Rattle.model.specs.Tables.{tally}
use Rattle.model.specs.Plan.{Plan, flow_count, entry, plan_of, Accepted}
use Rattle.model.specs.Calls.{History}
use Rattle.model.specs.History.{grants, lends, granted_up_to, lent_up_to, credited_up_to}
use Rattle.model.specs.Claim.{Clause, Demand3}
use Rattle.model.specs.Scheduler.{Scheduler, Meets, reference, run}
use Rattle.model.specs.Buffer.{FitsBuffer, NeverOverfull}
use Rattle.model.proofs.Plan.{accepted}
use Rattle.model.proofs.Demand3.{meets}
use Rattle.model.proofs.Tallies.{sum-le, sum-add}

-- what one stream holds
within : (P : Plan) (i : ℕ) (h : History) (s : ℕ)
    → Demand3 P i h → granted_up_to P h i s + lent_up_to h i s ≤ credited_up_to P h i s + (entry P i).cells
unfolding grants lends tally
within P i [] s d = omega arith
within P i (e ∷ h) s d = let x = (d Clause.within_cells).0 s in omega (arith, x.is, x.within)

pub together : (P : Plan) → Accepted P → (h : History) (s : ℕ) → ((i : ℕ) → i < flow_count P → Demand3 P i h) → FitsBuffer P h s
together P ok h s d =
    let n = flow_count P in
    omega (
      arith,
      sum-le n (λ i. granted_up_to P h i s + lent_up_to h i s) (λ i. credited_up_to P h i s + (entry P i).cells) (λ i known. within P i h s (d i known)),
      sum-add n (λ i. credited_up_to P h i s) (λ i. (entry P i).cells),
      ok.cells_fit,
    )

pub never-overfull : (c : Scheduler) → Meets c → NeverOverfull c
never-overfull c meets bytes passes calls s =
    together (plan_of bytes) (accepted bytes passes) (run c (plan_of bytes) calls).history s (meets bytes passes calls)

pub reference-never-overfull : NeverOverfull reference
reference-never-overfull = never-overfull reference meets
