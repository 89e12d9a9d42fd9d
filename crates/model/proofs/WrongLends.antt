-- Each scheduler that lends wrongly is sent back: by a clause of demand 3, or, where the mark stands past the tick, by its answers. Assumes nothing.
use Prim.Native.Nat.{ℕ}
use mathlib.Core.Path.{◌≡◌, refl}
use mathlib.Core.List.{List, ◌∷◌, []}
use mathlib.Core.Option.{none}
use native.Mathlib.Omega.{arith}
use Rattle.model.specs.Plan.{plan_of}
use Rattle.model.specs.Calls.{Call, ticked, lent, accepted, refused}
use Rattle.model.specs.Claim.{Clause}
use Rattle.model.specs.Scheduler.{Scheduler, Meets, run, reference}
use Rattle.model.specs.Buffer.{FitsBuffer, NeverOverfull}
use Rattle.model.specs.PlanBytes.{plan1, listing}
use Rattle.model.specs.WrongLends.{lends_booked, forgets_mark, holds_no_loan, lends_to_full, ignores_mask, keeps_mark}
use Rattle.model.proofs.Unfoldings.{calls-compute}
use Rattle.model.proofs.WrongSchedulers.{two-flows, one_cell_lem, sent_back, events-compute}

-- a slot is lent, and the next one
abbrev lend_again : List Call
lend_again = Call.lend 1 ∷ Call.tick ∷ Call.lend 1 ∷ []

-- slot 1 is granted to flow 0 and lent to flow 1
pub lends-booked : Meets lends_booked → ⊥
unfolding events-compute
lends-booked = sent_back lends_booked two-flows (Call.request 0x24000000 ∷ Call.tick ∷ Call.lend 2 ∷ []) Clause.one_owner tt

-- slot 0 is lent to both flows
pub forgets-mark : Meets forgets_mark → ⊥
unfolding events-compute
forgets-mark = sent_back forgets_mark two-flows (Call.lend 1 ∷ Call.lend 2 ∷ []) Clause.one_owner tt

-- slots 0 and 1 are lent to a flow with one cell
pub holds-no-loan : Meets holds_no_loan → ⊥
unfolding events-compute
holds-no-loan = sent_back holds_no_loan one_cell_lem lend_again Clause.within_cells tt

pub lends-to-full : Meets lends_to_full → ⊥
unfolding events-compute
lends-to-full = sent_back lends_to_full one_cell_lem lend_again Clause.within_cells tt

pub ignores-mask : Meets ignores_mask → ⊥
unfolding events-compute
ignores-mask = sent_back ignores_mask two-flows (Call.lend 2 ∷ []) Clause.lent-flows tt

-- ---- the next board's buffer: N = 1, one flow with one cell, and slots 0 and 1 are lent to it

one_place : (c : Scheduler) → (FitsBuffer (plan_of (plan1 4 2 1 2 1)) (run c (plan_of (plan1 4 2 1 2 1)) lend_again).history 1 → ⊥) → NeverOverfull c → ⊥
unfolding events-compute
one_place c over never = over (never (plan1 4 2 1 2 1) refl lend_again 1)

pub overfills-with-loan : NeverOverfull holds_no_loan → ⊥
unfolding events-compute
overfills-with-loan = one_place holds_no_loan (λ fits. omega (arith, fits))

pub overfills-when-full : NeverOverfull lends_to_full → ⊥
unfolding events-compute
overfills-when-full = one_place lends_to_full (λ fits. omega (arith, fits))

-- ---- by the answers

-- Demand 3 counts no refused lend, and so does not see a mark that stands past the tick. The answers differ: in the next slot the reference scheduler lends,
-- and this one gives 17.
pub kept-mark-answers : (run keeps_mark (plan_of listing) lend_again).history ≡ lent 1 (refused 17) ∷ ticked none ∷ lent 1 (accepted 0) ∷ []
unfolding calls-compute
kept-mark-answers = refl

pub keeps-mark : (run keeps_mark (plan_of listing) lend_again).history ≡ (run reference (plan_of listing) lend_again).history → ⊥
unfolding calls-compute
keeps-mark e = let z : ◌≡◌ {A = ℕ} 0 1 = cc in omega arith
