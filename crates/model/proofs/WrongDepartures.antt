-- Each scheduler that takes the departure wrongly is sent back: by a clause of demand 3, or, where it refuses more or leaves less behind, by its answers.
-- Assumes nothing.
use Prim.Native.Nat.{ℕ}
use mathlib.Core.Path.{◌≡◌, refl}
use mathlib.Core.List.{List, ◌∷◌, []}
use native.Mathlib.Omega.{arith}
use Rattle.model.specs.Plan.{plan_of}
use Rattle.model.specs.Calls.{Call, requested, accepted, refused}
use Rattle.model.specs.Claim.{Clause}
use Rattle.model.specs.Scheduler.{Meets, run, reference}
use Rattle.model.specs.PlanBytes.{listing, one_share}
use Rattle.model.specs.WrongDepartures.{ignores_departure, leaves_at_departure, comes_by_number, tests_own_room, refuses_to_come, keeps_frame}
use Rattle.model.proofs.Unfoldings.{calls-compute}
use Rattle.model.proofs.WrongSchedulers.{two-flows, one_cell_lem, sent_back, events-compute}

-- departure 2, and slot 1 is granted
pub ignores-departure : Meets ignores_departure → ⊥
unfolding events-compute
ignores-departure = sent_back ignores_departure two-flows (Call.request 0x24000002 ∷ []) Clause.after_departure tt

-- slot 2
pub leaves-at-departure : Meets leaves_at_departure → ⊥
unfolding events-compute
leaves-at-departure = sent_back leaves_at_departure two-flows (Call.request 0x24000002 ∷ []) Clause.after_departure tt

-- at CP = 4 departure 3 is slot 11, and slot 5 is granted
pub comes-by-number : Meets comes_by_number → ⊥
unfolding events-compute
comes-by-number =
    sent_back comes_by_number two-flows (Call.tick ∷ Call.tick ∷ Call.tick ∷ Call.tick ∷ Call.request 0x24000003 ∷ []) Clause.after_departure tt

-- with one cell, slot 2 and then slot 1 are granted
pub tests-own-room : Meets tests_own_room → ⊥
unfolding events-compute
tests-own-room = sent_back tests_own_room one_cell_lem (Call.request 0x24000001 ∷ Call.request 0x24000400 ∷ []) Clause.within_cells tt

-- Demand 3 does not see that a tile which has not come is refused a slot, nor the frame that a refusal leaves. The answers differ. With departure 2
-- the reference scheduler grants 3.
pub refused-answers : (run refuses_to_come (plan_of listing) (Call.request 0x24000002 ∷ [])).history ≡ requested 0x24000002 (refused 20) ∷ []
unfolding calls-compute
refused-answers = refl

pub refuses-to-come :
    (run refuses_to_come (plan_of listing) (Call.request 0x24000002 ∷ [])).history ≡ (run reference (plan_of listing) (Call.request 0x24000002 ∷ [])).history → ⊥
unfolding calls-compute
refuses-to-come e = let z : ◌≡◌ {A = ℕ} 0 1 = cc in omega arith

-- With a share of 1 it grants 4 after 20, and then refuses with 11.
abbrev ask_again : List Call
ask_again = Call.request 0x24000007 ∷ Call.request 0x24000000 ∷ Call.request 0x24000400 ∷ []

pub kept-frame-answers :
    (run keeps_frame (plan_of one_share) ask_again).history
    ≡ requested 0x24000400 (accepted 0x24000404) ∷ requested 0x24000000 (accepted 0x24000001) ∷ requested 0x24000007 (refused 20) ∷ []
unfolding calls-compute
kept-frame-answers = refl

pub keeps-frame : (run keeps_frame (plan_of one_share) ask_again).history ≡ (run reference (plan_of one_share) ask_again).history → ⊥
unfolding calls-compute
keeps-frame e = let z : ◌≡◌ {A = ℕ} 0 1 = cc in omega arith
