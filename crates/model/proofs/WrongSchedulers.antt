-- Each wrong scheduler is sent back: by a clause of demand 3, or, where the scheduler invents the holding, by its answers. Assumes nothing.
use Prim.Native.Nat.{ℕ, ◌+◌, ◌≤◌, ◌<◌}
use mathlib.Core.Path.{◌≡◌, refl, ap}
use mathlib.Core.List.{List, ◌∷◌, []}
use native.Mathlib.Omega.{arith}
use lib.Dec.{eqb, lit<}
use borrow.Author.Tests.{eq-eqb}
use Rattle.model.specs.Tables.{bit}
use Rattle.model.specs.Word.{departure_of, depart}
use Rattle.model.specs.Plan.{flow_count, plan_of, refusal}
use Rattle.model.specs.Calls.{Call, History, requested, credited, accepted, refused}
use Rattle.model.specs.History.{slot_after}
use Rattle.model.specs.Link.{Link, holding}
use Rattle.model.specs.Claim.{Clause}
use Rattle.model.specs.Scheduler.{Scheduler, Meets, run, reference}
use Rattle.model.specs.PlanBytes.{listing, single, one_cell}
use Rattle.model.specs.EdgeCases.{Passes}
use Rattle.model.specs.Edges.{marked_edges}
use Rattle.model.specs.WrongSchedulers.{refuses_all, refuses_flow1, grants_one, writes_no_booking, first_window_only, invents_holding, fullest, starts_at_zero}
use Rattle.model.specs.WrongSchedulers.{tests_own_position, walks_past_end, stops_at_last_frame, drops_holdings}
use Rattle.model.proofs.Unfoldings.{plans-compute, calls-compute, counts-compute}
use Rattle.model.proofs.Decidable.{IsNo, refuted}
use Rattle.model.proofs.ClaimDecided.{decided}

-- the bytes of an accepted plan
pub record Sample : Type 0 where
  pub bytes : List ℕ
  pub accepted_plan : refusal bytes ≡ 0
  pub some_flow : 0 < flow_count (plan_of bytes)

abbrev pub two-flows : Sample
unfolding plans-compute
two-flows = record { bytes = listing; accepted_plan = refl; some_flow = lit< tt }

abbrev pub one-flow : Sample
unfolding plans-compute
one-flow = record { bytes = single; accepted_plan = refl; some_flow = lit< tt }

abbrev pub one_cell_lem : Sample
unfolding plans-compute
one_cell_lem = record { bytes = one_cell; accepted_plan = refl; some_flow = lit< tt }

-- the events of calls on a scheduler
abbrev events_on : Scheduler → Sample → List Call → History
events_on c s calls = (run c (plan_of s.bytes) calls).history

-- A scheduler whose events break a clause of demand 3 for flow 0 does not meet it.
pub sent_back : (c : Scheduler) (s : Sample) (calls : List Call) (clause : Clause)
    → IsNo (decided clause (plan_of s.bytes) 0 (events_on c s calls)) → Meets c → ⊥
sent_back c s calls clause broken meets =
    refuted (decided clause (plan_of s.bytes) 0 (events_on c s calls)) broken (meets s.bytes s.accepted_plan calls 0 s.some_flow clause)

unfoldable pub events-compute : Unit {0}
unfolding plans-compute calls-compute counts-compute decided
events-compute = tt

-- ---- schedulers that demand 3 rules out

-- one request, and it is refused: the least count is 2
pub refuses-all : (refusal : Link → ℕ → Link × ℕ) → Meets (refuses_all refusal) → ⊥
unfolding events-compute
refuses-all refusal = sent_back (refuses_all refusal) two-flows (Call.request 0x24000000 ∷ []) Clause.least tt

pub refuses-flow-1 : Meets refuses_flow1 → ⊥
unfolding events-compute
refuses-flow-1 meets =
    let calls = Call.request 0x24100000 ∷ [] in
    refuted (decided Clause.least (plan_of listing) 1 (run refuses_flow1 (plan_of listing) calls).history) tt
    (meets listing refl calls 1 (lit< tt) Clause.least)

-- three grants, where the most count is 2
pub grants-one-most : (p : ℕ) (next : Link → ℕ → Link) → Meets (grants_one p next) → ⊥
unfolding events-compute
grants-one-most p next =
    sent_back (grants_one p next) one-flow (Call.request 0x24000000 ∷ Call.request 0x24000400 ∷ Call.request 0x24000800 ∷ []) Clause.most tt

twice : (x y : ℕ) → x ≡ y → bit (eqb x y) + (bit (eqb y y) + 0) + 0 ≤ 1 → ⊥
twice x y e le = let two = rw (eq-eqb x y e, eq-eqb y y refl) at le in omega arith

-- two grants of one slot
pub grants-one-owner : (p : ℕ) (next : Link → ℕ → Link) → Meets (grants_one p next) → ⊥
unfolding events-compute
grants-one-owner p next meets =
    let same-position : departure_of (depart 0x24000400 p) ≡ departure_of (depart 0x24000000 p) = omega arith in
    let slot_of : ℕ → ℕ = slot_after (plan_of listing) 0 in
    let s = slot_of (departure_of (depart 0x24000000 p)) in
    twice (slot_of (departure_of (depart 0x24000400 p))) s (ap slot_of same-position)
    (meets listing refl (Call.request 0x24000000 ∷ Call.request 0x24000400 ∷ []) 0 (lit< tt) Clause.one_owner s)

-- slot 1 is granted and comes up idle
pub writes-no-booking : Meets writes_no_booking → ⊥
unfolding events-compute
writes-no-booking = sent_back writes_no_booking two-flows (Call.request 0x24000000 ∷ Call.tick ∷ []) Clause.comes_up tt

-- F = 1 and W = 2, so that the first window is slots 0 and 1: in them it books slots 1 and 2; with k = 2 the least count is 3
pub first-window-only : Meets first_window_only → ⊥
unfolding events-compute
first-window-only =
    sent_back first_window_only one-flow
    (Call.request 0x24000000 ∷ Call.request 0x24000400 ∷ Call.tick ∷ Call.request 0x24000401 ∷ Call.request 0x24000801 ∷ Call.tick
    ∷ Call.request 0x24000800 ∷ [])
    Clause.least tt

-- the first request is refused with 11
pub starts-at-zero : Meets starts_at_zero → ⊥
unfolding events-compute
starts-at-zero = sent_back starts_at_zero two-flows (Call.request 0x24000000 ∷ []) Clause.least tt

-- Demand 3 counts the credits that are taken, and does not say which are to be taken: a scheduler that invents that nothing is held is told from the
-- model's by its answers. It refuses the listing's credit with 15, and then the request with 12. What rules it out is the theorem that the model's
-- holding is the granted slots less the taken credits, with refusals 12 and 15 as equations in that holding.
abbrev listing_calls : List Call
listing_calls =
    Call.request 0x24000000 ∷ Call.request 0x24000400 ∷ Call.request 0x24000800 ∷ Call.credit 0 4 ∷ Call.request 0x24000800 ∷ []

-- the listing's two granted words and its first refusal
abbrev listing_begins : History
listing_begins = requested 0x24000800 (refused 12) ∷ requested 0x24000400 (accepted 0x24000402) ∷ requested 0x24000000 (accepted 0x24000001) ∷ []

pub invented-answers :
    (run (invents_holding holding (λ l i q. 0)) (plan_of listing) listing_calls).history
    ≡ requested 0x24000800 (refused 12) ∷ credited 0 4 (refused 15) ∷ listing_begins
unfolding calls-compute
invented-answers = refl

pub invents-holding :
    (run (invents_holding holding (λ l i q. 0)) (plan_of listing) listing_calls).history ≡ (run reference (plan_of listing) listing_calls).history → ⊥
unfolding calls-compute
invents-holding e = let z : ◌≡◌ {A = ℕ} 0 1 = cc in omega arith

-- Where it invents, for requests, that a flow which holds all of its cells somewhere holds them everywhere, it takes the listing's credit and then
-- refuses the request with 12, where the reference scheduler grants 4. Demand 3 does not see it: the request is made with both cells held at slot 2.
pub invented-full :
    (run (invents_holding fullest holding) (plan_of listing) listing_calls).history
    ≡ requested 0x24000800 (refused 12) ∷ credited 0 4 (accepted tt) ∷ listing_begins
unfolding calls-compute
invented-full = refl

-- Where it invents a cell held everywhere, it takes a credit with nothing held, and demand 3 sends it back.
pub invents-a-cell : Meets (invents_holding holding (λ l i q. 1)) → ⊥
unfolding events-compute
invents-a-cell = sent_back (invents_holding holding (λ l i q. 1)) two-flows (Call.credit 0 1 ∷ []) Clause.within_cells tt

-- ---- the three slips

-- No edge marked P tells them from the reference scheduler.
pub slips-pass-marked :
    Passes tests_own_position marked_edges × Passes walks_past_end marked_edges × Passes stops_at_last_frame marked_edges × Passes drops_holdings marked_edges
unfolding marked_edges events-compute
slips-pass-marked = (refl, refl, refl, refl)

-- up to slot 5 there are two granted slots and three credits
pub tests-own-position : Meets tests_own_position → ⊥
unfolding events-compute
tests-own-position =
    sent_back tests_own_position two-flows
    (Call.request 0x24000000 ∷ Call.request 0x24000400 ∷ Call.credit 0 5 ∷ Call.credit 0 5 ∷ Call.credit 0 2 ∷ []) Clause.within_cells tt

-- at CP = 1, in the last of two frames of one slot, it grants position 2, which is T
pub walks-past-end : Meets walks_past_end → ⊥
unfolding events-compute
walks-past-end = sent_back walks_past_end one-flow (Call.tick ∷ Call.request 0x24000001 ∷ []) Clause.granted-words tt

-- with k = 1 the least count is 2, and it grants slot 1 alone
pub stops-at-last-frame : Meets stops_at_last_frame → ⊥
unfolding events-compute
stops-at-last-frame =
    sent_back stops_at_last_frame one-flow (Call.request 0x24000000 ∷ Call.request 0x24000400 ∷ Call.tick ∷ Call.request 0x24000401 ∷ []) Clause.least tt

-- with both cells held it grants slot 8
pub drops-holdings : Meets drops_holdings → ⊥
unfolding events-compute
drops-holdings =
    sent_back drops_holdings two-flows
    (Call.request 0x24000000 ∷ Call.request 0x24000400 ∷ Call.tick ∷ Call.tick ∷ Call.tick ∷ Call.tick ∷ Call.request 0x24000804 ∷ [])
    Clause.within_cells tt
