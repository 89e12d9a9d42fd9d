-- Each scheduler that resets wrongly is sent back: by a clause of demand 3, or, where it leaves C or is granted over cells that stay held, by its answers.
-- Assumes nothing.
use Prim.Native.Nat.{ℕ, suc}
use mathlib.Core.Path.{◌≡◌, refl, ap}
use mathlib.Core.List.{List, ◌∷◌, []}
use mathlib.Core.Option.{some}
use native.Mathlib.Omega.{arith}
use lib.Dec.{lit<}
use Rattle.model.specs.Plan.{plan_of}
use Rattle.model.specs.Tables.{bit}
use Rattle.model.specs.Calls.{Call, Grant, ResetAnswer, Event, requested, credited, ticked, lent, accepted, refused}
use Rattle.model.specs.Link.{Link, Step}
use Rattle.model.specs.History.{granted_in}
use Rattle.model.specs.Claim.{Clause}
use Rattle.model.specs.Scheduler.{Meets, run, reference}
use Rattle.model.specs.AsFresh.{answers_to, GoesOnAsFresh, TwiceIsOnce, FreshStays}
use Rattle.model.specs.PlanBytes.{plan1, listing, one_cell, one_share}
use Rattle.model.specs.WrongResets.{unmarks_booked, unmarks_marked, resets_booked, zeroes_held, puts_clock_back, leaves_frame, resets_refused}
use Rattle.model.specs.WrongResets.{leaves_remainder, resets_held, marks_always}
use Rattle.model.specs.WrongNumbers.{restarts_numbers}
use Rattle.model.proofs.Plan.{accepted as accepted_plan}
use Rattle.model.proofs.Unfoldings.{plans-compute, calls-compute, counts-compute}
use Rattle.model.proofs.WrongSchedulers.{Sample, two-flows, one_cell_lem, sent_back, events-compute}

-- slot 1 is granted, served and given back; then it is lent
abbrev served : List Call → List Call
served rest = Call.request 0x24000000 ∷ Call.credit 0 1 ∷ Call.tick ∷ Call.reset ∷ rest

pub unmarks-booked : Meets unmarks_booked → ⊥
unfolding events-compute
unmarks-booked = sent_back unmarks_booked two-flows (served (Call.lend 1 ∷ [])) Clause.one_owner tt

-- the same after a second reset
pub unmarks-marked : Meets unmarks_marked → ⊥
unfolding events-compute
unmarks-marked = sent_back unmarks_marked two-flows (served (Call.reset ∷ Call.lend 1 ∷ [])) Clause.one_owner tt

-- slot 1 is granted and comes up idle
pub resets-booked : Meets resets_booked → ⊥
unfolding events-compute
resets-booked = sent_back resets_booked two-flows (Call.request 0x24000000 ∷ Call.credit 0 1 ∷ Call.reset ∷ Call.tick ∷ []) Clause.comes_up tt

-- slots 0 and 1 are lent to a flow with one cell
pub zeroes-held : Meets zeroes_held → ⊥
unfolding events-compute
zeroes-held = sent_back zeroes_held one_cell_lem (Call.lend 1 ∷ Call.reset ∷ Call.tick ∷ Call.lend 1 ∷ []) Clause.within_cells tt

-- after two ticks position 1 is granted, which is slot 9, and slot 3 comes up for the flow
pub puts-clock-back : Meets puts_clock_back → ⊥
unfolding events-compute
puts-clock-back = sent_back puts_clock_back two-flows (Call.tick ∷ Call.tick ∷ Call.reset ∷ Call.request 0x24000000 ∷ Call.tick ∷ []) Clause.comes_up tt

-- F = 4, W = 3, one flow with share 1 and 8 cells
abbrev three-frames : Sample
unfolding plans-compute
three-frames = record { bytes = plan1 4 3 8 1 8; accepted_plan = refl; some_flow = lit< tt }

-- 20 leaves IF in the newest frame; after the reset slot 8 is granted, and then 11, where the least count is 2
pub leaves-frame : Meets leaves_frame → ⊥
unfolding events-compute
leaves-frame =
    sent_back leaves_frame three-frames (Call.request 0x2400000B ∷ Call.reset ∷ Call.request 0x24000000 ∷ Call.request 0x24000400 ∷ []) Clause.least tt

abbrev one-share : Sample
unfolding plans-compute
one-share = record { bytes = one_share; accepted_plan = refl; some_flow = lit< tt }

-- slots 1 and 2 of frame 0 are granted with a share of 1, and no reset is granted between them
pub resets-refused : Meets resets_refused → ⊥
unfolding events-compute
resets-refused = sent_back resets_refused one-share (served (Call.request 0x24000401 ∷ [])) Clause.most-in-a-frame tt

-- Demand 3 does not see a remainder that stays: the frame of the reset is not in the least count. The answers differ: with a share of 1 the reference
-- scheduler grants slot 2, and this one slot 4.
abbrev ask_after : List Call
ask_after = served (Call.request 0x24000401 ∷ [])

pub left-remainder-answers :
    (run leaves_remainder (plan_of one_share) ask_after).history
    ≡ requested 0x24000401 (accepted 0x24000404) ∷ Event.reset (accepted tt) ∷ ticked (some 0) ∷ credited 0 1 (accepted tt)
    ∷ requested 0x24000000 (accepted 0x24000001) ∷ []
unfolding calls-compute
left-remainder-answers = refl

pub leaves-remainder : (run leaves_remainder (plan_of one_share) ask_after).history ≡ (run reference (plan_of one_share) ask_after).history → ⊥
unfolding calls-compute counts-compute
leaves-remainder e = let in-frame-0 : ◌≡◌ {A = ℕ} 0 1 = ap (λ h. granted_in (plan_of one_share) h 0 0) e in omega arith

-- Nor a reset that is granted over cells which stay held. The reference scheduler refuses it.
abbrev reset_held : List Call
reset_held = Call.lend 1 ∷ Call.reset ∷ []

pub held-reset-answers : (run resets_held (plan_of listing) reset_held).history ≡ Event.reset (accepted tt) ∷ lent 1 (accepted 0) ∷ []
unfolding calls-compute
held-reset-answers = refl

pub resets-held : (run resets_held (plan_of listing) reset_held).history ≡ (run reference (plan_of listing) reset_held).history → ⊥
unfolding calls-compute
resets-held e = let z : ◌≡◌ {A = ℕ} 0 1 = cc in omega arith

-- ---- what is not as fresh

-- a scheduler's reset
abbrev reset_of : (Link → Link × ResetAnswer) → Link → Step ResetAnswer
reset_of reset l = record { link = (reset l).0; answer = (reset l).1 }

-- the link after some calls on the reference scheduler
abbrev after : List ℕ → List Call → Link
after bytes calls = (run reference (plan_of bytes) calls).state

-- how many words are granted among these answers
unfoldable grants_in : List Grant → ℕ
grants_in [] = 0
grants_in (accepted v ∷ answers) = suc (grants_in answers)
grants_in (refused r ∷ answers) = grants_in answers

unfoldable fresh-computes : Unit {0}
unfolding events-compute answers_to grants_in
fresh-computes = tt

-- The share was spent before the reset: after it, one word is granted where a fresh link grants two.
abbrev spent : Link
spent = after one_share (Call.request 0x24000000 ∷ Call.credit 0 1 ∷ Call.tick ∷ [])

pub goes-on-spent : GoesOnAsFresh (reset_of leaves_remainder.reset) → ⊥
unfolding fresh-computes
goes-on-spent as-fresh =
    let z : ◌≡◌ {A = ℕ} 1 2 = ap grants_in (as-fresh spent (accepted_plan one_share refl) (lit< tt) refl (0x24000401 ∷ 0x24000801 ∷ [])) in
    omega arith

-- The only cell is held by a lent slot: nothing is granted where a fresh link grants one.
abbrev holding : Link
holding = after one_cell (Call.lend 1 ∷ [])

pub goes-on-held : GoesOnAsFresh (reset_of resets_held.reset) → ⊥
unfolding fresh-computes
goes-on-held as-fresh =
    let z : ◌≡◌ {A = ℕ} 0 1 = ap grants_in (as-fresh holding (accepted_plan one_cell refl) (lit< tt) refl (0x24000000 ∷ [])) in
    omega arith

-- Number 1 is expected, and refused.
pub goes-on-from-0 : GoesOnAsFresh (reset_of restarts_numbers.reset) → ⊥
unfolding fresh-computes
goes-on-from-0 as-fresh =
    let z : ◌≡◌ {A = ℕ} 0 1 = ap grants_in (as-fresh spent (accepted_plan one_share refl) (lit< tt) refl (0x24000401 ∷ [])) in
    omega arith

-- The second reset forgets the mark that the first left.
pub twice-unmarks : TwiceIsOnce (reset_of unmarks_marked.reset) → ⊥
unfolding fresh-computes
twice-unmarks twice =
    let z : ◌≡◌ {A = ℕ} 0 1 = ap (λ s. bit s.link.marked) (twice spent (lit< tt) refl) in
    omega arith

pub fresh-is-marked : FreshStays (reset_of marks_always.reset) → ⊥
unfolding fresh-computes
fresh-is-marked stays =
    let z : ◌≡◌ {A = ℕ} 1 0 = ap (λ s. bit s.link.marked) (stays (plan_of one_share) (accepted_plan one_share refl)) in
    omega arith
