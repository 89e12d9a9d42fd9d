-- Each scheduler that lends out of turn is sent back: by fairness where a flow is lent to again before one that waits, else by its answers or by the link.
-- Demand 3 asks of a lent slot that its flow is in the mask and has a cell for it, and not whose turn it is. Assumes nothing.
use Prim.Native.Nat.{ℕ, ◌≤◌, ◌<◌}
use mathlib.Core.Path.{◌≡◌, refl, sym, ap}
use mathlib.Core.List.{List, ◌∷◌, [], ◌++◌}
use mathlib.Core.Option.{none}
use native.Mathlib.Omega.{arith}
use lib.Dec.{lit<}
use Rattle.model.specs.Plan.{flow_count, plan_of}
use Rattle.model.specs.Calls.{Call, Event, History, requested, credited, ticked, lent, accepted, refused}
use Rattle.model.specs.History.{marks_of, lends}
use Rattle.model.specs.Scheduler.{Scheduler, run, reference}
use Rattle.model.specs.PlanBytes.{plan3, listing}
use Rattle.model.specs.Fairness.{lent_in, all_lent_in, InTurn, Even, WithinARound, Fair}
use Rattle.model.specs.WrongTurns.{lowest_always, looks_from_last, steps_on, turns_on_refusal, tick_forgets, leaves_count, keeps_turn}
use Rattle.model.proofs.Unfoldings.{plans-compute, calls-compute, counts-compute}
use Rattle.model.proofs.Decidable.{IsYes, proved}
use Rattle.model.proofs.FairDecided.{waiting}
use Rattle.model.proofs.WrongSchedulers.{Sample, two-flows, events-compute}

-- ---- two lends to flow i, between which flow j is not lent to, though it waits

module _ (c : Scheduler) (s : Sample) (calls : List Call) (i mask mask₀ : ℕ) (between before : History) (j : ℕ) where
  -- the second lend and what came between; the first and what was before
  abbrev later : History
  later = lent mask (accepted i) ∷ between

  abbrev earlier : History
  earlier = lent mask₀ (accepted i) ∷ before

  passed_over : (run c (plan_of s.bytes) calls).history ≡ later ++ earlier → j < flow_count (plan_of s.bytes) → (j ≡ i → ⊥)
      → IsYes (waiting (plan_of s.bytes) j later earlier) → lent_in between j ≡ 0 → Fair c → ⊥
  passed_over events known other waits not-lent-to fair =
      let in-turn = (fair s.bytes s.accepted_plan calls).in-turn in
      let some = in-turn i mask mask₀ between before events j known other (proved (waiting (plan_of s.bytes) j later earlier) waits) in
      omega arith

unfoldable pub turns-compute : Unit {0}
unfolding events-compute waiting
turns-compute = tt

-- slots 0 and 1 are lent to flow 0, and flow 1 waits
abbrev lend_twice : List Call
lend_twice = Call.lend 3 ∷ Call.tick ∷ Call.lend 3 ∷ []

pub lowest-always : Fair lowest_always → ⊥
unfolding turns-compute
lowest-always = passed_over lowest_always two-flows lend_twice 0 3 3 (ticked none ∷ []) [] 1 refl (lit< tt) (λ e. omega arith) tt refl

pub looks-from-last : Fair looks_from_last → ⊥
unfolding turns-compute
looks-from-last = passed_over looks_from_last two-flows lend_twice 0 3 3 (ticked none ∷ []) [] 1 refl (lit< tt) (λ e. omega arith) tt refl

pub tick-forgets : Fair tick_forgets → ⊥
unfolding turns-compute
tick-forgets = passed_over tick_forgets two-flows lend_twice 0 3 3 (ticked none ∷ []) [] 1 refl (lit< tt) (λ e. omega arith) tt refl

-- with a refused lend between them
pub turns-on-refusal : Fair turns_on_refusal → ⊥
unfolding turns-compute
turns-on-refusal =
    passed_over turns_on_refusal two-flows (Call.lend 3 ∷ Call.lend 3 ∷ Call.tick ∷ Call.lend 3 ∷ []) 0 3 3 (ticked none ∷ lent 3 (refused 17) ∷ []) [] 1 refl
    (lit< tt) (λ e. omega arith) tt refl

abbrev three-flows : Sample
unfolding plans-compute
three-flows = record { bytes = plan3 8; accepted_plan = refl; some_flow = lit< tt }

-- slot 0 is lent to flow 2 out of a mask with no other, slot 1 to flow 1, slot 2 to flow 2 again, and flow 0 waits
pub steps_on_lem : Fair steps_on → ⊥
unfolding turns-compute
steps_on_lem =
    passed_over steps_on three-flows (Call.lend 4 ∷ Call.tick ∷ Call.lend 7 ∷ Call.tick ∷ Call.lend 7 ∷ []) 2 7 4
    (ticked none ∷ lent 7 (accepted 1) ∷ ticked none ∷ []) [] 0 refl (lit< tt) (λ e. omega arith) tt refl

-- ---- a history that is uneven and keeps the rest of fairness: of three flows the first is lent to twice, and flow 1 waits

abbrev uneven : History
uneven = ticked none ∷ lent 7 (accepted 0) ∷ ticked none ∷ lent 7 (accepted 0) ∷ []

pub uneven-lends : Even (plan_of (plan3 8)) uneven → ⊥
unfolding turns-compute
uneven-lends even =
    let P = plan_of (plan3 8) in
    let twice = even uneven [] refl 0 1 (lit< tt) (lit< tt) (proved (waiting P 1 uneven []) tt) in
    omega (arith, twice)

-- the newest event is no lend
pub uneven-in-turn : InTurn (plan_of (plan3 8)) uneven
uneven-in-turn i mask mask₀ between before events j known other waits = let z : ◌≡◌ {A = ℕ} 0 1 = cc in absurd (omega arith)

-- the lends of a stretch are no more than those of the list
lends-of-stretch : (stretch early : History) → all_lent_in stretch ≤ all_lent_in (stretch ++ early)
unfolding lends marks_of
lends-of-stretch [] early = omega arith
lends-of-stretch (requested w a ∷ stretch) early = lends-of-stretch stretch early
lends-of-stretch (credited i p a ∷ stretch) early = lends-of-stretch stretch early
lends-of-stretch (ticked x ∷ stretch) early = lends-of-stretch stretch early
lends-of-stretch (lent m (accepted i) ∷ stretch) early = omega (arith, lends-of-stretch stretch early)
lends-of-stretch (lent m (refused r) ∷ stretch) early = lends-of-stretch stretch early
lends-of-stretch (Event.reset a ∷ stretch) early = lends-of-stretch stretch early

-- two lends are no round of three flows
pub uneven-within-a-round : WithinARound (plan_of (plan3 8)) uneven
unfolding turns-compute
uneven-within-a-round stretch early is j known waits round =
    let two : all_lent_in (stretch ++ early) ≡ 2 = ap all_lent_in (sym is) in
    absurd (omega (arith, lends-of-stretch stretch early))

-- ---- what fairness can't see

-- A reset that leaves the flow to look from. The answers differ: after it the reference scheduler lends to flow 0, and this one to flow 1.
abbrev lend_after_reset : List Call
lend_after_reset = Call.lend 1 ∷ Call.credit 0 1 ∷ Call.tick ∷ Call.reset ∷ Call.lend 3 ∷ []

pub kept-turn-answers :
    (run keeps_turn (plan_of listing) lend_after_reset).history
    ≡ lent 3 (accepted 1) ∷ Event.reset (accepted tt) ∷ ticked none ∷ credited 0 1 (accepted tt) ∷ lent 1 (accepted 0) ∷ []
unfolding calls-compute
kept-turn-answers = refl

pub keeps-turn : (run keeps_turn (plan_of listing) lend_after_reset).history ≡ (run reference (plan_of listing) lend_after_reset).history → ⊥
unfolding calls-compute counts-compute
keeps-turn e = let to-flow-1 : ◌≡◌ {A = ℕ} 1 0 = ap (λ h. lent_in h 1) e in omega arith

-- n left after flow n - 1. As flows are counted modulo n, every answer is the model's; the link is not, and no image may have it.
pub leaves-count : (run leaves_count (plan_of listing) (Call.lend 2 ∷ [])).state ≡ (run reference (plan_of listing) (Call.lend 2 ∷ [])).state → ⊥
unfolding calls-compute
leaves-count e = let z : ◌≡◌ {A = ℕ} 2 0 = ap (λ l. l.turn) e in omega arith
