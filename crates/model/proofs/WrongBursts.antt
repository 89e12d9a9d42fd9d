-- Each burst that is answered wrongly comes to another link or other events than its requests. Assumes nothing.
use Prim.Native.Nat.{ℕ}
use mathlib.Core.Path.{◌≡◌, refl, ap}
use mathlib.Core.List.{List, ◌∷◌, [], ◌++◌, flat_map}
use native.Mathlib.Omega.{arith}
use lib.ListN.{replicate}
use Rattle.model.specs.Plan.{plan_of, Accepted}
use Rattle.model.specs.History.{granted_in_all}
use Rattle.model.specs.Burst.{BurstRecord}
use Rattle.model.specs.Scheduler.{Played, reference}
use Rattle.model.specs.CountedBursts.{Item, several, play_with, BurstsCounted}
use Rattle.model.specs.QuantumNumbers.{expected_on}
use Rattle.model.specs.PlanBytes.{listing}
use Rattle.model.specs.WrongBursts.{handles_seventeen, handles_fifteen, on_one_link, stops_at_refusal, writes_no_result}
use Rattle.model.proofs.Plan.{accepted}
use Rattle.model.proofs.Unfoldings.{plans-compute, calls-compute, bursts-compute, counts-compute}

-- a record as it is lent
abbrev asks : ℕ → BurstRecord
asks word = record { word = word; result = 255; position = 255 }

-- one burst, of k records that are refused with 8, and then these
abbrev burst_of : (k : ℕ) → List BurstRecord → List Item
burst_of k xs = several (replicate k (asks 0x24200000) ++ xs) ∷ []

-- flow 0's quanta 0 and 1
abbrev first : BurstRecord
first = asks 0x24000000

abbrev second : BurstRecord
second = asks 0x24000400

-- how many words of flow 0 are granted, by the link and by what its caller sees
abbrev by_link : Played reference → ℕ
by_link r = expected_on r.state 0

abbrev by_events : Played reference → ℕ
by_events r = granted_in_all (plan_of listing) r.history 0

passes : Accepted (plan_of listing)
unfolding plans-compute
passes = accepted listing refl

unfoldable items-compute : Unit {0}
unfolding flat_map play_with plans-compute calls-compute bursts-compute counts-compute
items-compute = tt

pub handles-seventeen : BurstsCounted handles_seventeen → ⊥
unfolding items-compute
handles-seventeen counted = let z : ◌≡◌ {A = ℕ} 1 0 = ap by_link (counted (plan_of listing) passes (burst_of 16 (first ∷ []))) in omega arith

pub handles-fifteen : BurstsCounted handles_fifteen → ⊥
unfolding items-compute
handles-fifteen counted = let z : ◌≡◌ {A = ℕ} 0 1 = ap by_link (counted (plan_of listing) passes (burst_of 15 (first ∷ []))) in omega arith

-- quantum 1 is refused with 24, and then nothing is booked
pub on-one-link : BurstsCounted on_one_link → ⊥
unfolding items-compute
on-one-link counted = let z : ◌≡◌ {A = ℕ} 0 2 = ap by_link (counted (plan_of listing) passes (burst_of 0 (first ∷ second ∷ []))) in omega arith

pub stops-at-refusal : BurstsCounted stops_at_refusal → ⊥
unfolding items-compute
stops-at-refusal counted = let z : ◌≡◌ {A = ℕ} 0 1 = ap by_link (counted (plan_of listing) passes (burst_of 1 (first ∷ []))) in omega arith

pub writes-no-result : BurstsCounted writes_no_result → ⊥
unfolding items-compute
writes-no-result counted = let z : ◌≡◌ {A = ℕ} 0 1 = ap by_events (counted (plan_of listing) passes (burst_of 0 (first ∷ []))) in omega arith
