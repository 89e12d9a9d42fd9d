-- Each scheduler that takes the quantum number wrongly is sent back: by a clause of demand 3, by the order of granted words' numbers, or by its answers.
-- Assumes nothing.
use Prim.Native.Nat.{ℕ}
use mathlib.Core.Path.{◌≡◌, refl}
use mathlib.Core.List.{List, ◌∷◌, []}
use native.Mathlib.Omega.{arith}
use lib.Dec.{lit<}
use Rattle.model.specs.Plan.{plan_of}
use Rattle.model.specs.Calls.{Call, Event, requested, accepted, refused}
use Rattle.model.specs.Claim.{Clause}
use Rattle.model.specs.Link.{Link, flow, with_flow, with_number}
use Rattle.model.specs.Scheduler.{Meets, run, reference}
use Rattle.model.specs.QuantumNumbers.{NumberIsCount, expected_on, words_granted, InOrder, NumbersInOrder}
use Rattle.model.specs.PlanBytes.{listing}
use Rattle.model.specs.WrongNumbers.{ignores_number, counts_refusals, one_for_all, counts_modulo, restarts_numbers, tests_number_early, tests_number_late}
use Rattle.model.proofs.Unfoldings.{plans-compute, calls-compute, counts-compute}
use Rattle.model.proofs.Decidable.{refuted}
use Rattle.model.proofs.ClaimDecided.{decided}
use Rattle.model.proofs.WrongSchedulers.{two-flows, one-flow, sent_back, events-compute}

-- ---- by the least count: a word with the expected number is refused

-- F = 1: slot 1 is granted, then 11; at slot 1 the same number again is refused. With k = 1 the least count is 2.
pub counts-refusals : Meets counts_refusals → ⊥
unfolding events-compute
counts-refusals =
    sent_back counts_refusals one-flow (Call.request 0x24000000 ∷ Call.request 0x24000400 ∷ Call.tick ∷ Call.request 0x24000401 ∷ []) Clause.least tt

-- slot 1 is granted to flow 0, and then flow 1 is refused its first word, where its least count is 2
pub one-for-all : Meets one_for_all → ⊥
unfolding events-compute
one-for-all meets =
    let calls = Call.request 0x24000000 ∷ Call.request 0x24100000 ∷ [] in
    refuted (decided Clause.least (plan_of listing) 1 (run one_for_all (plan_of listing) calls).history) tt
    (meets listing refl calls 1 (lit< tt) Clause.least)

-- slot 1 is granted, served and given back; after the reset number 1 is refused, where the least count since then is 2
pub restarts-numbers : Meets restarts_numbers → ⊥
unfolding events-compute
restarts-numbers =
    sent_back restarts_numbers two-flows
    (Call.request 0x24000000 ∷ Call.credit 0 1 ∷ Call.tick ∷ Call.reset ∷ Call.request 0x24000401 ∷ []) Clause.least tt

-- Modulo 1: slot 1 is granted, and then number 1 is refused.
pub counts-modulo-1 : Meets (counts_modulo 1) → ⊥
unfolding events-compute
counts-modulo-1 = sent_back (counts_modulo 1) two-flows (Call.request 0x24000000 ∷ Call.request 0x24000400 ∷ []) Clause.least tt

-- Modulo 1,000 that takes 1,000 grants. The request's own equation tells it at once: on a link that expects 999 of flow 0 the word with that number is
-- granted, and then 1,000 is expected, and not 0.
abbrev expects : ℕ → Link
expects k = let l = reference.fresh (plan_of listing) in with_flow l 0 (with_number (flow l 0) k)

abbrev number_after : Link → ℕ
number_after l = (flow l 0).number

pub after-999 : number_after (reference.request (expects 999) 0x240F9C00).0 ≡ 1000
unfolding calls-compute
after-999 = refl

pub counts-modulo-1000 :
    number_after ((counts_modulo 1000).request (expects 999) 0x240F9C00).0 ≡ number_after (reference.request (expects 999) 0x240F9C00).0 → ⊥
unfolding calls-compute
counts-modulo-1000 e = let z : ◌≡◌ {A = ℕ} 0 1000 = e in omega arith

-- 0 is expected after 1,023
pub after-1023 : number_after (reference.request (expects 1023) 0x240FFC00).0 ≡ 0
unfolding calls-compute
after-1023 = refl

-- ---- by the numbers of granted words: 0 and 0

pub ignores-number : NumbersInOrder ignores_number → ⊥
unfolding words_granted calls-compute counts-compute plans-compute
ignores-number in_order =
    let numbers = in_order listing refl (Call.request 0x24000000 ∷ Call.request 0x24000000 ∷ []) 0 (lit< tt) in
    let second : ◌≡◌ {A = ℕ} 0 1 = cc in
    omega arith

-- ---- by the number that the link expects

-- slot 1 is granted, and the word that is refused counts too
pub count-refusals : NumberIsCount counts_refusals expected_on → ⊥
unfolding events-compute
count-refusals is-count =
    let z : ◌≡◌ {A = ℕ} 1 0 = is-count listing refl (Call.request 0x24000007 ∷ []) 0 (lit< tt) in
    omega arith

-- a grant to flow 0 moves flow 1's
pub count-for-all : NumberIsCount one_for_all expected_on → ⊥
unfolding events-compute
count-for-all is-count =
    let z : ◌≡◌ {A = ℕ} 1 0 = is-count listing refl (Call.request 0x24000000 ∷ []) 1 (lit< tt) in
    omega arith

-- a reset leaves it
pub count-restarts : NumberIsCount restarts_numbers expected_on → ⊥
unfolding events-compute
count-restarts is-count =
    let z : ◌≡◌ {A = ℕ} 0 1 = is-count listing refl (Call.request 0x24000000 ∷ Call.credit 0 1 ∷ Call.tick ∷ Call.reset ∷ []) 0 (lit< tt) in
    omega arith

-- ---- by the words of a history: number 2 after 0, and 0 after 1; flow 1's words are not flow 0's

abbrev grants : (w v : ℕ) → Event
grants w v = requested w (accepted v)

unfoldable words-compute : Unit {0}
unfolding words_granted events-compute
words-compute = tt

pub numbers-skip : InOrder (plan_of listing) 0 (grants 0x24000800 0x24000802 ∷ grants 0x24000000 0x24000001 ∷ []) → ⊥
unfolding words-compute
numbers-skip in_order = let z : ◌≡◌ {A = ℕ} 2 1 = cc in omega arith

pub numbers-go-back : InOrder (plan_of listing) 0 (grants 0x24000000 0x24000002 ∷ grants 0x24000400 0x24000401 ∷ []) → ⊥
unfolding words-compute
numbers-go-back in_order = let z : ◌≡◌ {A = ℕ} 1 0 = cc in omega arith

pub each-flow-its-own :
    InOrder (plan_of listing) 0 (grants 0x24000400 0x24000402 ∷ grants 0x24100000 0x24100003 ∷ grants 0x24000000 0x24000001 ∷ [])
unfolding words-compute
each-flow-its-own = refl

-- ---- by the answers

-- departure T with number 1: 10 comes first
pub early-answers : (run tests_number_early (plan_of listing) (Call.request 0x24000408 ∷ [])).history ≡ requested 0x24000408 (refused 24) ∷ []
unfolding calls-compute
early-answers = refl

pub tests-number-early :
    (run tests_number_early (plan_of listing) (Call.request 0x24000408 ∷ [])).history ≡ (run reference (plan_of listing) (Call.request 0x24000408 ∷ [])).history → ⊥
unfolding calls-compute
tests-number-early e = let z : ◌≡◌ {A = ℕ} 24 10 = cc in omega arith

-- departure 7 with number 1: 20, and the flow's frame has moved
abbrev ask_twice : List Call
ask_twice = Call.request 0x24000407 ∷ Call.request 0x24000000 ∷ []

pub late-answers :
    (run tests_number_late (plan_of listing) ask_twice).history
    ≡ requested 0x24000000 (accepted 0x24000004) ∷ requested 0x24000407 (refused 20) ∷ []
unfolding calls-compute
late-answers = refl

pub tests-number-late : (run tests_number_late (plan_of listing) ask_twice).history ≡ (run reference (plan_of listing) ask_twice).history → ⊥
unfolding calls-compute
tests-number-late e = let z : ◌≡◌ {A = ℕ} 20 24 = cc in omega arith
