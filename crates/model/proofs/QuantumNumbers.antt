-- The number that a link expects of a flow is its grants so far, and the words that it grants carry the numbers in order. Assumes nothing.
use Prim.Native.Nat.{ℕ, ◌+◌, ◌%◌, ◌<◌}
use mathlib.Core.Path.{◌≡◌, refl, sym, ap, ap₂, ◌∙◌}
use mathlib.Core.List.{List, ◌∷◌, [], ◌++◌, map, map-append}
use mathlib.Core.Bool.{Bool, true, false, cond}
use native.Mathlib.Omega.{arith}
use lib.Dec.{eqb}
use borrow.Author.Tests.{eqb-true}
use Rattle.model.specs.Tables.{bit, table, tally}
use Rattle.model.specs.Word.{flow_of, quantum_of}
use Rattle.model.specs.Plan.{Plan, flow_count, plan_of, Accepted}
use Rattle.model.specs.Calls.{Call, Event, History, requested, credited, ticked, lent, accepted, refused}
use Rattle.model.specs.History.{grant_at, grants, of_flow, granted_in_all, expected_number}
use Rattle.model.specs.Claim.{Each}
use Rattle.model.specs.Scheduler.{reference, run}
use Rattle.model.specs.QuantumNumbers.{NumberIsCount, expected_on, word_granted, words_granted, InOrder, NumbersInOrder}
use Rattle.model.proofs.Tables.{table-append}
use Rattle.model.proofs.Tallies.{tally-append}
use Rattle.model.proofs.Plan as plan
use Rattle.model.proofs.AfterHistory.{NumberedAt}
use Rattle.model.proofs.AfterCalls.{after_run}
use Rattle.model.proofs.Demand3.{each_map}

pub number-accepted : (P : Plan) → Accepted P → (calls : List Call) (i : ℕ) → i < flow_count P
    → expected_on (run reference P calls).state i ≡ expected_number P (run reference P calls).history i
number-accepted = after_run (λ P l h. (i : ℕ) → i < flow_count P → expected_on l i ≡ expected_number P h i) (λ l h g. g.numbers)

pub number-is-count : NumberIsCount reference expected_on
number-is-count bytes passes = number-accepted (plan_of bytes) (plan.accepted bytes passes)

-- ---- the words that are granted

-- the numbers from the n-th on
abbrev numbers_from : (n count : ℕ) → List ℕ
numbers_from n count = table count (λ k. (n + k) % 1024)

module _ (P : Plan) (i : ℕ) where
  -- the word of one event goes on where those before it end
  goes_on : (e : Event) (h : History) → NumberedAt P e h
      → map quantum_of (word_granted i e) ≡ numbers_from (granted_in_all P h i) (tally (of_flow i) (grant_at P e h))
  unfolding tally
  goes_on (requested w (accepted v)) h x = own (eqb (flow_of w) i) refl
    where
      own : (b : Bool) → eqb (flow_of w) i ≡ b
          → map quantum_of (cond b (v ∷ []) []) ≡ numbers_from (granted_in_all P h i) (bit b + 0)
      own true e =
          let same_flow = eqb-true (flow_of w) i e in
          let carries : quantum_of v ≡ (granted_in_all P h i + 0) % 1024 =
          x ∙ ap (expected_number P h) same_flow ∙ ap (◌% 1024) (let z : granted_in_all P h i ≡ granted_in_all P h i + 0 = omega arith in z) in
          ap (◌∷ []) carries
      own false e = refl
  goes_on (requested w (refused r)) h x = refl
  goes_on (credited j p a) h x = refl
  goes_on (ticked a) h x = refl
  goes_on (lent m a) h x = refl
  goes_on (Event.reset a) h x = refl

  in_order : (h : History) → Each (NumberedAt P) h → InOrder P i h
  unfolding words_granted grants tally
  in_order [] each = refl
  in_order (e ∷ h) each =
      let before = granted_in_all P h i in
      let new = tally (of_flow i) (grant_at P e h) in
      let count : before + new ≡ granted_in_all P (e ∷ h) i = omega (arith, tally-append (of_flow i) (grant_at P e h) (grants P h)) in
      map-append quantum_of (words_granted i h) (word_granted i e)
      ∙ ap₂ ◌++◌ (in_order h each.1) (goes_on e h each.0)
      ∙ sym (table-append before new (λ k. k % 1024))
      ∙ ap (λ n. table n (λ k. k % 1024)) count

pub numbers-accepted : (P : Plan) → Accepted P → (calls : List Call) → (i : ℕ) → i < flow_count P → InOrder P i (run reference P calls).history
numbers-accepted =
    after_run (λ P l h. (i : ℕ) → i < flow_count P → InOrder P i h)
    (λ l h g i known. in_order l.plan i h (each_map _ _ (λ e h c. c.numbered) h g.events))

pub numbers-in-order : NumbersInOrder reference
numbers-in-order bytes passes = numbers-accepted (plan_of bytes) (plan.accepted bytes passes)
