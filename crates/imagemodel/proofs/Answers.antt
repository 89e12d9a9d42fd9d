-- The 64-bit number of an answer tells the answer. Assumes nothing.
use Prim.Native.Nat.{ℕ, zero, suc, ◌^◌, ◌≤◌, ◌<◌}
use mathlib.Core.Path.{◌≡◌, refl, ap, subst}
use mathlib.Core.Option.{Option, some, none}
use mathlib.Core.Bool.{true, cond}
use native.Mathlib.Nat.{mod-lt, mul-div_cancel}
use native.Mathlib.Omega.{arith}
use lib.Dec.{eqb}
use borrow.Author.Tests.{ltb-true, lt-ltb, le-ltb, ne_eqb}
use Rattle.model.specs.Refusals.{first_of}
use Rattle.model.specs.Plan.{positions, flow_count}
use Rattle.model.specs.Calls.{Answer, TickAnswer, accepted, refused}
use Rattle.model.specs.Link.{Link}
use Rattle.model.specs.Credit.{credit_tests, credit_after, credit}
use Rattle.model.specs.Tick.{next_position, tick}
use Rattle.model.specs.Lend.{lend_tests, first_in_turn, lent_after, lend_after, lend}
use Rattle.model.specs.Reset.{reset_tests, reset_after, reset}
use Rattle.model.proofs.Slots.{some-position}
use Rattle.imagemodel.specs.Consistent.{known, Keepable}
use Rattle.imagemodel.specs.Exports.{refusal_number, number_of, tick_number}
use Rattle.imagemodel.specs.Chain.{answer_of}
use Rattle.imagemodel.proofs.Numbers.{first_of-most, Word, Proper}
use Rattle.imagemodel.proofs.TickKept.{tick-kept}
use Rattle.imagemodel.proofs.Closed.{tick-plan}

-- ---- from the number to the answer, where g takes what is answered back from its number

pub answer-read : {A : Type 0} (f : A → ℕ) (g : ℕ → A) → ((x : A) → g (f x) ≡ x) → (a : Answer A) → Proper (λ x. Word (f x)) a
    → answer_of (g (number_of f a)) (number_of f a) ≡ a
answer-read f g back (accepted x) h = rw (lt-ltb (f x) (2 ^ 32) h) (ap accepted (back x))
answer-read f g back (refused r) h =
    let some = h.0 in
    rw (le-ltb (refusal_number r) (2 ^ 32) (omega arith)) (ap refused (mul-div_cancel r (omega arith)))

pub tick-answer-read : (n : ℕ) → n ≤ 16 → (x : TickAnswer) → known n x ≡ true → cond (eqb (tick_number x) 16) none (some (tick_number x)) ≡ x
tick-answer-read n most none e = refl
tick-answer-read n most (some i) e = let lt = ltb-true i n e in rw (ne_eqb i 16 (λ z. omega arith))

-- ---- the answers of credits, ticks, lends and resets

pub tick-known : {l : Link} → Keepable l → known (flow_count l.plan) (tick l).answer ≡ true
unfolding tick
tick-known {l} v =
    subst (λ P. next_position l < positions P → known (flow_count P) (tick l).answer ≡ true) (tick-plan l)
    ((tick-kept v).consistent.owners_known (next_position l)) (mod-lt _ (some-position v.accepted))

pub credit-proper : (l : Link) (i p : ℕ) → Proper (λ _. Word 0) (credit l i p).answer
unfolding credit credit_after
credit-proper l i p = go (first_of (credit_tests l i p)) refl
  where
    go : (r : ℕ) → first_of (credit_tests l i p) ≡ r → Proper (λ _. Word 0) (credit_after r l i p).answer
    go zero e = omega arith
    go (suc r) e = omega (arith, first_of-most 15 (credit_tests l i p) (omega arith))

pub lend-proper : {l : Link} → Keepable l → (mask : ℕ) → Proper Word (lend l mask).answer
unfolding lend lend_after lent_after
lend-proper {l} v mask = go (first_of (lend_tests l mask)) refl
  where
    n : ℕ
    n = flow_count l.plan

    lent : (o : Option ℕ) → Proper Word (lent_after l o).answer
    lent none = omega arith
    lent (some k) = let some_flow : 0 < n = v.accepted.some_flow in omega (arith, mod-lt k some_flow, v.accepted.flows_most)

    go : (r : ℕ) → first_of (lend_tests l mask) ≡ r → Proper Word (lend_after r l mask).answer
    go zero e = lent (first_in_turn l mask)
    go (suc r) e = omega (arith, first_of-most 17 (lend_tests l mask) (omega arith))

pub reset-proper : (l : Link) → Proper (λ _. Word 0) (reset l).answer
unfolding reset reset_after
reset-proper l = go (first_of (reset_tests l)) refl
  where
    go : (r : ℕ) → first_of (reset_tests l) ≡ r → Proper (λ _. Word 0) (reset_after r l).answer
    go zero e = omega arith
    go (suc r) e = omega (arith, first_of-most 23 (reset_tests l) (omega arith))
