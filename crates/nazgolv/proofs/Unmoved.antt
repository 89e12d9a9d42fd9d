-- A refusal other than 11, 12 and 20 leaves the link as it was, and the number of a call tells it. Assumes nothing.
use Prim.Native.Nat.{ℕ, zero, suc, ◌/◌, ◌%◌, ◌^◌}
use mathlib.Core.Path.{◌≡◌, refl, sym, ap, ◌∙◌}
use mathlib.Core.List.{◌∷◌, []}
use mathlib.Core.Option.{Option, some, none}
use mathlib.Core.Bool.{Bool, true, false, not, true≢false}
use native.Mathlib.Omega.{arith}
use lib.Dec.{eqb}
use borrow.Author.Tests.{ne_eqb, ltb-true}
use Rattle.model.specs.Refusals.{first_of, ◌when◌}
use Rattle.model.specs.Plan.{flow_count}
use Rattle.model.specs.Calls.{Call, TickAnswer}
use Rattle.model.specs.Word.{flow_of, departure_of, depart}
use Rattle.model.specs.Link.{Link, flow}
use Rattle.model.specs.Request.{Found, found, nowhere, sought, would_be_valid, answered, request_tests, request_after, request}
use Rattle.model.specs.Credit.{credit_tests, credit_after, credit}
use Rattle.model.specs.Tick.{tick}
use Rattle.model.specs.Lend.{lend_tests, first_in_turn, lent_after, lend_after, lend}
use Rattle.model.specs.Reset.{reset_tests, reset_after, reset}
use Rattle.imagemodel.specs.Consistent.{known, Keepable}
use Rattle.imagemodel.specs.Exports.{refusal_number, grant_number, credit_number, tick_number, lend_number, reset_number, on_link}
use Rattle.imagemodel.proofs.Numbers.{Word, Proper}
use Rattle.imagemodel.proofs.RequestLeaves.{request-proper}
use Rattle.imagemodel.proofs.Answers.{tick-known, lend-proper}
use Rattle.nazgolv.specs.Numbers.{leaves_of, leaves_all}

-- a number of 32 bits is no refusal
no-refusal : (x : ℕ) → Word x → leaves_all x ≡ true → ⊥
no-refusal x fits h = let none : x / 2 ^ 32 ≡ 0 = omega arith in true≢false (sym h ∙ ap leaves_of none)

-- one that is none of these leaves all but for 20
pub other-leaves : (k : ℕ) → (k ≡ 0 → ⊥) → (k ≡ 11 → ⊥) → (k ≡ 12 → ⊥) → not (eqb k 20) ≡ leaves_of k
other-leaves k a b c = rw (ne_eqb k 0 a, ne_eqb k 11 b, ne_eqb k 12 c)

-- 11, 20 and 12 are not among them
newest : (spent would : Bool) → leaves_all (refusal_number (first_of (11 when spent ∷ 20 when would ∷ 12 when true ∷ []))) ≡ true → ⊥
unfolding first_of
newest true would h = true≢false (sym h)
newest false true h = true≢false (sym h)
newest false false h = true≢false (sym h)

request-stays : {l : Link} → Keepable l → (w : ℕ) → leaves_all (grant_number (request l w).answer) ≡ true → (request l w).link ≡ l
unfolding request request_after answered
request-stays {l} v w h = tested (first_of (request_tests l.plan (flow l (flow_of w)).number w)) h (request-proper v w)
  where
    searched : (f : Found) → leaves_all (grant_number (answered l w f).answer) ≡ true → Proper Word (answered l w f).answer → (answered l w f).link ≡ l
    searched (found j c p) h fits = absurd (no-refusal (depart w p) fits h)
    searched (nowhere c) h fits = absurd (newest (eqb c 0) (would_be_valid l (flow_of w)) h)

    tested : (r : ℕ) → leaves_all (grant_number (request_after r l w).answer) ≡ true → Proper Word (request_after r l w).answer → (request_after r l w).link ≡ l
    tested zero h fits = searched (sought l (flow_of w) (departure_of w)) h fits
    tested (suc r) h fits = refl

credit-stays : (l : Link) (i p : ℕ) → leaves_all (credit_number (credit l i p).answer) ≡ true → (credit l i p).link ≡ l
unfolding credit credit_after
credit-stays l i p = tested (first_of (credit_tests l i p))
  where
    tested : (r : ℕ) → leaves_all (credit_number (credit_after r l i p).answer) ≡ true → (credit_after r l i p).link ≡ l
    tested zero h = absurd (true≢false (sym h))
    tested (suc r) h = refl

tick-goes-on : {l : Link} → Keepable l → leaves_all (tick_number (tick l).answer) ≡ true → ⊥
tick-goes-on {l} v h = turn (tick l).answer (tick-known v) h
  where
    turn : (x : TickAnswer) → known (flow_count l.plan) x ≡ true → leaves_all (tick_number x) ≡ true → ⊥
    turn none e h = true≢false (sym h)
    turn (some i) e h = no-refusal i (omega (arith, ltb-true i (flow_count l.plan) e, v.accepted.flows_most)) h

lend-stays : {l : Link} → Keepable l → (mask : ℕ) → leaves_all (lend_number (lend l mask).answer) ≡ true → (lend l mask).link ≡ l
unfolding lend lend_after lent_after
lend-stays {l} v mask h = tested (first_of (lend_tests l mask)) h (lend-proper v mask)
  where
    looked : (x : Option ℕ) → leaves_all (lend_number (lent_after l x).answer) ≡ true → Proper Word (lent_after l x).answer → (lent_after l x).link ≡ l
    looked (some k) h fits = absurd (no-refusal (k % flow_count l.plan) fits h)
    looked none h fits = refl

    tested : (r : ℕ) → leaves_all (lend_number (lend_after r l mask).answer) ≡ true → Proper Word (lend_after r l mask).answer → (lend_after r l mask).link ≡ l
    tested zero h fits = looked (first_in_turn l mask) h fits
    tested (suc r) h fits = refl

reset-stays : (l : Link) → leaves_all (reset_number (reset l).answer) ≡ true → (reset l).link ≡ l
unfolding reset reset_after
reset-stays l = tested (first_of (reset_tests l))
  where
    tested : (r : ℕ) → leaves_all (reset_number (reset_after r l).answer) ≡ true → (reset_after r l).link ≡ l
    tested zero h = absurd (true≢false (sym h))
    tested (suc r) h = refl

-- RULES 12.4: one law for all calls
pub unmoved : {l : Link} → Keepable l → (c : Call) → leaves_all (on_link l c).number ≡ true → (on_link l c).link ≡ l
unmoved v (Call.request w) = request-stays v w
unmoved {l} v (Call.credit i p) = credit-stays l i p
unmoved v Call.tick = λ h. absurd (tick-goes-on v h)
unmoved v (Call.lend mask) = lend-stays v mask
unmoved {l} v Call.reset = reset-stays l
