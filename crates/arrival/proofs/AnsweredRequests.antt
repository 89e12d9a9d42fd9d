-- A request is turned back by its word's tests, or answered by the search. Assumes nothing.
use Prim.Native.Nat.{ℕ, zero, suc}
use mathlib.Core.Path.{◌≡◌, refl, sym, ap, ◌∙◌}
use mathlib.Core.List.{◌∷◌, []}
use mathlib.Core.Bool.{Bool, true, false, not, cond}
use native.Mathlib.Omega.{arith}
use lib.Dec.{eqb}
use borrow.Author.Tests.{eqb-true, eqb-false, ne_eqb}
use Rattle.model.specs.Refusals.{first_of, ◌when◌}
use Rattle.model.specs.Word.{flow_of, quantum_of, departure_of}
use Rattle.model.specs.Plan.{Plan}
use Rattle.model.specs.Calls.{Grant, refused}
use Rattle.model.specs.Link.{Link, Step, flow}
use Rattle.model.specs.Request.{word_tests, sought, answered, request_after, request}
use Rattle.model.specs.History.{well_formed}
use Rattle.model.proofs.HistoryCounts.{well-formed-is, request-number}

-- the word is well formed, and carries the number that the link expects
pub record Passes (l : Link) (w : ℕ) : Type 0 where
  pub well : well_formed l.plan w ≡ true
  pub number : quantum_of w ≡ (flow l (flow_of w)).number

pub data Requested (l : Link) (w : ℕ) : Step Grant → Type 0 where
  turned_back : (r : ℕ) → (r ≡ 12 → ⊥) → (Passes l w → ⊥) → Requested l w (record { link = l; answer = refused r })
  searched : Passes l w → Requested l w (answered l w (sought l (flow_of w) (departure_of w)))

-- the word's own tests give no 12
not-12 : (a b c : Bool) → first_of (8 when a ∷ 9 when b ∷ 10 when c ∷ []) ≡ 12 → ⊥
unfolding first_of
not-12 true b c e = omega arith
not-12 false true c e = omega arith
not-12 false false true e = omega arith
not-12 false false false e = omega arith

word-not-12 : (P : Plan) (w : ℕ) → first_of (word_tests P w) ≡ 12 → ⊥
word-not-12 P w e = not-12 _ _ _ e

pub request-is : (l : Link) (w : ℕ) → Requested l w (request l w)
unfolding request request_after first_of
request-is l w = rw (request-number l.plan (flow l (flow_of w)).number w) (tested (first_of (word_tests l.plan w)) refl)
  where
    expected : ℕ
    expected = (flow l (flow_of w)).number

    numbered : first_of (word_tests l.plan w) ≡ 0 → (b : Bool) → eqb (quantum_of w) expected ≡ b → Requested l w (request_after (cond (not b) 24 0) l w)
    numbered e true is = searched (record { well = well-formed-is l.plan w ∙ ap (λ x. eqb x 0) e; number = eqb-true (quantum_of w) expected is })
    numbered e false is = turned_back 24 (λ z. omega arith) (λ p. eqb-false (quantum_of w) expected is p.number)

    tested : (r : ℕ) → first_of (word_tests l.plan w) ≡ r
        → Requested l w (request_after (cond (eqb r 0) (cond (not (eqb (quantum_of w) expected)) 24 0) r) l w)
    tested zero e = numbered e (eqb (quantum_of w) expected) refl
    tested (suc r) e = rw (ne_eqb (suc r) 0 (λ z. omega arith)) (turned_back (suc r) (λ z. word-not-12 l.plan w (e ∙ z)) ill)
      where
        ill : Passes l w → ⊥
        ill p =
            let both : ◌≡◌ {A = Bool} true false = sym p.well ∙ well-formed-is l.plan w ∙ ap (λ x. eqb x 0) e ∙ ne_eqb (suc r) 0 (λ z. omega arith) in
            let no : ◌≡◌ {A = ℕ} 0 1 = cc in
            omega arith
