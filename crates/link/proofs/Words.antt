-- The tests of a word before the search, and what a request is where the word fails or passes them. Assumes nothing.
use Prim.Native.Nat.{ℕ, zero, suc, ◌≤◌, ◌<◌}
use mathlib.Core.Path.{◌≡◌, refl, sym, ap, ◌∙◌}
use mathlib.Core.List.{List, ◌∷◌}
use mathlib.Core.Bool.{Bool, true, false, not, cond}
use native.Mathlib.Omega.{arith}
use lib.Dec.{ltb, eqb}
use lib.ListN.{get_or}
use borrow.Author.Tests.{lt-ltb, le-ltb, ltb-true, eq-eqb, ne_eqb}
use Rattle.model.specs.Refusals.{Line, first_of, ◌when◌}
use Rattle.model.specs.Word as word
use Rattle.model.specs.Plan as reference
use Rattle.model.specs.Calls.{refused}
use Rattle.model.specs.Link as model
use Rattle.model.specs.Request.{number_tests, request_tests, sought, answered, request_after, request}
use Rattle.plan.specs.declared.Plan.{Plan}
use Rattle.plan.specs.declared.Entry.{Entry}
use Rattle.plan.specs.Reading.{no_entry, plan_for}
use Rattle.word.specs.declared.Fields.{Fields}
use Rattle.word.specs.Reading.{fields_of}
use Rattle.link.specs.Parts.{Parts}
use Rattle.link.specs.Layout.{size_for}
use Rattle.link.specs.Reading.{link_of}
use Rattle.link.specs.Given.{tests_of}
use Rattle.link.proofs.Plans.{plan-count, plan-entry}

-- ---- the fields of a word that was split

module _ (x : ℕ) (f : Fields) (is : fields_of f ≡ word.split x) where
  pub flow_is : word.flow_of x ≡ f.flow
  flow_is = ap (λ (y : word.Fields). y.flow) (sym is)

  destination-is : word.destination_of x ≡ f.destination
  destination-is = ap (λ (y : word.Fields). y.destination) (sym is)

  quantum-is : word.quantum_of x ≡ f.quantum
  quantum-is = ap (λ (y : word.Fields). y.quantum) (sym is)

  pub departure-is : word.departure_of x ≡ f.departure
  departure-is = ap (λ (y : word.Fields). y.departure) (sym is)

-- ---- the tests, of plan p where the number k is expected of the word's flow

module _ (x : ℕ) (f : Fields) (is : fields_of f ≡ word.split x) (p : Plan) (k : ℕ) where
  pub word-8 : p.count ≤ f.flow → 8 ≡ first_of (request_tests (plan_for p) k x)
  unfolding first_of
  word-8 h = rw (plan-count p, flow_is x f is, le-ltb f.flow p.count h)

  -- the entry of the word's flow
  abbrev entry_there : Entry
  entry_there = get_or p.entries f.flow no_entry

  module _ (h : f.flow < p.count) where
    destination-there : (reference.entry (plan_for p) f.flow).destination ≡ entry_there.destination
    destination-there = ap (λ (y : reference.Entry). y.destination) (plan-entry p f.flow h)

    pub word-9 : (f.destination ≡ entry_there.destination → ⊥) → 9 ≡ first_of (request_tests (plan_for p) k x)
    unfolding first_of
    word-9 n =
        rw (plan-count p, flow_is x f is, lt-ltb f.flow p.count h, destination-is x f is, destination-there, ne_eqb _ _ n)

    module _ (d : f.destination ≡ entry_there.destination) where
      pub word-10 : size_for p ≤ f.departure → 10 ≡ first_of (request_tests (plan_for p) k x)
      unfolding first_of
      word-10 b =
          rw (plan-count p, flow_is x f is, lt-ltb f.flow p.count h, destination-is x f is, destination-there, eq-eqb _ _ d)
          (rw (departure-is x f is, le-ltb f.departure (size_for p) b))

      module _ (b : f.departure < size_for p) where
        -- what is left is the test of the number
        last-test : first_of (request_tests (plan_for p) k x) ≡ cond (not (eqb f.quantum k)) 24 0
        unfolding first_of
        last-test =
            rw (plan-count p, flow_is x f is, lt-ltb f.flow p.count h, destination-is x f is, destination-there, eq-eqb _ _ d)
            (rw (departure-is x f is, lt-ltb f.departure (size_for p) b, quantum-is x f is))

        pub word-24 : (f.quantum ≡ k → ⊥) → 24 ≡ first_of (request_tests (plan_for p) k x)
        word-24 differs = sym (last-test ∙ rw (ne_eqb f.quantum k differs))

        pub word-passes : f.quantum ≡ k → 0 ≡ first_of (request_tests (plan_for p) k x)
        word-passes same = sym (last-test ∙ rw (eq-eqb f.quantum k same))

-- ---- the request of a word on link l, whose tests give n

module _ (l : Parts) (x : ℕ) {n : ℕ} (tests : n ≡ tests_of l x) where
  pub word-refused : (n ≡ 0 → ⊥) → request (link_of l) x ≡ record { link = link_of l; answer = refused n }
  unfolding request request_after link_of
  word-refused nonzero = rw (← tests) (go n nonzero)
    where
      go : (k : ℕ) → (k ≡ 0 → ⊥) → request_after k (link_of l) x ≡ record { link = link_of l; answer = refused k }
      go zero none = absurd (none refl)
      go (suc r) none = refl

  module _ (z : n ≡ 0) where
    pub flow_below : word.flow_of x < l.plan.count
    unfolding first_of
    flow_below = go (ltb (word.flow_of x) l.plan.count) _ refl (rw (plan-count l.plan) at (sym tests ∙ z))
      where
        go : (b : Bool) (m : ℕ) → ltb (word.flow_of x) l.plan.count ≡ b → cond (not b) 8 m ≡ 0 → word.flow_of x < l.plan.count
        go true m e y = ltb-true _ _ e
        go false m e y = absurd (omega arith)

    pub departure-below : word.departure_of x < size_for l.plan
    unfolding first_of
    departure-below =
        let P = plan_for l.plan in
        let flow-there = ltb (word.flow_of x) (reference.flow_count P) in
        let own-destination = eqb (word.destination_of x) (reference.entry P (word.flow_of x)).destination in
        ltb-true _ _ (passes-third flow-there own-destination _ (number_tests (model.flow (link_of l) (word.flow_of x)).number x) (sym tests ∙ z))
      where
        passes-third : (a b c : Bool) (rest : List Line) → first_of (8 when not a ∷ 9 when not b ∷ 10 when not c ∷ rest) ≡ 0 → c ≡ true
        passes-third true true true rest e = refl
        passes-third true true false rest e = absurd (omega arith)
        passes-third true false c rest e = absurd (omega arith)
        passes-third false b c rest e = absurd (omega arith)

    pub word-passed : {i : ℕ} → word.flow_of x ≡ i → request (link_of l) x ≡ answered (link_of l) x (sought (link_of l) i (word.departure_of x))
    unfolding request request_after link_of
    word-passed same = rw (← tests, z) (ap (λ (k : ℕ). answered (link_of l) x (sought (link_of l) k (word.departure_of x))) same)
