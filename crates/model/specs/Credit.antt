-- The credit. RULES 7.1 and 7.2. Assumes nothing.
use Rattle.std.specs.Prelude.{ℕ, zero, suc, ◌-◌, List, ◌∷◌, [], not, ltb}
use Rattle.model.specs.Refusals.{Line, first_of, ◌when◌}
use Rattle.model.specs.Plan.{positions, flow_count}
use Rattle.model.specs.Calls.{CreditAnswer, accepted, refused}
use Rattle.model.specs.Window.{passed, every_from}
use Rattle.model.specs.Link.{Link, Step, window, flow, holding, with_flow, with_held, held_from}

-- RULES 7.1: the tests of a credit
abbrev pub credit_tests : Link → ℕ → ℕ → List Line
credit_tests l i p =
    -- no such flow
    8 when not (ltb i (flow_count l.plan))
    -- no position
    ∷ 13 when not (ltb p (positions l.plan))
    -- it has gone by
    ∷ 14 when passed (window l) p
    -- nothing is held, here or later
    ∷ 15 when not (every_from (window l) p (λ q. ltb 0 (holding l i q)))
    ∷ []

-- RULES 7.2: what a credit that is taken leaves
unfoldable pub lowered : Link → ℕ → ℕ → Link
lowered l i p = with_flow l i (with_held (flow l i) (held_from l i p (λ x. x - 1)))

-- RULES 7.2: the credit, where its tests give the number r
unfoldable pub credit_after : ℕ → Link → ℕ → ℕ → Step CreditAnswer
credit_after zero l i p = record { link = lowered l i p; answer = accepted tt }
credit_after (suc r) l i p = record { link = l; answer = refused (suc r) }

unfoldable pub credit : Link → ℕ → ℕ → Step CreditAnswer
credit l i p = credit_after (first_of (credit_tests l i p)) l i p
