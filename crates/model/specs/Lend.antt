-- The lend of the idle slot. RULES 9.1 to 9.4. Assumes nothing.
use Rattle.std.specs.Prelude.{ℕ, zero, suc, ◌+◌, ◌%◌, ◌^◌, List, ◌∷◌, [], Bool, true, not, ◌&&◌, ◌||◌, leb, ltb}
use Rattle.std.proofs.Math.Option.{Option, some, none}
use Rattle.model.specs.Tables.{first_from}
use Rattle.model.specs.Refusals.{Line, first_of, ◌when◌}
use Rattle.model.specs.Plan.{flow_count}
use Rattle.model.specs.Calls.{LendAnswer, accepted, refused, in_mask}
use Rattle.model.specs.Window.{every_from}
use Rattle.model.specs.Link.{Link, Step, window, owner, flow, holding, cells, with_flow, with_mark, with_turn, with_held, held_from}
use Rattle.model.specs.Request.{unbooked}

-- RULES 9.1: flow i can take the current slot
unfoldable pub can_take : Link → ℕ → Bool
can_take l i = every_from (window l) l.current (λ q. ltb (holding l i q) (cells l i))

-- RULES 9.3: it is in the mask besides
abbrev pub takes : Link → ℕ → ℕ → Bool
takes l mask i = in_mask mask i && can_take l i

-- RULES 9.2: the tests before a flow is sought
abbrev pub lend_tests : Link → ℕ → List Line
lend_tests l mask =
    -- a bit for no flow: the mask is not below 2 to the power n
    8 when leb (2 ^ flow_count l.plan) mask
    -- CP has an owner, or the mark is on
    ∷ 17 when (not (unbooked (owner l l.current)) || l.marked)
    ∷ []

-- RULES 9.4: flow i holds one more at CP and later, and the mark is on
abbrev pub marked_for : Link → ℕ → Link
marked_for l i = with_mark (with_flow l i (with_held (flow l i) (held_from l i l.current suc))) true

-- RULES 9.4: the next lend looks from the flow after it, and from 0 after the last
unfoldable pub lent_to : Link → ℕ → Link
lent_to l i = with_turn (marked_for l i) ((i + 1) % flow_count l.plan)

-- RULES 9.3: who gets the slot. Where it is some k, that flow is k modulo n.
unfoldable pub first_in_turn : Link → (mask : ℕ) → Option ℕ
first_in_turn l mask = first_from (flow_count l.plan) l.turn (λ k. takes l mask (k % flow_count l.plan))

-- RULES 9.4: the slot lent to the flow that was found
unfoldable pub lent_after : Link → Option ℕ → Step LendAnswer
-- it is answered with the flow
lent_after l (some k) = record { link = lent_to l (k % flow_count l.plan); answer = accepted (k % flow_count l.plan) }
-- RULES 9.2: 18, as there is none
lent_after l none = record { link = l; answer = refused 18 }

-- RULES 1.3: the lend, where its first tests give the number r, which leaves all as it was
unfoldable pub lend_after : ℕ → Link → (mask : ℕ) → Step LendAnswer
lend_after zero l mask = lent_after l (first_in_turn l mask)
lend_after (suc r) l mask = record { link = l; answer = refused (suc r) }

unfoldable pub lend : Link → (mask : ℕ) → Step LendAnswer
lend l mask = lend_after (first_of (lend_tests l mask)) l mask
