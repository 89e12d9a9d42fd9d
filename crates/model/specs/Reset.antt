-- The local reset. RULES 10.1 and 10.2. Assumes nothing.
use Rattle.std.specs.Prelude.{ℕ, zero, suc, List, ◌∷◌, [], Bool, not, ◌&&◌, ◌||◌, eqb}
use Rattle.std.proofs.Math.Option.{none}
use Rattle.model.specs.Tables.{every}
use Rattle.model.specs.Refusals.{Line, first_of, ◌when◌}
use Rattle.model.specs.Plan.{positions, flow_count}
use Rattle.model.specs.Calls.{ResetAnswer, accepted, refused}
use Rattle.model.specs.Window.{head, later, every_from}
use Rattle.model.specs.Link.{Link, Flow, Step, window, owner, flow, holding, share, with_owners, with_flows, with_mark, with_turn, moved_to}
use Rattle.model.specs.Request.{unbooked}

-- RULES 10.1: no later position has an owner
unfoldable pub none_booked : Link → Bool
none_booked l = every (positions l.plan) (λ q. not (later (window l) q l.current) || unbooked (owner l q))

-- RULES 10.1: no flow holds anything from CP on
unfoldable pub none_held : Link → Bool
none_held l = every (flow_count l.plan) (λ i. every_from (window l) l.current (λ q. eqb (holding l i q) 0))

abbrev pub quiet : Link → Bool
quiet l = none_booked l && none_held l

-- RULES 10.1: the only test
abbrev pub reset_tests : Link → List Line
reset_tests l =
    -- something is booked or held
    23 when not (quiet l)
    ∷ []

-- RULES 10.2: each flow begins in HF with its whole share; what it holds stays, and so does its next number
abbrev pub from_head : Link → ℕ → Flow
from_head l i = moved_to (flow l i) (head (window l)) (share l i)

-- RULES 10.2: all owners are removed, and a current slot that had one stays taken by the mark. CP stays. Flow 0 is looked at first.
unfoldable pub reset_link : Link → Link
reset_link l = with_turn (with_mark (with_flows (with_owners l (λ q. none)) (from_head l)) (not (unbooked (owner l l.current)) || l.marked)) 0

-- RULES 10.1: the reset, where its test gives the number r, which leaves all as it was
unfoldable pub reset_after : ℕ → Link → Step ResetAnswer
reset_after zero l = record { link = reset_link l; answer = accepted tt }
reset_after (suc r) l = record { link = l; answer = refused (suc r) }

unfoldable pub reset : Link → Step ResetAnswer
reset l = reset_after (first_of (reset_tests l)) l
