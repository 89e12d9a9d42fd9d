-- The tick. RULES 8.1 to 8.3. Assumes nothing.
use Rattle.std.specs.Prelude.{ℕ, ◌+◌, ◌%◌, false, cond, eqb}
use Rattle.std.proofs.Math.Option.{Option, none}
use Rattle.model.specs.Tables.{table}
use Rattle.model.specs.Plan.{positions}
use Rattle.model.specs.Calls.{TickAnswer}
use Rattle.model.specs.Window.{head, next, in_head, last}
use Rattle.model.specs.Link.{Link, Flow, Step, window, owner, flow, holding, share}
use Rattle.model.specs.Link.{with_current, with_owners, with_flows, with_mark, moved_to, with_held}

-- RULES 8.1: the next CP
abbrev pub next_position : Link → ℕ
next_position l = (l.current + 1) % positions l.plan

-- ---- a frame change, on the link as it was before: its head frame is the old one

-- RULES 8.2: a flow whose IF is over gets the new head frame with its whole share
abbrev pub left_head : Link → ℕ → Flow
left_head l i =
    cond (eqb (flow l i).injection (head (window l))) (moved_to (flow l i) (next (window l) (head (window l))) (share l i)) (flow l i)

-- RULES 8.2: the positions of the frame that is over lose their owners
abbrev pub emptied : Link → ℕ → Option ℕ
emptied l q = cond (in_head (window l) q) none (owner l q)

-- RULES 8.2: and at each of them flow i holds what it held at the last position of the window, as they are the newest frame's now
abbrev pub carried_on : Link → ℕ → Flow → Flow
carried_on l i x = with_held x (table (positions l.plan) (λ q. cond (in_head (window l) q) (holding l i (last (window l))) (holding l i q)))

unfoldable pub recycled : Link → Link
recycled l = with_flows (with_owners l (emptied l)) (λ i. carried_on l i (left_head l i))

-- ---- the tick

-- RULES 8.2: a frame change where CP mod F comes to 0. HF goes on with CP, whose frame it is.
abbrev pub moved_on : Link → Link
moved_on l = with_current (cond (eqb (next_position l % l.plan.slots) 0) (recycled l) l) (next_position l)

-- RULES 8.1: the mark is turned off
unfoldable pub advanced : Link → Link
advanced l = with_mark (moved_on l) false

-- RULES 8.3: the owner of the new CP, or idle
unfoldable pub tick : Link → Step TickAnswer
tick l = record { link = advanced l; answer = owner (advanced l) (next_position l) }
