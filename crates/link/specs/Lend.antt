-- The lend of the idle slot: what its flows are tested by, and which of them is found. Assumes nothing.
use Rattle.std.specs.Prelude.{ℕ, ◌%◌, List, Bool, ◌&&◌, get_or}
use Rattle.std.proofs.Math.Option as model
use Rattle.std.specs.Prelude.{Option, None, Some}
use Rattle.plan.specs.declared.Plan.{Plan}
use Rattle.plan.specs.Reading.{no_entry}
use Rattle.model.specs.Tables.{first_from}
use Rattle.model.specs.Calls.{in_mask}
use Rattle.model.specs.Window.{every_from}
use Rattle.window.specs.declared.Window.{Window}
use Rattle.window.specs.Window.{window_of}
use Rattle.tables.specs.Rows.{row}
use Rattle.tables.specs.Holdings.{room_at}

-- flow i of a plan is in the mask, and has room from the current position on
abbrev pub takes_in : Plan → Window → List ℕ → (mask i : ℕ) → Bool
takes_in plan w held mask i = in_mask mask i && every_from (window_of w) w.current (room_at (row held i) (get_or plan.entries i no_entry).cells)

-- the flow that a search finds which goes round n flows
abbrev pub flow_found : ℕ → model.Option ℕ → Option ℕ
flow_found n model.none = None
flow_found n (model.some k) = Some (k % n)

-- the first flow that passes t, looking from one of n flows on and going round
unfoldable pub first_taker : (ℕ → Bool) → (n from : ℕ) → Option ℕ
first_taker t n from = flow_found n (first_from n from (λ k. t (k % n)))
