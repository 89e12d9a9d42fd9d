-- The link's table says the model's holding, in every slot of the window. Assumes nothing.
use Prim.Native.Nat.{ℕ, ◌<◌}
use mathlib.Core.Path.{sym, ◌∙◌}
use mathlib.Core.List.{List}
use Rattle.model.specs.Plan.{Plan, Accepted, flow_count, plan_of}
use Rattle.model.specs.Calls.{Call}
use Rattle.model.specs.History.{up_to}
use Rattle.model.specs.Scheduler.{reference, run}
use Rattle.model.specs.Holding.{HoldingIs, TableIsHolding}
use Rattle.model.proofs.Plan.{accepted}
use Rattle.model.proofs.HistoryCounts.{raises-are}
use Rattle.model.proofs.AfterCalls.{after_run}

pub holding-accepted : (P : Plan) → Accepted P → (calls : List Call) (i : ℕ) → i < flow_count P
    → HoldingIs P (run reference P calls).state (run reference P calls).history i
holding-accepted =
    after_run (λ P l h. (i : ℕ) → i < flow_count P → HoldingIs P l h i)
    (λ l h g i known. record { at_slot = λ s w. sym (raises-are l.plan (up_to i s) h) ∙ (g.invariant.holds i known s).at_slot w })

pub table-is-holding : TableIsHolding
table-is-holding bytes passes = holding-accepted (plan_of bytes) (accepted bytes passes)
