-- The next board's buffer. RULES 21.5. Assumes nothing.
use Rattle.std.specs.Prelude.{ℕ, ◌+◌, ◌≤◌, ◌≡◌, List}
use Rattle.model.specs.Tables.{sum}
use Rattle.model.specs.Plan.{Plan, flow_count, plan_of, refusal}
use Rattle.model.specs.Calls.{Call, History}
use Rattle.model.specs.History.{granted_up_to, lent_up_to, credited_up_to}
use Rattle.model.specs.Scheduler.{Scheduler, run}

-- RULES 21.5: all streams together hold at most N at slot s.
abbrev pub FitsBuffer : Plan → History → ℕ → Type 0
FitsBuffer P h s = sum (flow_count P) (λ i. granted_up_to P h i s + lent_up_to h i s) ≤ sum (flow_count P) (λ i. credited_up_to P h i s) + P.buffer

-- RULES 21.5: so at every slot, after every list of calls
abbrev pub NeverOverfull : Scheduler → Type 0
NeverOverfull c =
    (bytes : List ℕ) → refusal bytes ≡ 0 → (calls : List Call) (s : ℕ) → FitsBuffer (plan_of bytes) (run c (plan_of bytes) calls).history s
