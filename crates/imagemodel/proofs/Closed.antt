-- The links that meet the conditions are closed under the calls: fresh makes one, and each call on one hands back one, of the same plan. Assumes nothing.
use Prim.Native.Nat.{ℕ, zero, suc, ◌%◌}
use mathlib.Core.Path.{◌≡◌, refl, ◌∙◌}
use mathlib.Core.List.{List, ◌∷◌, []}
use mathlib.Core.Option.{Option, some, none}
use mathlib.Core.Bool.{Bool, true, false, cond}
use lib.Dec.{eqb}
use Rattle.model.specs.Plan.{Plan, Accepted}
use Rattle.model.specs.Refusals.{first_of}
use Rattle.model.specs.Calls.{Call}
use Rattle.model.specs.Link.{Link}
use Rattle.model.specs.Fresh.{fresh}
use Rattle.model.specs.Request.{request}
use Rattle.model.specs.Request as request
use Rattle.model.specs.Credit.{credit_tests, lowered, credit_after, credit}
use Rattle.model.specs.Tick.{next_position, recycled, advanced, tick}
use Rattle.model.specs.Lend.{lend_tests, lent_to, first_in_turn, lent_after, lend_after, lend}
use Rattle.model.specs.Reset.{reset_tests, reset_link, reset_after, reset}
use Rattle.model.specs.Scheduler.{Played, reference, step, play, started, run}
use Rattle.imagemodel.specs.Consistent.{Keepable}
use Rattle.imagemodel.proofs.FreshKept.{fresh_kept}
use Rattle.imagemodel.proofs.CreditKept.{credit-kept}
use Rattle.imagemodel.proofs.LendKept.{lend-kept}
use Rattle.imagemodel.proofs.ResetKept.{reset-kept}
use Rattle.imagemodel.proofs.TickKept.{tick-kept}
use Rattle.imagemodel.proofs.RequestLeaves.{RequestLeaves, unchanged, moved, booked, request-leaves}
use Rattle.imagemodel.proofs.RequestKept.{request-kept}

-- k is of l's plan, and meets the conditions
pub record KeptAfter (l k : Link) : Type 0 where
  pub same_plan : k.plan ≡ l.plan
  pub kept : Keepable k

-- ---- the plan stays

left-plan : {l k : Link} → RequestLeaves l k → k.plan ≡ l.plan
unfolding request.booked
left-plan unchanged = refl
left-plan (moved i j c known w) = refl
left-plan (booked i j c p known w free) = refl

credit-plan : (l : Link) (i p : ℕ) → (credit l i p).link.plan ≡ l.plan
unfolding credit credit_after lowered
credit-plan l i p = go (first_of (credit_tests l i p))
  where
    go : (r : ℕ) → (credit_after r l i p).link.plan ≡ l.plan
    go zero = refl
    go (suc r) = refl

lend-plan : (l : Link) (mask : ℕ) → (lend l mask).link.plan ≡ l.plan
unfolding lend lend_after lent_after lent_to
lend-plan l mask = go (first_of (lend_tests l mask))
  where
    lent : (o : Option ℕ) → (lent_after l o).link.plan ≡ l.plan
    lent none = refl
    lent (some k) = refl

    go : (r : ℕ) → (lend_after r l mask).link.plan ≡ l.plan
    go zero = lent (first_in_turn l mask)
    go (suc r) = refl

reset-plan : (l : Link) → (reset l).link.plan ≡ l.plan
unfolding reset reset_after reset_link
reset-plan l = go (first_of (reset_tests l))
  where
    go : (r : ℕ) → (reset_after r l).link.plan ≡ l.plan
    go zero = refl
    go (suc r) = refl

pub tick-plan : (l : Link) → (tick l).link.plan ≡ l.plan
unfolding tick advanced recycled
tick-plan l = go (eqb (next_position l % l.plan.slots) 0)
  where
    go : (b : Bool) → (cond b (recycled l) l).plan ≡ l.plan
    go true = refl
    go false = refl

-- ---- any call

pub call_kept : (r : Played reference) → Keepable r.state → (c : Call) → KeptAfter r.state (step reference r c).state
call_kept r v (Call.request w) = record { same_plan = left-plan (request-leaves v w); kept = request-kept v w }
call_kept r v (Call.credit i p) = record { same_plan = credit-plan r.state i p; kept = credit-kept v i p }
call_kept r v Call.tick = record { same_plan = tick-plan r.state; kept = tick-kept v }
call_kept r v (Call.lend mask) = record { same_plan = lend-plan r.state mask; kept = lend-kept v mask }
call_kept r v Call.reset = record { same_plan = reset-plan r.state; kept = reset-kept v }

-- ---- and so after any list of calls

kept-played : (r : Played reference) → Keepable r.state → (calls : List Call) → KeptAfter r.state (play reference r calls).state
unfolding play
kept-played r v [] = record { same_plan = refl; kept = v }
kept-played r v (c ∷ calls) =
    let one = call_kept r v c in
    let rest = kept-played (step reference r c) one.kept calls in
    record { same_plan = rest.same_plan ∙ one.same_plan; kept = rest.kept }

pub kept_run : (P : Plan) → Accepted P → (calls : List Call) → KeptAfter (fresh P) (run reference P calls).state
kept_run P ok calls = kept-played (started reference P) (fresh_kept ok) calls
