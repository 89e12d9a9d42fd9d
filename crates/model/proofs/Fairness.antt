-- The reference scheduler is fair: its lends go in turn. Assumes nothing.
use Prim.Native.Nat.{ℕ, zero, suc, ◌-◌, ◌%◌, ◌≤◌, ◌<◌}
use mathlib.Core.Path.{◌≡◌, refl, sym, ap, ◌∙◌, subst}
use mathlib.Core.List.{List, ◌∷◌, []}
use mathlib.Core.Option.{Option, some, none}
use mathlib.Core.Bool.{Bool, true, false, cond}
use native.Mathlib.Nat.{mod-lt}
use native.Mathlib.Decide.{dec_le}
use native.Mathlib.Omega.{arith}
use Rattle.model.specs.Tables.{bit}
use Rattle.model.specs.Refusals.{first_of}
use Rattle.model.specs.Plan.{Plan, Accepted, flow_count, plan_of}
use Rattle.model.specs.Calls.{Call, Event, History, ResetAnswer, lent}
use Rattle.model.specs.Link.{Link, Step}
use Rattle.model.specs.Fresh.{fresh}
use Rattle.model.specs.Lend.{takes, lend_tests, lent_to, first_in_turn, lent_after, lend_after, lend}
use Rattle.model.specs.Reset.{quiet, reset}
use Rattle.model.specs.Scheduler.{Played, reference, step, play, started, run}
use Rattle.model.specs.Fairness.{Waits, FairOn, Fair}
use Rattle.model.proofs.Round.{first_with, first_with-low, first_with-mod, ahead-mod}
use Rattle.model.proofs.Tables.{Hit, first_from-some}
use Rattle.model.proofs.Plan as plan
use Rattle.model.proofs.ResetTests.{granted, not_granted, reset-is}
use Rattle.model.proofs.AfterHistory.{After}
use Rattle.model.proofs.AfterCalls.{Known, after-step, after-fresh}
use Rattle.model.proofs.TurnOrder.{place}
use Rattle.model.proofs.Turns.{Moves, Turned}
use Rattle.model.proofs.TurnCounts.{fair-on}
use Rattle.model.proofs.TurnKept.{request-leaves, credit-leaves, tick-leaves}
use Rattle.model.proofs.Waiting.{waiting-takes}

-- ---- the lend

module _ {l : Link} {h : History} (g : After l.plan l h) where
  open l use {plan as P}
  open g use {invariant as v}
  open v.current use {accepted as ok}

  abbrev n : ℕ
  n = flow_count P

  module _ (mask : ℕ) where
    abbrev test : ℕ → Bool
    test k = takes l mask (k % n)

    -- a flow that waits is not looked at before the one that is found
    none-passed-over : (k : ℕ) → Hit n l.turn k test → (j : ℕ) → j < n → Waits P j mask h → place n l.turn (k % n) ≤ place n l.turn j
    unfolding first_with
    none-passed-over k hit j known waits = go (dec_le (k - l.turn) (place n l.turn j))
      where
        some_flow : 0 < n
        some_flow = ok.some_flow

        at-k : place n l.turn (k % n) ≡ k - l.turn
        at-k = ahead-mod some_flow hit.low hit.high

        go : Dec (k - l.turn ≤ place n l.turn j) → place n l.turn (k % n) ≤ place n l.turn j
        go (yes le) = omega (arith, at-k)
        go (no gt) =
            let fails = hit.none_before (first_with n l.turn j) (first_with-low some_flow l.turn j) (omega arith) in
            let both : ◌≡◌ {A = Bool} true false =
            sym (waiting-takes g j mask known waits) ∙ ap (takes l mask) (sym (first_with-mod some_flow l.turn j known)) ∙ fails in
            let z : ◌≡◌ {A = ℕ} 1 0 = ap bit both in
            absurd (omega arith)

    found-moves : (o : Option ℕ) → first_in_turn l mask ≡ o → Moves P l.turn (lent_after l o).link.turn (lent mask (lent_after l o).answer) h
    unfolding first_in_turn lent_after lent_to
    found-moves none e = refl
    found-moves (some k) e = record {
      known = mod-lt k ok.some_flow;
      next = refl;
      first = none-passed-over k (first_from-some n l.turn test k e);
    }

    lend-moves : Moves P l.turn (lend l mask).link.turn (lent mask (lend l mask).answer) h
    unfolding lend lend_after
    lend-moves = go (first_of (lend_tests l mask))
      where
        go : (r : ℕ) → Moves P l.turn (lend_after r l mask).link.turn (lent mask (lend_after r l mask).answer) h
        go zero = found-moves (first_in_turn l mask) refl
        go (suc r) = refl

  reset-moves : Moves P l.turn (reset l).link.turn (Event.reset (reset l).answer) h
  reset-moves = rw (reset-is l) (go (quiet l))
    where
      handed : Bool → Step ResetAnswer
      handed b = cond b (granted l) (not_granted l)

      go : (b : Bool) → Moves P l.turn (handed b).link.turn (Event.reset (handed b).answer) h
      go true = tt
      go false = refl

-- ---- a list of calls

abbrev TurnedAfter : Plan → Played reference → Type 0
TurnedAfter P r = Turned P r.history r.state.turn

turned-call : (r : Played reference) (c : Call) → Known r.state.plan r → TurnedAfter r.state.plan r → TurnedAfter r.state.plan (step reference r c)
turned-call r (Call.request w) g t = Turned.moved t (request-leaves r.state w)
turned-call r (Call.credit i p) g t = Turned.moved t (credit-leaves r.state i p)
turned-call r Call.tick g t = Turned.moved t (tick-leaves r.state)
turned-call r (Call.lend mask) g t = Turned.moved t (lend-moves g mask)
turned-call r Call.reset g t = Turned.moved t (reset-moves g)

turned-calls : {P : Plan} (r : Played reference) (calls : List Call) → Known P r → TurnedAfter P r → TurnedAfter P (play reference r calls)
unfolding play
turned-calls r [] g t = t
turned-calls r (c ∷ calls) g t =
    turned-calls (step reference r c) calls (after-step r c g)
    (subst (λ P. Known P r → TurnedAfter P r → TurnedAfter P (step reference r c)) g.plan_is (turned-call r c) g t)

-- on any plan that keeps the limits, and so on the plan of any bytes that are accepted
pub fair-accepted : (P : Plan) → Accepted P → (calls : List Call) → FairOn P (run reference P calls).history
unfolding fresh
fair-accepted P ok calls =
    let r = run reference P calls in
    fair-on P ok.some_flow r.history r.state.turn (turned-calls (started reference P) calls (after-fresh ok) Turned.begun)

pub fair : Fair reference
fair bytes passes = fair-accepted (plan_of bytes) (plan.accepted bytes passes)
