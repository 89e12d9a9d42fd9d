-- A list of calls: the link that a run of the reference scheduler comes to stands after the run's history. Assumes nothing.
use mathlib.Core.Path.{refl, ap, subst}
use mathlib.Core.List.{List, [], ◌∷◌}
use Rattle.model.specs.Tables.{tally}
use Rattle.model.specs.Plan.{Plan, Accepted}
use Rattle.model.specs.Calls.{Call, History}
use Rattle.model.specs.Link.{Link}
use Rattle.model.specs.Fresh.{fresh}
use Rattle.model.specs.History.{ticks, origin, grants, credits, grants_since, refusals_since}
use Rattle.model.specs.Scheduler.{Played, reference, step, play, started, run}
use Rattle.model.proofs.FreshKeeps.{fresh-flow, fresh_keeps, fresh-least}
use Rattle.model.proofs.HistoryCounts.{raises}
use Rattle.model.proofs.AfterHistory.{After}
use Rattle.model.proofs.AfterRequest.{after-request}
use Rattle.model.proofs.AfterCredit.{after-credit}
use Rattle.model.proofs.AfterTick.{after_tick}
use Rattle.model.proofs.AfterLend.{after-lend}
use Rattle.model.proofs.AfterReset.{after-reset}

-- what is known after the calls that were played
abbrev pub Known : Plan → Played reference → Type 0
Known P r = After P r.state r.history

after_call : (r : Played reference) (c : Call) → Known r.state.plan r → Known r.state.plan (step reference r c)
after_call r (Call.request w) g = after-request g w
after_call r (Call.credit i p) g = after-credit g i p
after_call r Call.tick g = after_tick g
after_call r (Call.lend m) g = after-lend g m
after_call r Call.reset g = after-reset g

pub after-step : {P : Plan} (r : Played reference) (c : Call) → Known P r → Known P (step reference r c)
after-step r c g = subst (λ P. Known P r → Known P (step reference r c)) g.plan_is (after_call r c) g

pub after-calls : {P : Plan} (r : Played reference) (calls : List Call) → Known P r → Known P (play reference r calls)
unfolding play
after-calls r [] g = g
after-calls r (c ∷ calls) g = after-calls (step reference r c) calls (after-step r c g)

pub after-fresh : {P : Plan} → Accepted P → After P (fresh P) []
unfolding fresh ticks origin grants grants_since refusals_since raises credits tally
after-fresh ok = record {
  plan_is = refl;
  invariant = fresh_keeps ok;
  events = tt;
  least = λ i known asked. fresh-least ok i known;
  numbers = λ i known. ap (λ x. x.number) (fresh-flow ok i known);
}

-- What holds of each link that stands after a history holds after every list of calls.
pub after_run : (Q : Plan → Link → History → Type 0) → ((l : Link) (h : History) → After l.plan l h → Q l.plan l h)
    → (P : Plan) → Accepted P → (calls : List Call) → Q P (run reference P calls).state (run reference P calls).history
after_run Q holds P ok calls =
    let r = run reference P calls in
    let g = after-calls (started reference P) calls (after-fresh ok) in
    subst (λ R. Known R r → Q R r.state r.history) g.plan_is (holds r.state r.history) g
