-- Schedulers that refuse credits of cells that are held meet demand 3, and are prompt and soon: a refused credit changes nothing that these count. Assumes
-- nothing.
use Prim.Native.Nat.{ℕ, ◌<◌}
use mathlib.Core.Path.{◌≡◌, refl, subst}
use mathlib.Core.List.{List, [], ◌∷◌}
use mathlib.Core.Bool.{Bool, true, false, cond}
use Rattle.model.specs.Plan.{Plan, flow_count, plan_of, Accepted}
use Rattle.model.specs.Calls.{Call, CreditAnswer, credited, refused}
use Rattle.model.specs.Link.{Link}
use Rattle.model.specs.Claim.{Each, GrantedWordAt, Demand3}
use Rattle.model.specs.Scheduler.{Scheduler, Played, Meets, reference, step, play, started, run}
use Rattle.arrival.specs.Delay.{FitsNewest, PromptOn, Prompt, TimelyInOrder, SoonOn, SoonAhead, Soon}
use Rattle.arrival.specs.WrongCredits.{keeps_cells}
use Rattle.model.proofs.Plan as plan
use Rattle.model.proofs.AfterCredit.{not-accepted}
use Rattle.model.proofs.AfterCalls.{Known, after-step, after-fresh}
use Rattle.model.proofs.Demand3.{each_map, demand3}
use Rattle.model.proofs.EventsOfRuns.{Happened, happens, one_more as happened-more}
use Rattle.arrival.proofs.Prompt.{prompt-more}
use Rattle.arrival.proofs.FrontsKept.{fresh_kept, refused-credit-kept}
use Rattle.arrival.proofs.Soon.{KeptAfter, kept_more}
use Rattle.arrival.proofs.SoonOnArrival.{soon-if-ready}
use Rattle.arrival.proofs.SlowSchedulers.{same-events}

-- the same link, with a refused credit as one event more
abbrev kept : Played reference → (i p : ℕ) → Played reference
kept r i p = record { state = r.state; history = credited i p (refused 15) ∷ r.history }

known_kept : {P : Plan} (r : Played reference) (i p : ℕ) → Known P r → Known P (kept r i p)
known_kept r i p g = subst (λ P. Known P r → Known P (kept r i p)) g.plan_is (λ g. not-accepted g i p 15) g

module _ (keeps : Played reference → (i p : ℕ) → Bool) where
  abbrev scheduler : Scheduler
  scheduler = keeps_cells keeps

  abbrev answer : Played reference → ℕ → ℕ → Link × CreditAnswer
  answer r i p = cond (keeps r i p) (r.state, refused 15) (reference.credit r.state i p)

  -- What each call of the reference scheduler keeps, and a refused credit, holds after every list of calls on this scheduler.
  module _ {P : Plan} (ok : Accepted P) (Q : Played reference → Type 0)
      (by_call : (r : Played reference) (c : Call) → Known P r → Each (Happened P) r.history → Q r → Q (step reference r c))
      (by-refusal : (r : Played reference) (i p : ℕ) → Known P r → Q r → Q (kept r i p)) (first : Q (started reference P)) where
    record Stands (r : Played reference) : Type 0 where
      known : Known P r
      happened : Each (Happened P) r.history
      has : Q r

    by-reference : (r : Played reference) (c : Call) → Stands r → Stands (step reference r c)
    by-reference r c s = record {
      known = after-step r c s.known;
      happened = happened-more r c s.known s.happened;
      has = by_call r c s.known s.happened s.has;
    }

    stands-more : (r : Played scheduler) (c : Call) → Stands r.state → Stands (step scheduler r c).state
    stands-more r (Call.request w) s = by-reference r.state (Call.request w) s
    stands-more r Call.tick s = by-reference r.state Call.tick s
    stands-more r (Call.lend m) s = by-reference r.state (Call.lend m) s
    stands-more r Call.reset s = by-reference r.state Call.reset s
    stands-more r (Call.credit i p) s = go (keeps r.state i p)
      where
        handed : Bool → Link × CreditAnswer
        handed b = cond b (r.state.state, refused 15) (reference.credit r.state.state i p)

        go : (b : Bool) → Stands (record { state = (handed b).0; history = credited i p (handed b).1 ∷ r.state.history })
        go true =
            let later = known_kept r.state i p s.known in
            record {
              known = later;
              happened = (happens s.known later tt, s.happened);
              has = by-refusal r.state i p s.known s.has;
            }
        go false = by-reference r.state (Call.credit i p) s

    -- so it is of the state that the calls come to, with their events
    record Ends (r : Played scheduler) : Type 0 where
      stands : Stands r.state
      events : r.state.history ≡ r.history

    ends : (r : Played scheduler) (calls : List Call) → Stands r.state → r.state.history ≡ r.history → Ends (play scheduler r calls)
    unfolding play
    ends r [] s e = record { stands = s; events = e }
    ends r (c ∷ calls) s e = ends (step scheduler r c) calls (stands-more r c s) (same-events (λ r w. reference.request r.state w) answer r c e)

    ends-run : (calls : List Call) → Ends (run scheduler P calls)
    ends-run calls = ends (started scheduler P) calls (record { known = after-fresh ok; happened = tt; has = first }) refl

  -- ---- the promises

  pub keeping-meets : Meets scheduler
  keeping-meets bytes passes calls i below =
      let P = plan_of bytes in
      let x = ends-run (plan.accepted bytes passes) (λ r. Unit {0}) (λ r c g each q. tt) (λ r i p g q. tt) tt calls in
      let r = (run scheduler P calls).state in
      subst (Demand3 P i) x.events
      (subst (λ Q. Known Q r → i < flow_count Q → Demand3 Q i r.history) x.stands.known.plan_is
      (λ g lt. demand3 r.state r.history g i lt) x.stands.known below)

  pub keeping-is-prompt : Prompt scheduler
  keeping-is-prompt bytes passes calls =
      let P = plan_of bytes in
      let x = ends-run (plan.accepted bytes passes) (λ r. PromptOn FitsNewest 0 P r.history) prompt-more (λ r i p g q. (tt, q)) tt calls in
      subst (PromptOn FitsNewest 0 P) x.events x.stands.has

  module _ (bytes : List ℕ) (ok : Accepted (plan_of bytes)) (calls : List Call) where
    abbrev P : Plan
    P = plan_of bytes

    refusal-kept : (r : Played reference) (i p : ℕ) → Known P r → KeptAfter P r → KeptAfter P (kept r i p)
    refusal-kept r i p g = subst (λ Q. Known Q r → KeptAfter Q r → KeptAfter Q (kept r i p)) g.plan_is (λ g q j below. refused-credit-kept g below i p 15 (q j below)) g

    ended : Ends ok (KeptAfter P) kept_more refusal-kept (fresh_kept ok) (run scheduler P calls)
    ended = ends-run ok (KeptAfter P) kept_more refusal-kept (fresh_kept ok) calls

    soon-there : (i : ℕ) → i < flow_count P → SoonOn TimelyInOrder 0 P i (run scheduler P calls).history
    soon-there i below = subst (SoonOn TimelyInOrder 0 P i) ended.events (λ m. (ended.stands.has i below m).served)

    words-there : Each (GrantedWordAt P) (run scheduler P calls).history
    words-there = subst (Each (GrantedWordAt P)) ended.events (each_map (Happened P) (GrantedWordAt P) (λ e h x. x.word) (run scheduler P calls).state.history ended.stands.happened)

  pub keeping-is-soon-ahead : SoonAhead scheduler
  keeping-is-soon-ahead bytes passes calls = soon-there bytes (plan.accepted bytes passes) calls

  pub keeping-is-soon : Soon scheduler
  keeping-is-soon bytes passes calls i below =
      let ok = plan.accepted bytes passes in
      soon-if-ready ok i (run scheduler (plan_of bytes) calls).history (words-there bytes ok calls) (soon-there bytes ok calls i below)
