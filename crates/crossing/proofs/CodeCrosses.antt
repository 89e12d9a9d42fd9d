-- A crossing that the code plays crosses well. Assumes nothing.
use Prim.Native.Nat.{ℕ}
use mathlib.Core.Path.{◌≡◌, refl, sym, ◌∙◌}
use mathlib.Core.List.{List, ◌∷◌, []}
use mathlib.Core.Option.{some, none}
use mathlib.Core.Bool.{Bool, true, false, cond}
use lib.ListN.{get_or}
use Rattle.model.specs.Plan.{Accepted}
use Rattle.model.specs.Scheduler.{reference, step}
use Rattle.model.specs.TwoHops.{InStep}
use Rattle.plan.specs.Reading.{plan_for}
use Rattle.link.specs.Steps.{read_in}
use Rattle.crossings.specs.Crossing as crossings
use Rattle.crossings.specs.Playing.{Other, on_arriving, on_leaving, theirs_arriving, theirs_leaving, another, others, both_tick}
use Rattle.crossings.specs.Claim.{Onward, Crosses}
use Rattle.crossings.proofs.Board.{Full}
use Rattle.crossings.proofs.Crosses.{begun-full, others-full, part-full, slot-alone-full, crosses}
use Rattle.crossing.specs.declared.Crossing.{Crossing}
use Rattle.crossing.specs.Reading.{onward_of, Reads}
use Rattle.crossing.specs.CodePlayed.{InHand}

-- ---- what others ask changes neither where flows go on nor the tiles that wait

record LeftAlone (p q : crossings.Crossing) : Type 0 where
  onward : q.onward ≡ p.onward
  waiting : q.waiting ≡ p.waiting

alone-another : (o : Other) (p : crossings.Crossing) → LeftAlone p (another o p)
alone-another (on_arriving c) p = go (theirs_arriving p c)
  where
    go : (b : Bool) → LeftAlone p (cond b (crossings.crossing_with p (step reference p.arriving c) p.leaving p.waiting) p)
    go true = record { onward = refl; waiting = refl }
    go false = record { onward = refl; waiting = refl }
alone-another (on_leaving c) p = go (theirs_leaving p c)
  where
    go : (b : Bool) → LeftAlone p (cond b (crossings.crossing_with p p.arriving (step reference p.leaving c) p.waiting) p)
    go true = record { onward = refl; waiting = refl }
    go false = record { onward = refl; waiting = refl }

alone : (os : List Other) (p : crossings.Crossing) → LeftAlone p (others os p)
unfolding others
alone [] p = record { onward = refl; waiting = refl }
alone (o ∷ os) p =
    let one = alone-another o p in
    let rest = alone os (another o p) in
    record { onward = rest.onward ∙ one.onward; waiting = rest.waiting ∙ one.waiting }

-- ---- what is read is what was asked

others-read : {x : Crossing} {a b k : List ℕ} (os : List Other) (p : crossings.Crossing) → p.onward ≡ onward_of x → p.waiting ≡ k
    → read_in x.arriving a ≡ (others os p).arriving.state → read_in x.leaving b ≡ (others os p).leaving.state → Reads (others os p) x a b k
others-read os p goes_on waits first second =
    let z = alone os p in
    record { arriving_is = sym first; leaving_is = sym second; onward_is = z.onward ∙ goes_on; waiting_is = z.waiting ∙ waits }

pub in-hand-reads : {x : Crossing} {p : crossings.Crossing} {a b k : List ℕ} → InHand x p a b k → Reads p x a b k
in-hand-reads (InHand.by_fresh first second) = record { arriving_is = sym first; leaving_is = sym second; onward_is = refl; waiting_is = refl }
in-hand-reads (InHand.by_others {p} calls h first second) =
    let r = in-hand-reads h in
    others-read calls p r.onward_is r.waiting_is first second
in-hand-reads (InHand.by_slot {p} before h first second comes) =
    let r = in-hand-reads h in
    comes (others before (both_tick p)) (others-read before (both_tick p) r.onward_is r.waiting_is first second)
in-hand-reads (InHand.by_cross {p} h comes) = comes p (in-hand-reads h)

module _ {x : Crossing} (ok-P : Accepted (plan_for x.arriving)) (ok-Q : Accepted (plan_for x.leaving))
    (in_step : InStep (plan_for x.arriving) (plan_for x.leaving))
    (goes_on : Onward (plan_for x.arriving) (plan_for x.leaving) (onward_of x)) where
  full : {p : crossings.Crossing} {a b k : List ℕ} → InHand x p a b k → Full ok-P ok-Q in_step goes_on p
  full (InHand.by_fresh first second) = begun-full ok-P ok-Q in_step goes_on
  full (InHand.by_others {p} calls h first second) = others-full ok-P ok-Q in_step goes_on calls p (full h)
  full (InHand.by_slot {p} before h first second comes) = part-full ok-P ok-Q in_step goes_on before p (full h)
  full (InHand.by_cross {p} h comes) = slot-alone-full ok-P ok-Q in_step goes_on p (full h)

  -- RULES 27.7 to 27.10, of each flow that goes on here
  pub code-crosses-well : {p : crossings.Crossing} {a b k : List ℕ} → InHand x p a b k → (i j : ℕ) → get_or (onward_of x) i none ≡ some j
      → Crosses (plan_for x.arriving) (plan_for x.leaving) i j p
  code-crosses-well h i j goes = crosses ok-P ok-Q in_step goes_on (full h) i j goes
