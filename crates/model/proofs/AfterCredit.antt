-- A credit on a link that stands after a history. Assumes nothing.
use Prim.Native.Nat.{ℕ, zero, suc, ◌-◌, ◌<◌}
use mathlib.Core.Path.{◌≡◌, refl}
use mathlib.Core.List.{◌∷◌}
use Rattle.model.specs.Refusals.{first_of}
use Rattle.model.specs.Plan.{flow_count}
use Rattle.model.specs.Calls.{CreditAnswer, History, credited, accepted, refused}
use Rattle.model.specs.Link.{Link, flow, with_held, held_from}
use Rattle.model.specs.Credit.{credit_tests, lowered, credit_after, credit}
use Rattle.model.specs.History.{ticks, origin, grants, credits, grants_since, refusals_since}
use Rattle.model.proofs.LinkUpdates.{each_flow}
use Rattle.model.proofs.CreditKeeps.{CreditPasses, credit-passes, credit-keeps}
use Rattle.model.proofs.HistoryCounts.{raises}
use Rattle.model.proofs.AfterHistory.{LeastOf, NumberOf, After, after-event}

module _ {l : Link} {h : History} (g : After l.plan l h) (i p : ℕ) where
  open l use {plan as P}

  -- no credit changes what the least count needs of a flow
  least_kept : (a : CreditAnswer) (q : ℕ) → q < flow_count P → LeastOf P (credited i p a ∷ h) q (flow l q)
  unfolding ticks origin grants_since refusals_since
  least_kept a q known asked = g.least q known (record { ready = asked.ready.1; refused_before = asked.refused_before })

  accepts : CreditPasses l i p → After P (lowered l i p) (credited i p (accepted tt) ∷ h)
  unfolding ticks origin grants grants_since raises credits lowered
  accepts c = after-event g (record {
    plan_is = refl;
    keeps = credit-keeps g.invariant c;
    soon = tt;
    comes_up = tt;
    word = tt;
    after_departure = tt;
    loan = tt;
    numbered = tt;
    least =
        each_flow l (LeastOf P (credited i p (accepted tt) ∷ h)) i (with_held (flow l i) (held_from l i p (λ x. x - 1)))
        (least_kept (accepted tt) i c.known) (λ q known d. least_kept (accepted tt) q known);
    numbers = each_flow l (NumberOf P h) i (with_held (flow l i) (held_from l i p (λ x. x - 1))) (g.numbers i c.known) (λ q known d. g.numbers q known);
  })

  pub not-accepted : (r : ℕ) → After P l (credited i p (refused r) ∷ h)
  unfolding ticks origin grants grants_since raises credits
  not-accepted r = after-event g (record {
    plan_is = refl;
    keeps = g.invariant;
    soon = tt;
    comes_up = tt;
    word = tt;
    after_departure = tt;
    loan = tt;
    numbered = tt;
    least = least_kept (refused r);
    numbers = g.numbers;
  })

  pub after-credit : After P (credit l i p).link (credited i p (credit l i p).answer ∷ h)
  unfolding credit credit_after
  after-credit = go (first_of (credit_tests l i p)) refl
    where
      go : (r : ℕ) → first_of (credit_tests l i p) ≡ r → After P (credit_after r l i p).link (credited i p (credit_after r l i p).answer ∷ h)
      go zero e = accepts (credit-passes l i p e)
      go (suc r) e = not-accepted (suc r)
