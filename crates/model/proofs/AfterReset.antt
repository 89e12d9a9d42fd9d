-- A reset on a link that stands after a history. Assumes nothing.
use Prim.Native.Nat.{ℕ, ◌<◌}
use mathlib.Core.Path.{◌≡◌, refl, sym, ap, ◌∙◌, subst}
use mathlib.Core.List.{◌∷◌}
use mathlib.Core.Bool.{Bool, true, false, cond}
use native.Mathlib.Omega.{arith}
use Rattle.model.specs.Tables.{tally}
use Rattle.model.specs.Plan.{flow_count}
use Rattle.model.specs.Calls.{Event, History, ResetAnswer, accepted, refused}
use Rattle.model.specs.Link.{Link, Step, flow}
use Rattle.model.specs.Reset.{quiet, from_head, reset_link, reset}
use Rattle.model.specs.History.{ticks, frame_of, origin, grants, credits, grants_since, refusals_since}
use Rattle.model.proofs.Round.{mod-unique}
use Rattle.model.proofs.Slots.{some-frame}
use Rattle.model.proofs.Window.{head_is}
use Rattle.model.proofs.LinkUpdates.{flow-with_flows}
use Rattle.model.proofs.ResetTests.{granted, not_granted, reset-is, Quiet, quiet-parts}
use Rattle.model.proofs.ResetKeeps.{reset-keeps}
use Rattle.model.proofs.HistoryCounts.{raises}
use Rattle.model.proofs.AfterHistory.{LeastOf, NumberOf, After, after-event}

module _ {l : Link} {h : History} (g : After l.plan l h) where
  open l use {plan as P}
  open g use {invariant as v}
  open v.current use {accepted as ok}

  -- nothing is granted yet, and every flow injects in the frame with which the counts begin
  least-reset : (q : ℕ) → q < flow_count P → LeastOf P (Event.reset (accepted tt) ∷ h) q (flow (reset_link l) q)
  unfolding ticks origin grants_since refusals_since tally reset_link
  least-reset q known asked = record {
    before_injection = λ a low high e f since below.
        let at_head = ap (λ x. x.injection) (sym (flow-with_flows l (from_head l) q known)) ∙ e in
        let z : frame_of P (ticks h) ≡ a =
        mod-unique (some-frame ok) {b = frame_of P (ticks h)} (omega arith) (omega (arith, some-frame ok)) low high (sym (head_is v.current) ∙ at_head) in
        absurd (omega arith);
    after_a_change = λ since. absurd (omega arith);
    after_a_refusal = λ re. absurd (omega arith);
  }

  after-granted : Quiet l → After P (reset_link l) (Event.reset (accepted tt) ∷ h)
  unfolding ticks origin grants grants_since raises credits reset_link
  after-granted q = after-event g (record {
    plan_is = refl;
    keeps = reset-keeps v q.none_booked;
    soon = tt;
    comes_up = tt;
    word = tt;
    after_departure = tt;
    loan = tt;
    numbered = tt;
    least = least-reset;
    numbers = λ q known. subst (NumberOf P h q) (sym (flow-with_flows l (from_head l) q known)) (g.numbers q known);
  })

  after-refused : After P l (Event.reset (refused 23) ∷ h)
  unfolding ticks origin grants grants_since refusals_since raises credits
  after-refused = after-event g (record {
    plan_is = refl;
    keeps = v;
    soon = tt;
    comes_up = tt;
    word = tt;
    after_departure = tt;
    loan = tt;
    numbered = tt;
    least = λ q known asked. g.least q known (record { ready = asked.ready.1; refused_before = asked.refused_before });
    numbers = g.numbers;
  })

  pub after-reset : After P (reset l).link (Event.reset (reset l).answer ∷ h)
  after-reset = rw (reset-is l) (go (quiet l) refl)
    where
      step : Bool → Step ResetAnswer
      step b = cond b (granted l) (not_granted l)

      go : (b : Bool) → quiet l ≡ b → After P (step b).link (Event.reset (step b).answer ∷ h)
      go true e = after-granted (quiet-parts l e)
      go false e = after-refused
