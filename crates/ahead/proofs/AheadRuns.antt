-- Nobody's bookings move where tiles are sent ahead: the links of the two runs stay close. Assumes nothing.
use Prim.Native.Nat.{ℕ, suc, ◌<◌}
use mathlib.Core.Path.{◌≡◌, refl, sym, ap, ap₂, ◌∙◌, subst}
use mathlib.Core.List.{◌∷◌}
use mathlib.Core.Bool.{false}
use native.Mathlib.Nat.{mod-lt}
use native.Mathlib.Omega.{arith}
use Rattle.model.specs.Word.{flow_of, departure_of}
use Rattle.model.specs.Plan.{Plan, Accepted, positions, flow_count, plan_of}
use Rattle.model.specs.Calls.{Grant, History, requested, accepted, refused}
use Rattle.model.specs.Window.{passed}
use Rattle.model.specs.Link.{Link, window}
use Rattle.model.specs.Fresh.{fresh}
use Rattle.model.specs.Request.{request}
use Rattle.model.specs.Credit.{credit}
use Rattle.model.specs.Lend.{lent_to, lend}
use Rattle.model.specs.History.{ticks, slot_after, marks_of, grants}
use Rattle.model.specs.Claim.{Each}
use Rattle.model.specs.Scheduler.{reference}
use Rattle.ahead.specs.Ahead.{sent_ahead as leaves_ahead}
use Rattle.ahead.specs.AheadRuns.{WithAhead, start, both_tick, both_request, both_credit, both_lend, first_refused, second_refused, both_reset, sent_ahead}
use Rattle.ahead.specs.AheadRuns.{latest, GrantFrom, ResetFrom, RefusedToo, GrantsAfter, ResetsAfter, NoneAcceptedAlone, SameGrant, AnsweredAlike, AcceptedToo, Unmoved, NobodyMoves}
use Rattle.model.proofs.Plan.{accepted as accepted_plan}
use Rattle.model.proofs.Slots.{some-position}
use Rattle.model.proofs.AfterHistory.{After}
use Rattle.arrival.proofs.AcceptedCredits.{credit-was-accepted}
use Rattle.arrival.proofs.AnsweredLends.{lend-answered, lend-refused}
use Rattle.ahead.proofs.Ahead.{comes-to}
use Rattle.ahead.proofs.Replays.{link_after, Replayed, replays, stands_after}
use Rattle.ahead.proofs.CloseLinks.{Close}
use Rattle.ahead.proofs.CloseRequests.{close-request}
use Rattle.ahead.proofs.CloseCalls.{close-credit, close-lend, close-ahead, close-tick}
use Rattle.ahead.proofs.CloseResets.{close-reset}

-- what a tile sent ahead leaves
pub record SentAhead (l : Link) (m i p : ℕ) : Type 0 where
  pub known : i < flow_count l.plan
  pub below : p < positions l.plan
  pub to_come : passed (window l) p ≡ false
  pub leaves : (credit (lend l m).link i p).link ≡ leaves_ahead l i p

sent : {P : Plan} {l : Link} {h : History} → After P l h → (m i p : ℕ) → (lend l m).answer ≡ accepted i
    → (credit (lend l m).link i p).answer ≡ accepted tt → SentAhead l m i p
unfolding lent_to
sent {P} {l} {h} g m i p loan accepts =
    let ok = g.invariant.current.accepted in
    let x = lend-answered l m i ok.some_flow loan in
    let passes = credit-was-accepted (lent_to l i) i p (sym (ap (λ s. (credit s.link i p).answer) x.gets) ∙ accepts) in
    let inside : l.current < positions l.plan = rw g.invariant.current.current_is (mod-lt (ticks h) (some-position ok)) in
    record {
      known = x.known;
      below = passes.position;
      to_come = passes.later;
      leaves = ap (λ s. s.link) (comes-to l ok inside m i p loan passes.position passes.later);
    }

-- ---- two runs

module _ (P : Plan) (plan-ok : Accepted P) where
  -- the links after both are close, and what both runs were answered
  pub record Follows {h₁ h₂ : History} (x : WithAhead h₁ h₂) : Type 0 where
    pub same_ticks : ticks h₁ ≡ ticks h₂
    pub close : Close P (ticks h₁) (λ j. latest P x j) (link_after P h₁) (link_after P h₂)
    pub unmoved : Unmoved P x
    pub same_grants : grants P h₁ ≡ grants P h₂

  -- a request that is answered alike adds the same grant, or none
  one_more : (w : ℕ) (a₁ a₂ : Grant) (h₁ h₂ : History) → SameGrant a₁ a₂ → ticks h₁ ≡ ticks h₂ → grants P h₁ ≡ grants P h₂
      → grants P (requested w a₁ ∷ h₁) ≡ grants P (requested w a₂ ∷ h₂)
  unfolding grants marks_of
  one_more w (accepted v₁) (accepted v₂) h₁ h₂ same at_once before =
      ap₂ ◌∷◌ (ap₂ (λ t v. record { flow = flow_of w; slot = slot_after P t (departure_of v) }) at_once same) before
  one_more w (accepted v₁) (refused r₂) h₁ h₂ same at_once before = absurd same
  one_more w (refused r₁) (accepted v₂) h₁ h₂ same at_once before = absurd same
  one_more w (refused r₁) (refused r₂) h₁ h₂ same at_once before = before

  pub follows : {h₁ h₂ : History} (x : WithAhead h₁ h₂) → Each (Replayed P) h₁ → Each (Replayed P) h₂ → GrantsAfter P x → ResetsAfter P x
      → NoneAcceptedAlone x → Follows x
  unfolding ticks link_after grants marks_of fresh
  follows start e₁ e₂ order resets alone = record {
    same_ticks = refl;
    close = record {
      plan_first = refl;
      plan_second = refl;
      current = refl;
      owners = λ q below. refl;
      flows = λ j known. record { frame = refl; remainder = refl; number = refl; no_less = λ s w le. omega arith; same_from = λ s w le from. refl };
      begun = λ j known. omega (arith, some-position plan-ok);
    };
    unmoved = tt;
    same_grants = refl;
  }
  follows (both_tick x) e₁ e₂ order resets alone =
      let r = follows x e₁.1 e₂.1 order resets alone in
      let both = close-tick e₁.0.stands.invariant r.close in
      record {
        same_ticks = ap suc r.same_ticks;
        close = both.1;
        unmoved = (sym e₁.0.answer ∙ both.0 ∙ e₂.0.answer, r.unmoved);
        same_grants = r.same_grants;
      }
  follows (both_request {h₁ = h₁} {h₂ = h₂} {a₁ = a₁} {a₂ = a₂} w x) e₁ e₂ order resets alone =
      let r = follows x e₁.1 e₂.1 order.1 resets alone in
      let both =
      close-request e₁.0.stands.invariant r.close w (subst (GrantFrom P (ticks h₁) (latest P x (flow_of w))) (sym e₁.0.answer) order.0) in
      let alike : AnsweredAlike (ticks h₁) (latest P x (flow_of w)) a₁ a₂ =
      subst (λ a. AnsweredAlike (ticks h₁) (latest P x (flow_of w)) a a₂) e₁.0.answer
      (subst (AnsweredAlike (ticks h₁) (latest P x (flow_of w)) (request (link_after P h₁) w).answer) e₂.0.answer both.0) in
      record {
        same_ticks = r.same_ticks;
        close = both.1;
        unmoved = (alike, r.unmoved);
        same_grants = one_more w a₁ a₂ h₁ h₂ alike.same_grant r.same_ticks r.same_grants;
      }
  follows (both_credit {h₁ = h₁} {h₂ = h₂} {a₁ = a₁} {a₂ = a₂} j p x) e₁ e₂ order resets alone =
      let r = follows x e₁.1 e₂.1 order resets alone.1 in
      let both = close-credit e₁.0.stands.invariant r.close j p
      (subst (λ a. RefusedToo a (credit (link_after P h₂) j p).answer) (sym e₁.0.answer) (subst (RefusedToo a₁) (sym e₂.0.answer) alone.0)) in
      record {
        same_ticks = r.same_ticks;
        close = both.1;
        unmoved = (subst (λ a. AcceptedToo a a₂) e₁.0.answer (subst (AcceptedToo (credit (link_after P h₁) j p).answer) e₂.0.answer both.0), r.unmoved);
        same_grants = r.same_grants;
      }
  follows (both_lend {h₁ = h₁} {h₂ = h₂} {m₁ = m₁} {m₂ = m₂} j x) e₁ e₂ order resets alone =
      let r = follows x e₁.1 e₂.1 order resets alone in
      let v₁ = e₁.0.stands.invariant in
      let v₂ = e₂.0.stands.invariant in
      let loan₁ = lend-answered (link_after P h₁) m₁ j v₁.current.accepted.some_flow e₁.0.answer in
      let loan₂ = lend-answered (link_after P h₂) m₂ j v₂.current.accepted.some_flow e₂.0.answer in
      record {
        same_ticks = r.same_ticks;
        close =
            subst (λ k. Close P (ticks h₁) (λ j. latest P x j) k (lend (link_after P h₂) m₂).link) (sym (ap (λ s. s.link) loan₁.gets))
            (subst (Close P (ticks h₁) (λ j. latest P x j) (lent_to (link_after P h₁) j)) (sym (ap (λ s. s.link) loan₂.gets))
            (close-lend v₁ r.close j loan₁.known));
        unmoved = r.unmoved;
        same_grants = r.same_grants;
      }
  follows (first_refused {h₁ = h₁} {h₂ = h₂} {m = m} {r = n} x) e₁ e₂ order resets alone =
      let r = follows x e₁.1 e₂ order resets alone in
      record {
        same_ticks = r.same_ticks;
        close =
            subst (λ k. Close P (ticks h₁) (λ j. latest P x j) k (link_after P h₂)) (sym (lend-refused (link_after P h₁) m n e₁.0.answer)) r.close;
        unmoved = r.unmoved;
        same_grants = r.same_grants;
      }
  follows (second_refused {h₁ = h₁} {h₂ = h₂} {m = m} {r = n} x) e₁ e₂ order resets alone =
      let r = follows x e₁ e₂.1 order resets alone in
      record {
        same_ticks = r.same_ticks;
        close = subst (Close P (ticks h₁) (λ j. latest P x j) (link_after P h₁)) (sym (lend-refused (link_after P h₂) m n e₂.0.answer)) r.close;
        unmoved = r.unmoved;
        same_grants = r.same_grants;
      }
  follows (both_reset {h₁ = h₁} x) e₁ e₂ order resets alone =
      let r = follows x e₁.1 e₂.1 order resets.1 alone in
      let both =
      close-reset e₁.0.stands.invariant r.close (subst (ResetFrom (ticks h₁) (λ j. latest P x j)) (sym e₁.0.answer) resets.0) in
      record {
        same_ticks = r.same_ticks;
        close = both.1;
        unmoved = (sym e₁.0.answer ∙ both.0 ∙ e₂.0.answer, r.unmoved);
        same_grants = r.same_grants;
      }
  follows (sent_ahead {h₁ = h₁} {h₂ = h₂} {m = m} i p x) e₁ e₂ order resets alone =
      let r = follows x e₁ e₂.1.1 order resets alone in
      let after = sent e₂.1.0.stands m i p e₂.1.0.answer e₂.0.answer in
      record {
        same_ticks = r.same_ticks;
        close =
            subst (Close P (ticks h₁) (λ j. latest P (sent_ahead {h₁ = h₁} {h₂ = h₂} {m = m} i p x) j) (link_after P h₁)) (sym after.leaves)
            (close-ahead (stands_after P plan-ok h₁ e₁).invariant r.close i p after.known after.below after.to_come);
        unmoved = r.unmoved;
        same_grants = r.same_grants;
      }

pub nobody-moves : NobodyMoves reference
nobody-moves bytes passes calls₁ calls₂ x order resets alone =
    let P = plan_of bytes in
    let ok = accepted_plan bytes passes in
    let r = follows P ok x (replays P ok calls₁).each (replays P ok calls₂).each order resets alone in
    record { unmoved = r.unmoved; same_grants = r.same_grants }
