-- A lend and a credit of the flow that it is answered with, dated a later position: the credit is taken, and what the two come to. Assumes nothing.
use Prim.Native.Nat.{ℕ, suc, ◌+◌, ◌-◌, ◌%◌, ◌≤◌, ◌<◌}
use mathlib.Core.Path.{◌≡◌, refl, sym, ap, ap₂, ◌∙◌, subst}
use mathlib.Core.Bool.{Bool, true, false, not, ◌&&◌, cond}
use native.Mathlib.Nat.{mod-lt, mod-eq_of_lt}
use native.Mathlib.Decide.{ℕ_discrete}
use native.Mathlib.Omega.{arith}
use lib.Dec.{leb, ltb, eqb}
use lib.ListN.{get_or}
use borrow.Author.Tests.{leb-true, leb-false, le-leb, lt-ltb, eq-eqb, ne_eqb}
use Rattle.model.specs.Plan.{positions, flow_count, plan_of}
use Rattle.model.specs.Calls.{History, accepted}
use Rattle.model.specs.Window.{Window, passed, from_on, every_from}
use Rattle.model.specs.Link.{Link, window, link_with, flow, holding, with_held, held_from}
use Rattle.model.specs.Credit.{lowered, credit}
use Rattle.model.specs.Lend.{lent_to, lend}
use Rattle.model.specs.History.{ticks, has_come}
use Rattle.model.specs.Holding.{InWindow}
use Rattle.model.specs.Scheduler.{reference}
use Rattle.ahead.specs.Ahead.{held_until, sent_ahead, ComesTo, AheadAccepted}
use Rattle.model.proofs.Plan.{accepted as accepted_plan}
use Rattle.model.proofs.Tables.{table_same}
use Rattle.model.proofs.Slots.{some-position, slot_at, slot_at-in-window, slot_at-position, current-in-window}
use Rattle.model.proofs.Window.{Current, passed_is, from_on-is, every_from-intro}
use Rattle.model.proofs.Departures.{come-at}
use Rattle.model.proofs.LinkUpdates.{flow-same, flow-other, held_from-at}
use Rattle.model.proofs.CreditKeeps.{CreditPasses}
use Rattle.model.proofs.AfterHistory.{After}
use Rattle.model.proofs.AfterCalls.{after_run}
use Rattle.arrival.proofs.AcceptedCredits.{credit-accepted}
use Rattle.arrival.proofs.AnsweredLends.{lend-answered}

-- ---- the two calls

module _ (l : Link) {t : ℕ} (now : Current l.plan t l.current) {i p : ℕ} (known : i < flow_count l.plan) (below : p < positions l.plan)
    (to_come : passed (window l) p ≡ false) where
  open l use {plan as P}
  open now use {accepted as ok}

  abbrev T : ℕ
  T = positions P

  abbrev w : Window
  w = window l

  -- the slot that the credit is dated
  abbrev s : ℕ
  s = slot_at ok t p

  w-s : InWindow P t s
  w-s = slot_at-in-window ok t p

  at_p : s % T ≡ p
  at_p = slot_at-position ok t p below

  after : t < s
  after = leb-false s t (sym (passed_is now s w-s) ∙ ap (passed w) at_p ∙ to_come)

  -- by slots, CP and the date are t and s
  from-current : (r : ℕ) → InWindow P t r → from_on w l.current (r % T) ≡ leb t r
  from-current r w-r = ap (λ q. from_on w q (r % T)) now.current_is ∙ from_on-is now t r (current-in-window ok t) w-r

  from-date : (r : ℕ) → InWindow P t r → from_on w p (r % T) ≡ leb s r
  from-date r w-r = ap (λ q. from_on w q (r % T)) (sym at_p) ∙ from_on-is now s r w-s w-r

  -- a position from the date on is one from CP on
  on-from-current : (q : ℕ) → q < T → from_on w p q ≡ true → from_on w l.current q ≡ true
  on-from-current q h e =
      let r = slot_at ok t q in
      let w-r = slot_at-in-window ok t q in
      let at-q = slot_at-position ok t q h in
      let late : s ≤ r = leb-true s r (sym (from-date r w-r) ∙ ap (from_on w p) at-q ∙ e) in
      ap (from_on w l.current) (sym at-q) ∙ from-current r w-r ∙ le-leb t r (omega (arith, after))

  -- ---- the link that the lend leaves

  lent-flow : flow (lent_to l i) i ≡ with_held (flow l i) (held_from l i l.current suc)
  unfolding lent_to
  lent-flow = flow-same l i _ known

  lent-holding : (q : ℕ) → q < T → holding (lent_to l i) i q ≡ cond (from_on w l.current q) (suc (holding l i q)) (holding l i q)
  lent-holding q h = ap (λ x. get_or x.held q 0) lent-flow ∙ held_from-at l i l.current suc q h

  pub passes-after-lend : CreditPasses (lent_to l i) i p
  unfolding lent_to
  passes-after-lend = record {
    known = known;
    position = below;
    later = to_come;
    holds =
        subst (λ q. every_from w q (λ r. ltb 0 (holding (lent_to l i) i r)) ≡ true) at_p
        (every_from-intro now s (λ q. ltb 0 (holding (lent_to l i) i q)) w-s λ r w-r late.
        ap (ltb 0) (lent-holding (r % T) (mod-lt r (some-position ok)))
        ∙ ap (λ b. ltb 0 (cond b (suc (holding l i (r % T))) (holding l i (r % T)))) (from-current r w-r ∙ le-leb t r (omega (arith, after)))
        ∙ lt-ltb 0 (suc (holding l i (r % T))) (omega arith));
  }

  -- one more from CP on, and one less from the date on
  until : (x : ℕ) (a b : Bool) → (b ≡ true → a ≡ true) → cond b (cond a (suc x) x - 1) (cond a (suc x) x) ≡ cond (a && not b) (suc x) x
  until x true true both = omega arith
  until x false true both = let z : ◌≡◌ {A = Bool} false true = both refl in let no : ◌≡◌ {A = ℕ} 0 1 = cc in absurd (omega arith)
  until x true false both = refl
  until x false false both = refl

  held-until : held_from (lent_to l i) i p (λ x. x - 1) ≡ held_until l i p
  unfolding lent_to
  held-until =
      table_same T _ _ λ q h.
      ap (λ x. cond (from_on w p q) (x - 1) x) (lent-holding q h)
      ∙ until (holding l i q) (from_on w l.current q) (from_on w p q) (on-from-current q h)

  pub lowered_is : lowered (lent_to l i) i p ≡ sent_ahead l i p
  unfolding lent_to lowered
  lowered_is =
      ap (λ flows. link_with l l.current l.owners flows true ((i + 1) % flow_count P))
      (table_same (flow_count P) _ _ λ j h. each j h (ℕ_discrete j i))
    where
      own : with_held (flow (lent_to l i) i) (held_from (lent_to l i) i p (λ x. x - 1)) ≡ with_held (flow l i) (held_until l i p)
      own = ap₂ with_held lent-flow held-until

      each : (j : ℕ) → j < flow_count P → Dec (j ≡ i)
          → cond (eqb j i) (with_held (flow (lent_to l i) i) (held_from (lent_to l i) i p (λ x. x - 1))) (flow (lent_to l i) j)
          ≡ cond (eqb j i) (with_held (flow l i) (held_until l i p)) (flow l j)
      each j h (yes e) = rw (eq-eqb j i e) own
      each j h (no d) = rw (ne_eqb j i d) (flow-other l i _ j h d)

pub comes-to : ComesTo
comes-to l ok inside mask i p a below to_come =
    let now : Current l.plan l.current l.current = record { accepted = ok; current_is = sym (mod-eq_of_lt inside) } in
    let loan = lend-answered l mask i ok.some_flow a in
    ap (λ s. credit s.link i p) loan.gets
    ∙ credit-accepted (lent_to l i) i p (passes-after-lend l now loan.known below to_come)
    ∙ ap (λ k. record { link = k; answer = accepted tt }) (lowered_is l now loan.known below to_come)

-- ---- taken, of the reference scheduler

pub ahead-accepted : AheadAccepted reference
ahead-accepted bytes passes calls mask i p =
    after_run
    (λ P l h. (lend l mask).answer ≡ accepted i → p < positions P → has_come P (ticks h) p ≡ false → (credit (lend l mask).link i p).answer ≡ accepted tt)
    (λ l h g a below yet. after l h g a below yet)
    (plan_of bytes) (accepted_plan bytes passes) calls
  where
    after : (l : Link) (h : History) → After l.plan l h → (lend l mask).answer ≡ accepted i → p < positions l.plan
        → has_come l.plan (ticks h) p ≡ false → (credit (lend l mask).link i p).answer ≡ accepted tt
    after l h g a below yet =
        let now = g.invariant.current in
        let ok = now.accepted in
        let s = slot_at ok (ticks h) p in
        let at_p = slot_at-position ok (ticks h) p below in
        let w-s = slot_at-in-window ok (ticks h) p in
        let to_come : passed (window l) p ≡ false =
        ap (passed (window l)) (sym at_p) ∙ passed_is now s w-s ∙ sym (come-at now s w-s) ∙ ap (has_come l.plan (ticks h)) at_p ∙ yet in
        let inside : l.current < positions l.plan = rw now.current_is (mod-lt (ticks h) (some-position ok)) in
        ap (λ s. s.answer) (comes-to l ok inside mask i p a below to_come)
