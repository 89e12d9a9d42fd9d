-- A credit on a link, as it is read. Assumes nothing.
use Prim.Native.Nat.{ℕ, zero, suc, ◌-◌, ◌≤◌, ◌<◌}
use mathlib.Core.Path.{◌≡◌, refl, sym, ap, ◌∙◌}
use mathlib.Core.List.{List}
use mathlib.Core.Bool.{true, false}
use lib.Dec.{ltb}
use lib.Seq.{set-get_or}
use borrow.Author.Tests.{lt-ltb, le-ltb}
use Rattle.model.specs.Refusals.{first_of}
use Rattle.model.specs.Calls.{accepted}
use Rattle.model.specs.Window.{Window, passed, every_from}
use Rattle.model.specs.Link as model
use Rattle.model.specs.Credit.{credit_tests, credit, credit_after, lowered}
use Rattle.plan.specs.declared.Plan.{Plan}
use Rattle.window.specs.declared.Window as code
use Rattle.window.specs.Ranges.{replaced}
use Rattle.window.specs.Window.{window_of, from_in}
use Rattle.window.proofs.FromOn.{every_from-same}
use Rattle.tables.specs.Rows.{row, with_row}
use Rattle.tables.specs.Holdings.{some_held, shifted_row, shifted}
use Rattle.tables.proofs.HoldingChanges.{one_fewer}
use Rattle.link.specs.declared.Flow.{Flow}
use Rattle.link.specs.Parts.{Parts}
use Rattle.link.specs.Layout.{size_of, flow_at, no_flow}
use Rattle.link.specs.Updates.{with_held, with_flows, with_holdings, with_flow}
use Rattle.link.specs.Reading.{link_of}
use Rattle.link.specs.Sound.{Sound}
use Rattle.link.specs.Given.{Creditable}
use Rattle.link.specs.Steps.{SteppedParts, number_of}
use Rattle.link.proofs.Given.{AtHand}
use Rattle.link.proofs.Readings.{read_count, read-flow, read-holding}
use Rattle.link.proofs.Updated.{read-from, sound-from}

-- ---- the tests

module _ (l : Parts) (i p : ℕ) where
  pub tests-8 : l.plan.count ≤ i → 8 ≡ first_of (credit_tests (link_of l) i p)
  unfolding first_of
  tests-8 h = rw (read_count l, le-ltb i l.plan.count h)

  module _ (hi : i < l.plan.count) where
    pub tests-13 : size_of l ≤ p → 13 ≡ first_of (credit_tests (link_of l) i p)
    unfolding first_of link_of
    tests-13 h = rw (read_count l, lt-ltb i l.plan.count hi, le-ltb p (size_of l) h)

    module _ (hp : p < size_of l) (v : Window) (is : v ≡ model.window (link_of l)) where
      passed-same : passed (model.window (link_of l)) p ≡ passed v p
      passed-same = ap (λ (x : Window). passed x p) (sym is)

      pub tests-14 : passed v p ≡ true → 14 ≡ first_of (credit_tests (link_of l) i p)
      unfolding first_of link_of
      tests-14 h = rw (read_count l, lt-ltb i l.plan.count hi, lt-ltb p (size_of l) hp, passed-same ∙ h)

      -- something is held from p on
      held_same : every_from (model.window (link_of l)) p (λ q. ltb 0 (model.holding (link_of l) i q)) ≡ every_from v p (some_held (row l.held i))
      unfolding link_of
      held_same =
          every_from-same (model.window (link_of l)) p (λ q. ltb 0 (model.holding (link_of l) i q)) (some_held (row l.held i))
          (λ q b. rw (read-holding l i q hi b))
          ∙ ap (λ (x : Window). every_from x p (some_held (row l.held i))) (sym is)

      module _ (here : passed v p ≡ false) where
        pub tests-15 : every_from v p (some_held (row l.held i)) ≡ false → 15 ≡ first_of (credit_tests (link_of l) i p)
        unfolding first_of link_of
        tests-15 h = rw (read_count l, lt-ltb i l.plan.count hi, lt-ltb p (size_of l) hp, passed-same ∙ here, held_same ∙ h)

        pub tests-pass : every_from v p (some_held (row l.held i)) ≡ true → 0 ≡ first_of (credit_tests (link_of l) i p)
        unfolding first_of link_of
        tests-pass h = rw (read_count l, lt-ltb i l.plan.count hi, lt-ltb p (size_of l) hp, passed-same ∙ here, held_same ∙ h)

-- ---- what a credit comes to

-- other holdings of flow i alone: the flow itself is stored again
pub same_flow : (l : Parts) (i : ℕ) (h : List ℕ) → with_holdings l (with_row l.held i h) ≡ with_flow l i (with_held (flow_at l i) h)
same_flow l i h = ap (λ (x : List Flow). with_holdings (with_flows l x) (with_row l.held i h)) (sym (set-get_or l.flows i no_flow))

module _ {l : Parts} {plan : Plan} {w : code.Window} (a : AtHand l plan w) (i p : ℕ) {n : ℕ} (tests : n ≡ first_of (credit_tests (link_of l) i p)) where
  pub credit-refused : (n ≡ 0 → ⊥) → SteppedParts number_of (credit (link_of l) i p) l n
  unfolding credit credit_after
  credit-refused nonzero = rw (← tests) (go n nonzero)
    where
      go : (k : ℕ) → (k ≡ 0 → ⊥) → SteppedParts number_of (credit_after k (link_of l) i p) l k
      go zero none = absurd (none refl)
      go (suc r) none = record { link_is = refl; answer_is = refl; sound = a.sound }

  accepts : n ≡ 0 → credit (link_of l) i p ≡ record { link = lowered (link_of l) i p; answer = accepted tt }
  unfolding credit credit_after
  accepts z = rw (← tests, z)

  module _ (z : n ≡ 0) (c : Creditable plan.count w l.held i p) where
    flow_below : i < l.plan.count
    flow_below = rw (← ap (λ (x : Plan). x.count) a.plan_is) c.flow

    -- what flow i holds then
    abbrev lower : List ℕ
    lower = shifted_row (window_of w) 255 p (row l.held i)

    lower-is : lower ≡ replaced (from_in (window_of w) p) (λ q x. x - 1) (row l.held i)
    lower-is = one_fewer w a.proper p c.position (row l.held i) c.some_held

    lower-link : link_of (with_flow l i (with_held (flow_at l i) lower)) ≡ lowered (link_of l) i p
    unfolding lowered
    lower-link =
        read-from l a.sound (window_of w) a.window_is i p flow_below (λ x. x - 1) lower lower-is (flow_at l i).flow
        (sym (read-flow l i flow_below))

    sound-lower : Sound (with_flow l i (with_held (flow_at l i) lower))
    sound-lower =
        sound-from l a.sound (window_of w) a.window_is i p flow_below (λ x. x - 1) lower lower-is (flow_at l i).flow
        (a.sound.flows i flow_below).frame (a.sound.flows i flow_below).number

    pub credit-accepted : {h : List ℕ} → h ≡ shifted (window_of w) 255 i p l.held
        → SteppedParts number_of (credit (link_of l) i p) (with_holdings l h) 0
    credit-accepted e = rw (accepts z, e, same_flow l i lower) (record { link_is = lower-link; answer_is = refl; sound = sound-lower })
