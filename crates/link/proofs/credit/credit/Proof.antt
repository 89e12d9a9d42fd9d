-- `link::credit::credit` meets its contract: each return by the tests on the way. Assumes nothing.
use Prim.Native.Nat.{ℕ, ◌<◌}
use mathlib.Core.Path.{◌≡◌, refl, sym, ap, ◌∙◌}
use mathlib.Core.List.{List}
use mathlib.Core.Bool.{Bool, false, cond}
use native.Mathlib.Omega.{arith}
use borrow.Author.Tests.{not-true, not-false}
use Rattle.model.specs.Window.{passed, every_from}
use Rattle.model.specs.Refusals.{first_of}
use Rattle.model.specs.Credit as model
use Rattle.model.specs.Credit.{credit_tests}
use Rattle.window.specs.Window.{window_of}
use Rattle.tables.specs.Bounds.{lowered}
use Rattle.tables.specs.Holdings.{some_held}
use Rattle.tables.specs.Rows.{row}
use Rattle.tables.proofs.Bounds.{bounds-lowered}
use Rattle.tables.proofs.HeldRows.{row-held}
use Rattle.link.specs.Parts.{Parts, parts_in}
use Rattle.link.specs.Layout.{size_of}
use Rattle.link.specs.Steps.{Went, number_of}
use Rattle.link.specs.Reading.{link_of}
use Rattle.link.proofs.Given.{in_hand, bounds-in, bounds-out}
use Rattle.link.proofs.StateParts.{went-same, went-by, lowered-rest, parts-lowered}
use Rattle.link.proofs.Readings.{read-size, flows_most}
use Rattle.link.proofs.Credits.{tests-8, tests-13, tests-14, tests-15, tests-pass, credit-refused, credit-accepted}
use Rattle.link.proofs.credit.credit.Statement.{statement}
use Rattle.link.proofs.credit.credit.Tie as tie

-- ---- what is known on the way

-- where the flow and the position passed their tests, and where the function is entered
abbrev tested_at : tie.After-lower_from → tie.Else-w-position
tested_at c = c.before.before.before.before

abbrev start : tie.Else-w-position → tie.Start
start c = c.before.before.before.before

-- the link that is read of it
abbrev parts_at : tie.Start → Parts
parts_at s = parts_in s.args.plan s.args.s.now

module _ (c : tie.Else-w-position) where
  flow_below : (start c).args.flow < (start c).args.plan.count
  flow_below = c.before.before.if-plan-flow.false

  flow-few : (start c).args.flow < 16
  flow-few = omega (arith, flow_below, flows_most _ (start c).requires.sound.parts)

  position-below : (start c).args.position < size_of (parts_at (start c))
  position-below = rw (← read-size (parts_at (start c)) (start c).requires.window_is) c.if-w-position.false

module _ (c : tie.After-lower_from) where
  abbrev at : tie.Start
  at = start (tested_at c)

  not_passed : passed (window_of at.args.w) at.args.position ≡ false
  not_passed = let e = c.before.before in sym e.before.passed.ensures ∙ e.if-passed.false

  -- what the test of the holdings says
  held_is : every_from (window_of at.args.w) at.args.position (some_held (row (parts_at at).held at.args.flow)) ≡ c.lower_from.result
  held_is =
      ap (λ (h : List ℕ). every_from (window_of at.args.w) at.args.position (some_held h)) (row-held _ at.args.flow (flow-few (tested_at c)))
      ∙ sym c.lower_from.ensures.0

  -- the state after it
  abbrev after : Bool → List ℕ
  after b = cond b (lowered at.args.w at.args.flow at.args.position at.args.s.now) at.args.s.now

-- a refusal changes nothing
refused : (s : tie.Start) {n : ℕ} {t : List ℕ} → t ≡ s.args.s.now → n ≡ first_of (credit_tests (link_of (parts_at s)) s.args.flow s.args.position) → (n ≡ 0 → ⊥)
    → Went number_of (model.credit (link_of (parts_at s)) s.args.flow s.args.position) s.args.plan t n
refused s e tests nonzero = went-same s.requires.sound e (credit-refused (in_hand s.requires) _ _ tests nonzero)

-- ---- the needs

returns : tie.Need-returns-then-plan-flow
returns c =
    let s = c.before.before in
    refused s refl (tests-8 (parts_at s) _ _ c.if-plan-flow.true) (λ z. omega (arith, z))

mul-if2 : tie.Need-overflow_mul-w
mul-if2 c = let m = c.requires.proper.measures in omega (arith, m.positions_most)

returns-2 : tie.Need-returns-then-w-position
returns-2 c =
    let e = c.before.before in
    let s = e.before.before in
    refused s refl
    (tests-13 (parts_at s) _ _ e.if-plan-flow.false (rw (← read-size (parts_at s) s.requires.window_is) c.if-w-position.true))
    (λ z. omega (arith, z))

passed-requires : tie.Need-passed-requires
passed-requires c κs = record { proper = (start c).requires.proper; below = c.if-w-position.false }

returns-3 : tie.Need-returns-then-passed
returns-3 c =
    let t = c.before.before in
    let s = start t in
    refused s refl
    (tests-14 (parts_at s) _ _ (flow_below t) (position-below t) _ s.requires.window_is (sym c.before.passed.ensures ∙ c.if-passed.true))
    (λ z. omega (arith, z))

lower-from-requires : tie.Need-lower_from-requires
lower-from-requires c κs =
    let t = c.before.before.before in
    record { proper = (start t).requires.proper; flow = flow-few t; position = t.if-w-position.false }

returns-4 : tie.Need-returns-then-not-lower_from
returns-4 c =
    let h = c.before in
    let t = tested_at h in
    let s = start t in
    let none = not-true _ c.if-not-lower_from.true-raw in
    refused s (h.lower_from.ensures.1 ∙ ap (after h) none)
    (tests-15 (parts_at s) _ _ (flow_below t) (position-below t) _ s.requires.window_is (not_passed h) (held_is h ∙ none))
    (λ z. omega (arith, z))

returns-5 : tie.Need-returns
returns-5 c =
    let h = c.before in
    let t = tested_at h in
    let s = start t in
    let o = s.requires in
    let p = s.args.plan in
    let i = s.args.flow in
    let q = s.args.position in
    let whole = o.sound.whole in
    let taken = not-false _ c.if-not-lower_from.false-raw in
    let held = held_is h ∙ taken in
    let tests = tests-pass (parts_at s) _ _ (flow_below t) (position-below t) _ o.window_is (not_passed h) held in
    let is = h.lower_from.ensures.1 ∙ ap (after h) taken in
    went-by o.sound (lowered-rest p _ whole _ i q (flow-few t) is)
    (bounds-out o (rw is (bounds-lowered o.proper whole (bounds-in o) i q (flow-few t))))
    (parts-lowered p _ whole _ i q (flow-few t) is)
    (credit-accepted (in_hand o) _ _ tests refl (record { flow = flow_below t; position = t.if-w-position.false; some_held = held }) refl)

pub credit_spec : {M : Type 1} → statement M
credit_spec =
    tie.close
    (tie.spec
    returns
    mul-if2
    returns-2
    passed-requires
    returns-3
    lower-from-requires
    returns-4
    returns-5)
