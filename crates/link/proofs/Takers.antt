-- The search for a flow of a mask that can take the current slot, flow by flow and going round. Assumes nothing.
use Prim.Native.Nat.{ℕ, zero, suc, ◌+◌, ◌-◌, ◌/◌, ◌%◌, ◌^◌, ◌<◌}
use mathlib.Core.Path.{◌≡◌, refl, sym, ap, ◌∙◌}
use mathlib.Core.List.{List}
use mathlib.Core.Option.{Option, some}
use Rattle.std.specs.Prelude.{Some, None}
use mathlib.Core.Bool.{Bool, true, false}
use native.Mathlib.Nat.{mod-lt, mod-eq_of_lt, mod-add-mod}
use native.Mathlib.Numerals.{add-one}
use native.Mathlib.Omega.{arith}
use lib.ListN.{get_or}
use borrow.Author.Tests.{eq-eqb, ne_eqb}
use Rattle.plan.specs.declared.Plan.{Plan}
use Rattle.plan.specs.Reading.{no_entry}
use Rattle.model.specs.Tables.{first_from}
use Rattle.model.specs.Window.{every_from}
use Rattle.window.specs.declared.Window.{Window}
use Rattle.window.specs.Window.{window_of}
use Rattle.tables.specs.Rows.{row}
use Rattle.tables.specs.Holdings.{room_at}
use Rattle.link.specs.Lend.{takes_in, flow_found, first_taker}

-- flow i has room from the current position on
abbrev pub room_of : Plan → Window → List ℕ → ℕ → Bool
room_of plan w held i = every_from (window_of w) w.current (room_at (row held i) (get_or plan.entries i no_entry).cells)

-- what a search of `left` flows gives that begins with the flow of number k, going round
abbrev pub given_by : Plan → Window → List ℕ → (mask left k : ℕ) → Option ℕ
given_by plan w held mask left k = first_from left k (λ x. takes_in plan w held mask (x % plan.count))

-- Flow i is looked at, and `left` flows with it are left: what they give is what all flows give, from flow `from` on.
pub record Looking (plan : Plan) (w : Window) (held : List ℕ) (mask from left i : ℕ) : Type 0 where
  pub number : ℕ  -- of the flow, counted on without going round
  pub flow_is : i ≡ number % plan.count
  pub rest : given_by plan w held mask left number ≡ given_by plan w held mask plan.count from

module _ {plan : Plan} {w : Window} {held : List ℕ} {mask from : ℕ} where
  pub looking-all : from < plan.count → Looking plan w held mask from plan.count from
  looking-all below = record { number = from; flow_is = sym (mod-eq_of_lt below); rest = refl }

  module _ {left i : ℕ} (g : Looking plan w held mask from left i) where
    pub flow_below : 0 < plan.count → i < plan.count
    flow_below some_flow = omega (arith, g.flow_is, mod-lt g.number some_flow)

    -- ---- the test of flow i

    pub takes-here : mask / 2 ^ i % 2 ≡ 1 → room_of plan w held i ≡ true → takes_in plan w held mask i ≡ true
    takes-here e room = rw (eq-eqb _ 1 e, room)

    pub not-in-mask : (mask / 2 ^ i % 2 ≡ 1 → ⊥) → takes_in plan w held mask i ≡ false
    not-in-mask d = rw (ne_eqb (mask / 2 ^ i % 2) 1 d)

    pub no_room : mask / 2 ^ i % 2 ≡ 1 → room_of plan w held i ≡ false → takes_in plan w held mask i ≡ false
    no_room e full = rw (eq-eqb _ 1 e, full)

    test-is : takes_in plan w held mask (g.number % plan.count) ≡ takes_in plan w held mask i
    test-is = ap (takes_in plan w held mask) (sym g.flow_is)

    -- ---- the flow after it, a flow that is found, and none

    pub looking-on : 0 < left → takes_in plan w held mask i ≡ false → Looking plan w held mask from (left - 1) ((i + 1) % plan.count)
    unfolding first_from
    looking-on more fails = record {
      number = suc g.number;
      flow_is = ap (λ x. (x + 1) % plan.count) g.flow_is ∙ mod-add-mod g.number plan.count 1 ∙ ap (◌% plan.count) (add-one g.number);
      rest = passed_over left more ∙ g.rest;
    }
      where
        passed_over : (m : ℕ) → 0 < m → given_by plan w held mask (m - 1) (suc g.number) ≡ given_by plan w held mask m g.number
        passed_over zero some_left = absurd (omega arith)
        passed_over (suc m) some_left = let e : suc m - 1 ≡ m = omega arith in rw (e, test-is, fails)

    pub found : 0 < left → takes_in plan w held mask i ≡ true → Some i ≡ first_taker (takes_in plan w held mask) plan.count from
    unfolding first_from first_taker
    found more takes = ap Some g.flow_is ∙ ap (flow_found plan.count) (sym (hit left more) ∙ g.rest)
      where
        hit : (m : ℕ) → 0 < m → given_by plan w held mask m g.number ≡ some g.number
        hit zero some_left = absurd (omega arith)
        hit (suc m) some_left = rw (test-is, takes)

    pub nobody : left ≡ 0 → None ≡ first_taker (takes_in plan w held mask) plan.count from
    unfolding first_from first_taker
    nobody ended = ap (flow_found plan.count) (ap (λ m. given_by plan w held mask m g.number) (sym ended) ∙ g.rest)
