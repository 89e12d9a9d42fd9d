-- What is given, read as the definitions have it, and the limits that it keeps. Assumes nothing.
use Prim.Native.Nat.{ℕ, ◌≤◌, ◌<◌}
use mathlib.Core.Path.{◌≡◌, refl, sym, ap, ◌∙◌, subst}
use mathlib.Core.Bool.{false, not, cond}
use mathlib.Core.List.{List}
use native.Mathlib.Omega.{arith}
use lib.ListN.{get_or}
use borrow.Author.Tests.{eqb-false, ltb-false, not-false}
use Rattle.model.specs.Tables.{sum}
use Rattle.model.specs.Calls.{in_mask}
use Rattle.model.proofs.Tables.{length-table, get_d-table}
use Rattle.model.proofs.Tests.{or-false, and-true, in-range, within-true, any_none}
use Rattle.extras.specs.declared.Extras.{Extras}
use Rattle.extras.specs.Extras as model
use Rattle.extras.specs.Extras.{share_of, worth_of, layer_inside, outside}
use Rattle.extras.specs.Reading.{extras_for, layer_at, Inside}
use Rattle.extras.specs.Search.{Amounts, sum_in}
use Rattle.extras.proofs.Summing.{sum_same}

module _ (x : Extras) where
  pub count_is : model.layer_count (extras_for x) ≡ x.count
  count_is = length-table x.count (layer_at x)

  pub layer-is : (i : ℕ) → i < x.count → model.layer (extras_for x) i ≡ layer_at x i
  layer-is i h = get_d-table x.count (layer_at x) i model.no_layer h

-- the limits of a layer
pub record LayerInside (e : model.Layer) : Type 0 where
  pub some_share : 1 ≤ e.share
  pub share_most : e.share ≤ 64
  pub worth_most : e.worth ≤ 1000

-- what is given keeps its limits
pub record Limits (x : model.Extras) : Type 0 where
  pub some_budget : 1 ≤ x.budget
  pub few : model.layer_count x ≤ 12
  pub slots_most : x.slots ≤ 64
  pub layer-inside : (i : ℕ) → i < model.layer_count x → LayerInside (model.layer x i)

layer-limits : (e : model.Layer) → not (layer_inside e) ≡ false → LayerInside e
unfolding layer_inside
layer-limits e h =
    let both = and-true _ _ (not-false _ h) in
    let share = within-true 1 64 e.share both.0 in
    let worth = within-true 0 1000 e.worth both.1 in
    record { some_share = share.0; share_most = share.1; worth_most = worth.1 }

pub limits : (x : model.Extras) → outside x ≡ false → Limits x
unfolding outside
limits x h =
    let layers = or-false _ _ h in
    let slots = or-false _ _ layers.0 in
    let counts = or-false _ _ slots.0 in
    let budget : x.budget ≡ 0 → ⊥ = eqb-false x.budget 0 counts.0 in
    record {
      some_budget = omega (arith, budget);
      few = ltb-false 12 (model.layer_count x) counts.1;
      slots_most = (in-range 0 64 x.slots slots.1).1;
      layer-inside = λ i l. layer-limits (model.layer x i) (any_none _ _ layers.1 i l);
    }

-- ---- the same of the struct, at a place of a loop over its layers

module _ (x : Extras) (h : Inside x) (i : ℕ) (l : i < x.count) where
  pub place-there : i < model.layer_count (extras_for x)
  place-there = omega (arith, count_is x)

  pub place-small : i < 12
  place-small = omega (arith, place-there, (limits (extras_for x) h.inside).few)

  pub element-inside : LayerInside (layer_at x i)
  element-inside = subst LayerInside (layer-is x i l) ((limits (extras_for x) h.inside).layer-inside i place-there)

module _ (x : Extras) (h : Inside x) where
  pub shares-small : Amounts x.shares x.count
  shares-small = record {
    few = omega (arith, count_is x, (limits (extras_for x) h.inside).few);
    small = λ i l. omega (arith, (element-inside x h i l).share_most);
  }

  pub worths-small : Amounts x.worths x.count
  worths-small = record { few = shares-small.few; small = λ i l. (element-inside x h i l).worth_most }

-- ---- the sums of its arrays are those of the request

module _ (x : Extras) (mask : ℕ) where
  -- the sum of a field over a set, by the array that has it
  field-sum : (f : model.Layer → ℕ) (amounts : List ℕ) → ((i : ℕ) → f (layer_at x i) ≡ get_or amounts i 0)
      → sum_in amounts x.count mask ≡ model.sum_over (in_mask mask) f (extras_for x)
  field-sum f amounts e =
      sum_same x.count _ _ (λ i l. ap (λ a. cond (in_mask mask i) a 0) (sym (ap f (layer-is x i l) ∙ e i)))
      ∙ ap (λ n. sum n (λ i. cond (in_mask mask i) (f (model.layer (extras_for x) i)) 0)) (sym (count_is x))

  pub share_is : sum_in x.shares x.count mask ≡ share_of (extras_for x) mask
  unfolding share_of
  share_is = field-sum (λ e. e.share) x.shares (λ i. refl)

  pub worth_is : sum_in x.worths x.count mask ≡ worth_of (extras_for x) mask
  unfolding worth_of
  worth_is = field-sum (λ e. e.worth) x.worths (λ i. refl)
