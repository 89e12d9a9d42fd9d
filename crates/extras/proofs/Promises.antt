-- What is promised of an answer holds of every answer. RULES 18.4. Assumes nothing.
use Prim.Native.Nat.{ℕ, zero, suc, ◌≤◌, ◌<◌}
use mathlib.Core.Path.{◌≡◌, refl, sym, ◌∙◌}
use mathlib.Core.Bool.{Bool, true, false, cond}
use native.Mathlib.Decide.{dec_le}
use native.Mathlib.Nat.{one-le-pow}
use native.Mathlib.Omega.{arith}
use lib.Dec.{leb, ltb, eqb}
use borrow.Author.Tests.{leb-true, le-leb, lt-leb, eqb-false, ne_eqb, lt-ltb}
use Rattle.model.specs.Calls.{accepted, refused, in_mask}
use Rattle.model.proofs.Tallies.{sum-le}
use Rattle.model.proofs.Tests.{or-false, or-true}
use Rattle.extras.specs.Extras.{Extras, Chosen, layer_count, layer, share_of, worth_of, fits, set_count, looked_at}
use Rattle.extras.specs.Extras.{best_worth, best_mask, singles_worth, ceiling_of, outside, choose}
use Rattle.extras.specs.Extras as model
use Rattle.extras.specs.Best.{Best}
use Rattle.extras.specs.declared.Extras as code
use Rattle.extras.specs.declared.Chosen as Answered
use Rattle.std.specs.Prelude.{Some}
use Rattle.extras.specs.Reading.{extras_for, chosen_for, answer_for}
use Rattle.extras.specs.Claim.{with_budget, Promised}
use Rattle.extras.proofs.Summing.{term-most}
use Rattle.extras.proofs.Layers.{Limits, limits}
use Rattle.extras.proofs.BestSets.{some-best, worth-defined, mask-defined}

-- ---- a set that fits is worth at most the layers that fit singly

module _ (x : Extras) (mask : ℕ) (f : fits x mask ≡ true) where
  -- each of its layers fits singly
  fits-singly : (i : ℕ) → i < layer_count x → in_mask mask i ≡ true → leb (layer x i).share x.slots ≡ true
  unfolding share_of
  fits-singly i l e =
      let term = term-most (layer_count x) (λ j. cond (in_mask mask j) (layer x j).share 0) i l in
      let own : cond (in_mask mask i) (layer x i).share 0 ≡ (layer x i).share = rw e in
      le-leb (layer x i).share x.slots (omega (arith, term, own, leb-true (share_of x mask) x.slots f))

  below-singles : worth_of x mask ≤ singles_worth x
  unfolding worth_of
  below-singles = sum-le (layer_count x) _ _ (λ i l. go i l (in_mask mask i) refl)
    where
      go : (i : ℕ) → i < layer_count x → (b : Bool) → in_mask mask i ≡ b
          → cond b (layer x i).worth 0 ≤ cond (leb (layer x i).share x.slots) (layer x i).worth 0
      go i l true e = rw (fits-singly i l e) (omega arith)
      go i l false e = omega arith

-- ---- what is defined is the best

-- some set is looked at
some-looked-at : (x : Extras) → Limits x → 1 ≤ looked_at x
some-looked-at x h = omega (arith, h.some_budget, one-le-pow (layer_count x) 2 (omega arith))

defined-best : (x : Extras) (k : ℕ) → 1 ≤ k → Best x k (best_mask x k) (best_worth x k)
defined-best x zero h = absurd (omega arith)
defined-best x (suc k) h = let s = some-best x k in rw (mask-defined s.best, worth-defined s.best) s.best

module _ (x : Extras) (h : Limits x) where
  abbrev best : Best x (looked_at x) (best_mask x (looked_at x)) (best_worth x (looked_at x))
  best = defined-best x (looked_at x) (some-looked-at x h)

  -- with all sets looked at, no set that fits is worth more
  complete : set_count x ≤ x.budget → (m : ℕ) → m < set_count x → fits x m ≡ true → worth_of x m ≤ best_worth x (looked_at x)
  complete all m l f = best.greatest m (omega arith) f

  -- no set that fits passes the ceiling
  ceiling_holds : (m : ℕ) → m < set_count x → fits x m ≡ true → worth_of x m ≤ ceiling_of x
  ceiling_holds m l f = go (dec_le (set_count x) x.budget)
    where
      go : Dec (set_count x ≤ x.budget) → worth_of x m ≤ ceiling_of x
      go (yes all) = rw (le-leb _ _ all) (complete all m l f)
      go (no some) = rw (lt-leb (set_count x) x.budget (omega arith)) (below-singles x m f)

  worth_within : best_worth x (looked_at x) ≤ ceiling_of x
  worth_within = omega (arith, best.worth_is, ceiling_holds (best_mask x (looked_at x)) (omega (arith, best.looked_at)) best.fitting)

-- ---- a larger budget

module _ (x : Extras) (budget : ℕ) where
  abbrev more : Extras
  more = with_budget x budget

  same-fits : (m : ℕ) → fits more m ≡ fits x m
  unfolding share_of
  same-fits m = refl

  same-worth : (m : ℕ) → worth_of more m ≡ worth_of x m
  unfolding worth_of
  same-worth m = refl

  still-inside : outside x ≡ false → x.budget ≤ budget → outside more ≡ false
  unfolding outside
  still-inside e l =
      let layers = or-false _ _ e in
      let slots = or-false _ _ layers.0 in
      let counts = or-false _ _ slots.0 in
      let some : x.budget ≡ 0 → ⊥ = eqb-false x.budget 0 counts.0 in
      rw (ne_eqb budget 0 (λ z. some (omega arith)), counts.1, slots.1, layers.1)

  module _ (e : outside x ≡ false) (l : x.budget ≤ budget) where
    abbrev kept : Limits x
    kept = limits x e

    abbrev kept_more : Limits more
    kept_more = limits more (still-inside e l)

    -- the best so far is looked at again
    worth_no_smaller : best_worth x (looked_at x) ≤ best_worth more (looked_at more)
    worth_no_smaller =
        let b = best x kept in
        let m = best_mask x (looked_at x) in
        omega (arith, b.worth_is, same-worth m, (best more kept_more).greatest m (omega (arith, b.looked_at)) (same-fits m ∙ b.fitting))

    -- the best with the larger budget is below the ceiling with the smaller one
    best_below : best_worth more (looked_at more) ≤ ceiling_of x
    best_below =
        let b = best more kept_more in
        let m = best_mask more (looked_at more) in
        omega (arith, b.worth_is, same-worth m, ceiling_holds x kept m (omega (arith, b.looked_at)) (sym (same-fits m) ∙ b.fitting))

    ceiling_no_higher : ceiling_of more ≤ ceiling_of x
    ceiling_no_higher = go (dec_le (set_count x) budget)
      where
        go : Dec (set_count x ≤ budget) → ceiling_of more ≤ ceiling_of x
        go (yes all) = rw (le-leb (set_count x) budget all) best_below
        go (no some) = rw (lt-leb (set_count x) budget (omega arith), lt-leb (set_count x) x.budget (omega arith)) (omega arith)

-- ---- the claim

-- an answer that is no refusal is the one defined
answered-is : (x : Extras) (c : Chosen) (b : Bool) → outside x ≡ b → cond b (refused 27) (accepted (model.best x)) ≡ accepted c → (outside x ≡ false) × (c ≡ model.best x)
answered-is x c true e a = absurd (let z : ◌≡◌ {A = ℕ} 0 1 = cc in omega arith)
answered-is x c false e a = (e, cc)

answer-inside : (x : Extras) → outside x ≡ false → choose x ≡ accepted (model.best x)
unfolding choose
answer-inside x e = rw e

of-best : (x : Extras) → outside x ≡ false → Promised x (model.best x)
of-best x e = record {
  best = best x (limits x e);
  ceiling_holds = ceiling_holds x (limits x e);
  worth_within = worth_within x (limits x e);
  complete = complete x (limits x e);
  larger_budget = λ budget l. record {
    chosen = model.best (with_budget x budget);
    answered = answer-inside (with_budget x budget) (still-inside x budget e l);
    worth_no_smaller = worth_no_smaller x budget e l;
    ceiling_no_higher = ceiling_no_higher x budget e l;
  };
}

pub promised : (x : Extras) (c : Chosen) → choose x ≡ accepted c → Promised x c
unfolding choose
promised x c a =
    let p = answered-is x c (outside x) refl a in
    rw p.1 (of-best x p.0)

-- by the contract of `extras::choose`, the same of what the code answers
pub answer-promised : (x : code.Extras) (c : Answered.Chosen) → answer_for (Some c) ≡ choose (extras_for x) → Promised (extras_for x) (chosen_for c)
answer-promised x c e = promised (extras_for x) (chosen_for c) (sym e)

-- a refusal is 27, and stands for a number outside the limits
pub refused-is : (x : Extras) (number : ℕ) → choose x ≡ refused number → (number ≡ 27) × (outside x ≡ true)
unfolding choose
refused-is x number a = go (outside x) refl a
  where
    go : (b : Bool) → outside x ≡ b → cond b (refused 27) (accepted (model.best x)) ≡ refused number → (number ≡ 27) × (outside x ≡ true)
    go true e r = (cc, e)
    go false e r = absurd (let z : ◌≡◌ {A = ℕ} 0 1 = cc in omega arith)

-- more than twelve layers are refused, whatever else is given
pub many-refused : (x : Extras) → 12 < layer_count x → choose x ≡ refused 27
unfolding choose outside
many-refused x h = rw (or-true (eqb x.budget 0) (ltb 12 (layer_count x)) (lt-ltb _ _ h))

-- there is one best of some sets
pub one-best : {x : Extras} {k mask worth mask' worth' : ℕ} → Best x k mask worth → Best x k mask' worth' → (mask ≡ mask') × (worth ≡ worth')
one-best b b' = (sym (mask-defined b) ∙ mask-defined b', sym (worth-defined b) ∙ worth-defined b')
