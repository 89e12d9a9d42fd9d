-- Our board crosses well: it keeps at a crossing what is claimed, whatever the others ask. Assumes nothing.
use Prim.Native.Nat.{ℕ, zero, suc, ◌+◌, ◌≤◌, ◌<◌, min}
use mathlib.Core.Path.{◌≡◌, refl, sym, ap, ◌∙◌, subst}
use mathlib.Core.List.{List}
use mathlib.Core.Option.{Option, some, none}
use mathlib.Core.Bool.{not}
use native.Mathlib.Decide.{ℕ_discrete}
use native.Mathlib.Omega.{arith}
use lib.Dec.{eqb}
use lib.ListN.{get_or, length, length-set}
use lib.Seq.{get_or-set_same, get_or-set_other}
use borrow.Author.Tests.{eq-eqb, ne_eqb}
use Rattle.model.specs.Tables.{bit}
use Rattle.model.specs.Plan.{Plan, flow_count, entry, Accepted}
use Rattle.model.specs.Calls.{TickAnswer}
use Rattle.model.specs.History.{ticks, credits, up_to, granted_up_to, lent_up_to, credited_up_to}
use Rattle.model.specs.TwoHops.{InStep}
use Rattle.model.proofs.HistoryCounts.{raises-are}
use Rattle.crossings.specs.Crossing.{Crossing, goes_on_as, waits, pass_on, pass_as, pass_flow, pass_waiting, queued, comes, arrives}
use Rattle.crossings.specs.Crossing.{served}
use Rattle.crossings.specs.Playing.{is_none}
use Rattle.crossings.specs.Claim.{Onward}
use Rattle.crossings.proofs.OneLink.{known, within_held, up-to-most, is_owner}
use Rattle.crossings.proofs.Kept.{FlowKept, Kept}
use Rattle.crossings.proofs.Tiles.{Tried, PassedOn, tried-still, pass_on_lem}

module _ {P Q : Plan} {onward : List (Option ℕ)} (ok-P : Accepted P) (ok-Q : Accepted Q) (in_step : InStep P Q) (goes_on : Onward P Q onward) where
  abbrev Goes : (i j : ℕ) → Type 0
  Goes i j = get_or onward i none ≡ some j

  abbrev Tries : (i j : ℕ) → Crossing → Type 0
  Tries = Tried ok-P ok-Q in_step goes_on

  none-goes : (i j : ℕ) → get_or onward i none ≡ none → Goes i j → ⊥
  none-goes i j e goes = differ (sym e ∙ goes)
    where
      differ : none ≡ some j → ⊥
      differ z = let o : ◌≡◌ {A = ℕ} 0 1 = ap (λ (y : Option ℕ). bit (not (is_none y))) z in omega arith

  same-goes : (i i' j j' : ℕ) → i' ≡ i → Goes i' j' → Goes i j → j ≡ j'
  same-goes i i' j j' same goes' goes = one-some (sym goes ∙ subst (λ n. Goes n j') same goes')
    where
      one-some : some j ≡ some j' → j ≡ j'
      one-some e = cc

  same-tries : (i i' j j' : ℕ) (x : Crossing) → i' ≡ i → Goes i' j' → Goes i j → Tries i j x → Tries i' j' x
  same-tries i i' j j' x same goes' goes tried =
      subst (λ n. Tries n j' x) (sym same) (subst (λ m. Tries i m x) (same-goes i i' j j' same goes' goes) tried)

  -- ---- flow by flow

  record Walked (extra : ℕ → ℕ) (n : ℕ) (x : Crossing) : Type 0 where
    kept : Kept P Q onward extra x
    tried : (i j : ℕ) → Goes i j → i < n → Tries i j x

  module _ {extra : ℕ → ℕ} (i : ℕ) (y : Crossing) (z : Walked extra i y) where
    -- it goes elsewhere
    walk_none : get_or onward i none ≡ none → Walked extra (suc i) y
    walk_none e = record { kept = z.kept; tried = λ i' j' goes below. split i' j' goes below (ℕ_discrete i' i) }
      where
        split : (i' j' : ℕ) → Goes i' j' → i' < suc i → Dec (i' ≡ i) → Tries i' j' y
        split i' j' goes below (yes same) = absurd (none-goes i j' e (subst (λ n. Goes n j') same goes))
        split i' j' goes below (no d) = z.tried i' j' goes (omega arith)

    walk-some : (j : ℕ) → Goes i j → Walked extra (suc i) (pass_on (waits y i) i j y)
    walk-some j e = record { kept = passed.0.kept; tried = λ i' j' goes below. split i' j' goes below (ℕ_discrete i' i) }
      where
        passed : PassedOn ok-P ok-Q in_step goes_on extra i y (pass_on (waits y i) i j y) × Tries i j (pass_on (waits y i) i j y)
        passed = pass_on_lem ok-P ok-Q in_step goes_on (waits y i) i j e y z.kept refl

        split : (i' j' : ℕ) → Goes i' j' → i' < suc i → Dec (i' ≡ i) → Tries i' j' (pass_on (waits y i) i j y)
        split i' j' goes below (yes same) = same-tries i i' j j' (pass_on (waits y i) i j y) same goes e passed.1
        split i' j' goes below (no d) = tried-still ok-P ok-Q in_step goes_on passed.0 i' j' d (z.tried i' j' goes (omega arith))

    walk-flow : Walked extra (suc i) (pass_flow i y)
    walk-flow =
        subst (λ o. Walked extra (suc i) (pass_as o (waits y i) i y)) (sym (ap (λ o. get_or o i none) z.kept.onward_is))
        (go (get_or onward i none) refl)
      where
        go : (o : Option ℕ) → get_or onward i none ≡ o → Walked extra (suc i) (pass_as o (waits y i) i y)
        go none e = walk_none e
        go (some j) e = walk-some j e

  walk : {extra : ℕ → ℕ} (n : ℕ) (x : Crossing) → Kept P Q onward extra x → Walked extra n (pass_waiting n x)
  unfolding pass_waiting
  walk zero x k = record { kept = k; tried = λ i j goes below. absurd (omega arith) }
  walk (suc i) x k = walk-flow i (pass_waiting i x) (walk i x k)

  -- ---- the tile that has just come

  -- nothing else has come; and of each flow that has tiles waiting one was refused
  pub record Full (x : Crossing) : Type 0 where
    pub kept : Kept P Q onward (λ i. 0) x
    pub tried : (i j : ℕ) → Goes i j → Tries i j x

  abbrev all-tried : {extra : ℕ → ℕ} {x : Crossing} → Walked extra (flow_count P) x → (i j : ℕ) → Goes i j → Tries i j x
  all-tried z i j goes = z.tried i j goes (goes_on.known i j goes).0

  module _ (i : ℕ) (x : Crossing) (z : Walked (λ n. bit (eqb i n)) (flow_count P) x) where
    -- of other flows none has come
    other-kept : (i' j' : ℕ) → Goes i' j' → (i' ≡ i → ⊥) → FlowKept P Q i' j' 0 x
    other-kept i' j' goes d = subst (λ b. FlowKept P Q i' j' (bit b) x) (ne_eqb i i' (λ e. d (sym e))) (z.kept.flows i' j' goes)

    elsewhere : get_or onward i none ≡ none → Full x
    elsewhere e = record {
      kept = record {
        arriving = z.kept.arriving;
        leaving = z.kept.leaving;
        in_step = z.kept.in_step;
        onward_is = z.kept.onward_is;
        long = z.kept.long;
        flows = λ i' j' goes. other-kept i' j' goes (λ same. none-goes i j' e (subst (λ n. Goes n j') same goes));
      };
      tried = all-tried z;
    }

    module _ (j : ℕ) (goes : Goes i j) where
      f : FlowKept P Q i j 1 x
      f = subst (λ b. FlowKept P Q i j (bit b) x) (eq-eqb i i refl) (z.kept.flows i j goes)

      few : i < length x.waiting
      few = omega (arith, z.kept.long, (goes_on.known i j goes).0, ok-P.flows_most)

      -- it has a cell, so that no more than 254 wait
      most : waits x i + 1 ≤ 255
      most =
          let h = x.arriving.history in
          let t = ticks h in
          let below = (goes_on.known i j goes).0 in
          let held = holds-within i below t in
          omega (
            arith,
            f.none_lost,
            up-to-most i t (credits P h),
            ap length f.dated,
            raises-are P (up_to i t) h,
            held,
            (ok-P.entries_fit i below).cells_most,
          )
        where
          holds-within : (i : ℕ) → i < flow_count P → (s : ℕ)
              → granted_up_to P x.arriving.history i s + lent_up_to x.arriving.history i s ≤ credited_up_to P
              x.arriving.history i s + (entry P i).cells
          holds-within = within_held ok-P z.kept.arriving

      waits-more : waits (queued i x) i ≡ waits x i + 1
      waits-more = get_or-set_same x.waiting i (min (waits x i + 1) 255) 0 few ∙ min-low most
        where
          min-low : {n m : ℕ} → n ≤ m → min n m ≡ n
          min-low le = omega arith

      its-queued : (j' : ℕ) → Goes i j' → FlowKept P Q i j' 0 (queued i x)
      its-queued j' goes' = subst (λ m. FlowKept P Q i m 0 (queued i x)) (same-goes i i j j' refl goes' goes) (record {
        all_accepted = f.all_accepted;
        dated = f.dated;
        none_lost = omega (arith, f.none_lost, waits-more);
        asks_now = f.asks_now;
      })

      other-queued : (i' j' : ℕ) → Goes i' j' → (i' ≡ i → ⊥) → FlowKept P Q i' j' 0 (queued i x)
      other-queued i' j' goes' d =
          let g = other-kept i' j' goes' d in
          record {
            all_accepted = g.all_accepted;
            dated = g.dated;
            none_lost = omega (arith, g.none_lost, get_or-set_other x.waiting i i' (min (waits x i + 1) 255) 0 d);
            asks_now = g.asks_now;
          }

      kept-queued : Kept P Q onward (λ n. 0) (queued i x)
      kept-queued = record {
        arriving = z.kept.arriving;
        leaving = z.kept.leaving;
        in_step = z.kept.in_step;
        onward_is = z.kept.onward_is;
        long = length-set x.waiting i (min (waits x i + 1) 255) ∙ z.kept.long;
        flows = λ i' j' goes'. split i' j' goes' (ℕ_discrete i' i);
      }
        where
          split : (i' j' : ℕ) → Goes i' j' → Dec (i' ≡ i) → FlowKept P Q i' j' 0 (queued i x)
          split i' j' goes' (yes same) = subst (λ n. Goes n j' → FlowKept P Q n j' 0 (queued i x)) (sym same) (its-queued j') goes'
          split i' j' goes' (no d) = other-queued i' j' goes' d

      other-tries : (i' j' : ℕ) → Goes i' j' → (i' ≡ i → ⊥) → Tries i' j' (queued i x)
      other-tries i' j' goes' d some-wait =
          all-tried z i' j' goes' (omega (arith, some-wait, get_or-set_other x.waiting i i' (min (waits x i + 1) 255) 0 d))

      -- others of its flow wait
      behind : (waits x i ≡ 0 → ⊥) → Full (queued i x)
      behind some-wait = record { kept = kept-queued; tried = λ i' j' goes'. split i' j' goes' (ℕ_discrete i' i) }
        where
          split : (i' j' : ℕ) → Goes i' j' → Dec (i' ≡ i) → Tries i' j' (queued i x)
          split i' j' goes' (yes same) = same-tries i i' j j' (queued i x) same goes' goes (λ w. all-tried z i j goes (omega arith))
          split i' j' goes' (no d) = other-tries i' j' goes' d

      -- it is the only one
      alone : waits x i ≡ 0 → Full (pass_on 1 i j (queued i x))
      alone empty = record { kept = passed.0.kept; tried = λ i' j' goes'. split i' j' goes' (ℕ_discrete i' i) }
        where
          passed : PassedOn ok-P ok-Q in_step goes_on (λ n. 0) i (queued i x) (pass_on 1 i j (queued i x)) × Tries i j (pass_on 1 i j (queued i x))
          passed = pass_on_lem ok-P ok-Q in_step goes_on 1 i j goes (queued i x) kept-queued (omega (arith, waits-more))

          split : (i' j' : ℕ) → Goes i' j' → Dec (i' ≡ i) → Tries i' j' (pass_on 1 i j (queued i x))
          split i' j' goes' (yes same) = same-tries i i' j j' (pass_on 1 i j (queued i x)) same goes' goes passed.1
          split i' j' goes' (no d) = tried-still ok-P ok-Q in_step goes_on passed.0 i' j' d (other-tries i' j' goes' d)

      one-comes : Full (comes (some j) i x)
      one-comes = go (ℕ_discrete (waits x i) 0)
        where
          go : Dec (waits x i ≡ 0) → Full (comes (some j) i x)
          go (yes empty) = rw (eq-eqb (waits x i) 0 empty) (alone empty)
          go (no some-wait) = rw (ne_eqb (waits x i) 0 some-wait) (behind some-wait)

    comes-full : Full (comes (goes_on_as x i) i x)
    comes-full = subst (λ o. Full (comes o i x)) (sym (ap (λ o. get_or o i none) z.kept.onward_is)) (go (get_or onward i none) refl)
      where
        go : (o : Option ℕ) → get_or onward i none ≡ o → Full (comes o i x)
        go none e = elsewhere e
        go (some j) e = one-comes j e

  -- the board's part of a slot
  pub served-full : (owner : TickAnswer) (x : Crossing) → Kept P Q onward (λ i. bit (is_owner owner i)) x → Full (served owner x)
  unfolding served
  served-full owner x k =
      let count = ap flow_count (known ok-P k.arriving).plan_is in
      subst (λ n. Full (arrives owner (pass_waiting n x))) (sym count) (go owner (walk (flow_count P) x k))
    where
      go : (owner : TickAnswer) → Walked (λ i. bit (is_owner owner i)) (flow_count P) (pass_waiting (flow_count P) x)
          → Full (arrives owner (pass_waiting (flow_count P) x))
      go none z = record { kept = z.kept; tried = all-tried z }
      go (some i) z = comes-full i (pass_waiting (flow_count P) x) z
