-- A lend on a link that stands after a history. Assumes nothing.
use Prim.Native.Nat.{ℕ, zero, suc, ◌%◌, ◌<◌}
use mathlib.Core.Path.{◌≡◌, refl}
use mathlib.Core.List.{◌∷◌}
use mathlib.Core.Option.{Option, some, none}
use mathlib.Core.Bool.{true}
use native.Mathlib.Nat.{mod-lt}
use Rattle.model.specs.Refusals.{first_of}
use Rattle.model.specs.Plan.{flow_count}
use Rattle.model.specs.Calls.{LendAnswer, History, lent, accepted, refused, in_mask}
use Rattle.model.specs.Link.{Link, flow, with_held, held_from}
use Rattle.model.specs.Lend.{can_take, takes, lend_tests, lent_to, first_in_turn, lent_after, lend_after, lend}
use Rattle.model.specs.History.{ticks, origin, grants, credits, grants_since, refusals_since}
use Rattle.model.proofs.Tests.{and-true}
use Rattle.model.proofs.Tables.{first_from-some}
use Rattle.model.proofs.LinkUpdates.{each_flow}
use Rattle.model.proofs.HistoryCounts.{raises}
use Rattle.model.proofs.LendKeeps.{LendPasses, lend-passes, lent-keeps}
use Rattle.model.proofs.AfterHistory.{LeastOf, NumberOf, After, after-event}

module _ {l : Link} {h : History} (g : After l.plan l h) (mask : ℕ) where
  open l use {plan as P}
  open g use {invariant as v}
  open v.current use {accepted as ok}

  -- no lend changes what the least count needs of a flow
  least_kept : (a : LendAnswer) (q : ℕ) → q < flow_count P → LeastOf P (lent mask a ∷ h) q (flow l q)
  unfolding ticks origin grants_since refusals_since
  least_kept a q known asked = g.least q known (record { ready = asked.ready.1; refused_before = asked.refused_before })

  not_lent : (r : ℕ) → After P l (lent mask (refused r) ∷ h)
  unfolding ticks origin grants grants_since raises credits
  not_lent r = after-event g (record {
    plan_is = refl;
    keeps = v;
    soon = tt;
    comes_up = tt;
    word = tt;
    after_departure = tt;
    loan = tt;
    numbered = tt;
    least = least_kept (refused r);
    numbers = g.numbers;
  })

  lent-to : LendPasses l mask → (i : ℕ) → i < flow_count P → takes l mask i ≡ true → After P (lent_to l i) (lent mask (accepted i) ∷ h)
  unfolding ticks origin grants grants_since raises credits lent_to
  lent-to free i known takes =
      let both = and-true (in_mask mask i) (can_take l i) takes in
      after-event g (record {
        plan_is = refl;
        keeps = lent-keeps v free known both.1;
        soon = tt;
        comes_up = tt;
        word = tt;
        after_departure = tt;
        loan = record { mask_below = free.mask_below; known = known; in_mask = both.0 };
        numbered = tt;
        least =
            each_flow l (LeastOf P (lent mask (accepted i) ∷ h)) i (with_held (flow l i) (held_from l i l.current suc))
            (least_kept (accepted i) i known) (λ q known d. least_kept (accepted i) q known);
        numbers =
            each_flow l (NumberOf P h) i (with_held (flow l i) (held_from l i l.current suc)) (g.numbers i known) (λ q known d. g.numbers q known);
      })

  found : LendPasses l mask → (o : Option ℕ) → first_in_turn l mask ≡ o → After P (lent_after l o).link (lent mask (lent_after l o).answer ∷ h)
  unfolding first_in_turn lent_after
  found free none e = not_lent 18
  found free (some k) e =
      let hit = first_from-some (flow_count P) l.turn (λ j. takes l mask (j % flow_count P)) k e in
      lent-to free (k % flow_count P) (mod-lt k ok.some_flow) hit.passes

  pub after-lend : After P (lend l mask).link (lent mask (lend l mask).answer ∷ h)
  unfolding lend lend_after
  after-lend = go (first_of (lend_tests l mask)) refl
    where
      go : (r : ℕ) → first_of (lend_tests l mask) ≡ r
          → After P (lend_after r l mask).link (lent mask (lend_after r l mask).answer ∷ h)
      go zero e = found (lend-passes l mask e) (first_in_turn l mask) refl
      go (suc r) e = not_lent (suc r)
