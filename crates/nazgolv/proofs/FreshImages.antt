-- The exported fresh: a plan that is refused, a buffer that is too short, and the image that is written. Assumes nothing.
use Prim.Native.Nat.{ℕ, zero, suc, ◌≤◌, ◌<◌}
use mathlib.Core.Path.{◌≡◌, refl, sym, ap, ◌∙◌, subst}
use mathlib.Core.List.{List}
use native.Mathlib.Omega.{arith}
use lib.ListN.{length}
use borrow.Author.Tests.{eq-eqb, ne_eqb, lt-ltb, le-ltb}
use Rattle.model.specs.Refusals.{first_of}
use Rattle.model.specs.Plan as model
use Rattle.model.specs.Fresh.{fresh}
use Rattle.model.proofs.Plan as of_plan
use Rattle.std.proofs.Common.{Ok, Err}
use Rattle.limits.specs.declared.refusal.Refusal.{Refusal}
use Rattle.limits.specs.Refusals.{number}
use Rattle.limits.proofs.Refusals.{some-number}
use Rattle.plan.specs.declared.Plan.{Plan}
use Rattle.plan.specs.Reading.{plan_for, ReadAs}
use Rattle.plan.proofs.Laws.{is-plan}
use Rattle.link.specs.Sound.{SoundState}
use Rattle.link.specs.Steps.{read_in}
use Rattle.imagemodel.specs.Image.{image_length}
use Rattle.imagemodel.specs.Consistent.{Keepable}
use Rattle.imagemodel.specs.Exports.{HandsBack, refusal_number, written_to, handed_back, fresh_on}
use Rattle.imagemodel.proofs.FreshKept.{fresh_kept}
use Rattle.imagecheck.specs.declared.layout.Layout.{Layout}
use Rattle.imagecheck.specs.Layout.{LaidOut}
use Rattle.imagecheck.proofs.Layouts.{total_is}
use Rattle.imagecodec.specs.Asked.{Writable}

module _ (plan b : List ℕ) where
  -- the plan is refused
  pub plan-refused : (f : Refusal) → ReadAs plan (Err f) → {n r : ℕ} → n ≡ number f → r ≡ refusal_number n → HandsBack (fresh_on plan b) r b
  unfolding fresh_on handed_back first_of
  plan-refused f e {r = r} n-is told = go (number f) e (some-number f) (told ∙ ap refusal_number n-is)
    where
      go : (k : ℕ) → model.refusal plan ≡ k → 0 < k → r ≡ refusal_number k → HandsBack (fresh_on plan b) r b
      go zero q some number-is = absurd (omega arith)
      go (suc k) q some number-is = rw (q, ne_eqb (suc k) 0 (λ y. omega arith)) (number-is, refl)

  module _ {p : Plan} (e : ReadAs plan (Ok p)) where
    passes : model.refusal plan ≡ 0
    passes = e.0

    plan_is : plan_for p ≡ model.plan_of plan
    plan_is = is-plan plan p e

    module _ {y : Layout} (laid : LaidOut (plan_for p) y) where
      long-is : y.total ≡ image_length (model.plan_of plan)
      long-is = total_is laid ∙ ap image_length plan_is

      -- the buffer is too short
      pub no_room : {r : ℕ} → length b < y.total → r ≡ refusal_number 21 → HandsBack (fresh_on plan b) r b
      unfolding fresh_on handed_back first_of
      no_room h told =
          rw (eq-eqb (model.refusal plan) 0 passes, lt-ltb (length b) (image_length (model.plan_of plan)) (omega (arith, long-is))) (told, refl)

      module _ (h : y.total ≤ length b) {q : Plan} {s : List ℕ} (is : read_in q s ≡ fresh (plan_for p)) (sound : SoundState q s) where
        reads : read_in q s ≡ fresh (model.plan_of plan)
        reads = is ∙ ap fresh plan_is

        pub fresh-writable : Writable q s b
        unfolding fresh
        fresh-writable = record {
          sound = sound;
          keepable = subst Keepable (sym reads) (fresh_kept (of_plan.accepted plan passes));
          there = omega (arith, long-is, ap (λ x. image_length x.plan) reads);
        }

        pub fresh-written : {r : ℕ} {after : List ℕ} → r ≡ 0 → after ≡ written_to b (read_in q s) → HandsBack (fresh_on plan b) r after
        unfolding fresh_on handed_back first_of
        fresh-written told written =
            rw (eq-eqb (model.refusal plan) 0 passes, le-ltb (length b) (image_length (model.plan_of plan)) (omega (arith, long-is)))
            (told, written ∙ ap (written_to b) reads)
