-- An image is taken exactly if it meets the conditions of RULES 12.3. Assumes nothing.
use Prim.Native.Nat.{ℕ, ◌<◌}
use mathlib.Core.Path.{◌≡◌, ◌∙◌}
use mathlib.Core.Logic.{◌↔◌}
use mathlib.Core.List.{List}
use mathlib.Core.Bool.{Bool, true, false}
use native.Mathlib.Omega.{arith}
use lib.ListN.{length, get_or}
use lib.Dec.{eqb}
use borrow.Author.Tests.{ltb-false, le-ltb, eqb-true, eq-eqb, not-false}
use Rattle.model.specs.Tables.{every}
use Rattle.model.specs.Refusals.{first_of}
use Rattle.model.specs.Plan.{refusal}
use Rattle.model.proofs.Tests.{or-false, line-passed}
use Rattle.model.proofs.Tables.{every-at}
use Rattle.imagemodel.specs.Image.{header_length, layout, header_field, state_field, plan_part, plan_in, link_in}
use Rattle.imagemodel.specs.ValidImage.{too_short, listed, fault_tests, refusal_of, ValidImage}
use Rattle.imagemodel.proofs.Numbers.{first_of-same}
use Rattle.imagemodel.proofs.Conditions.{consistent-exactly}

module _ (b : List ℕ) where
  abbrev field_test : ℕ → Bool
  field_test k = eqb (header_field b k) (get_or (layout (plan_in b)) k 0)

  valid-if : refusal_of b ≡ 0 → ValidImage b
  unfolding refusal_of listed
  valid-if e =
      let l1 = line-passed _ 20 _ e in
      let l2 = line-passed _ 21 _ l1.1 in
      let l3 = line-passed _ 21 _ l2.1 in
      let l4 = line-passed _ 21 _ l3.1 in
      let l5 = line-passed _ 21 _ l4.1 in
      let long = or-false _ _ l1.0 in
      let as-listed : (k : ℕ) → k < 6 → header_field b k ≡ get_or (layout (plan_in b)) k 0 =
      λ k lt. eqb-true _ _ (every-at 6 field_test k (not-false _ l2.0) lt) in
      record {
        header_there = ltb-false (length b) header_length long.0;
        image_there = ltb-false (length b) (header_field b 0) long.1;
        total_is = as-listed 0 (omega arith);
        plan_offset_is = as-listed 1 (omega arith);
        positions_offset_is = as-listed 2 (omega arith);
        positions_are = as-listed 3 (omega arith);
        flows_offset_is = as-listed 4 (omega arith);
        flows_are = as-listed 5 (omega arith);
        plan_passes = eqb-true (refusal (plan_part b)) 0 (not-false _ l3.0);
        mark_is_bit = ltb-false 1 (state_field b 1) l4.0;
        link_consistent = (consistent-exactly (link_in b)).0 (not-false _ l5.0);
      }

  is-listed : ValidImage b → listed b ≡ true
  unfolding listed every
  is-listed v =
      rw (
        eq-eqb _ _ v.total_is,
        eq-eqb _ _ v.plan_offset_is,
        eq-eqb _ _ v.positions_offset_is,
        eq-eqb _ _ v.positions_are,
        eq-eqb _ _ v.flows_offset_is,
        eq-eqb _ _ v.flows_are,
      )

  only_if : ValidImage b → refusal_of b ≡ 0
  unfolding refusal_of first_of
  only_if v =
      rw (
        le-ltb (length b) header_length v.header_there,
        le-ltb (length b) (header_field b 0) v.image_there,
        is-listed v,
        eq-eqb (refusal (plan_part b)) 0 v.plan_passes,
        le-ltb 1 (state_field b 1) v.mark_is_bit,
        (consistent-exactly (link_in b)).1 v.link_consistent,
      )

  pub valid-image : (refusal_of b ≡ 0) ↔ ValidImage b
  valid-image = (valid-if, only_if)

  -- ---- the number of a buffer that is not taken

  pub too_short_lem : too_short b ≡ true → refusal_of b ≡ 21
  unfolding refusal_of first_of
  too_short_lem e = rw e

  pub other-fault : too_short b ≡ false → (ValidImage b → ⊥) → refusal_of b ≡ 22
  unfolding refusal_of first_of
  other-fault e not_valid =
      -- past the first line every number is 22
      let rest : refusal_of b ≡ first_of (fault_tests b) = rw e in
      rest ∙ first_of-same 22 (fault_tests b) (omega arith) (λ none. not_valid (valid-if (rest ∙ none)))
