-- The exported play: a buffer that is refused, no room for the numbers, and the records played. Assumes nothing.
use Prim.Native.Nat.{ℕ, zero, suc, ◌+◌, ◌*◌, ◌/◌, ◌≤◌, ◌<◌}
use mathlib.Core.Path.{◌≡◌, refl, sym, ap, ◌∙◌, subst}
use mathlib.Core.List.{List, flat_map}
use native.Mathlib.Omega.{arith}
use lib.ListN.{length}
use lib.Seq.{sets}
use borrow.Author.Tests.{eq-eqb, ne_eqb, lt-ltb, le-ltb}
use Rattle.model.specs.Refusals.{first_of}
use Rattle.model.specs.Record.{records}
use Rattle.model.specs.WrittenPlan.{AllBytes}
use Rattle.model.specs.Link.{Link}
use Rattle.plan.specs.declared.Plan.{Plan}
use Rattle.link.specs.Steps.{read_in}
use Rattle.imagemodel.specs.Image.{image_length, link_in}
use Rattle.imagemodel.specs.ValidImage.{refusal_of, ValidImage}
use Rattle.imagemodel.specs.Exports.{refusal_number, written_to}
use Rattle.imagemodel.specs.Play.{Results, eight, played_back, play_on, PlaysBack, in_order}
use Rattle.imagemodel.proofs.Closed.{KeptAfter}
use Rattle.imagemodel.proofs.ImageValid.{read_kept}
use Rattle.imagemodel.proofs.Play.{records-count, all-kept, all-called}
use Rattle.imagecodec.specs.Asked.{Writable}
use Rattle.nazgolv.specs.Steps.{PlaysTo}

-- there is room for as many numbers as records
pub room : (stream out : List ℕ) → (length stream + 4) / 5 ≤ length out / 8 → 8 * length (records stream) ≤ length out
room stream out long = omega (arith, records-count stream)

module _ (b stream out : List ℕ) {n : ℕ} (e : n ≡ refusal_of b) where
  pub play-turned : {r : ℕ} → (n ≡ 0 → ⊥) → r ≡ refusal_number n → PlaysBack (play_on b stream out) r b out
  unfolding play_on played_back first_of
  play-turned {r} d number = go n e d number
    where
      go : (n : ℕ) → n ≡ refusal_of b → (n ≡ 0 → ⊥) → r ≡ refusal_number n → PlaysBack (play_on b stream out) r b out
      go zero q d number = absurd (d refl)
      go (suc n) q d number = rw (← q, ne_eqb (suc n) 0 (λ y. omega arith)) (number, refl, refl)

  pub no_room : n ≡ 0 → {r : ℕ} → length out / 8 < (length stream + 4) / 5 → r ≡ refusal_number 19 → PlaysBack (play_on b stream out) r b out
  unfolding play_on played_back first_of
  no_room z short number =
      rw (eq-eqb (refusal_of b) 0 (sym e ∙ z), lt-ltb (length out) (8 * length (records stream)) (omega (arith, records-count stream)))
      (number, refl, refl)

  module _ (z : n ≡ 0) (t : ValidImage b) {l : Link} (is : l ≡ link_in b) {p : Plan} {s out' : List ℕ}
      (v : PlaysTo (in_order l (records stream)) p s out out') where
    last_is : read_in p s ≡ (in_order (link_in b) (records stream)).link
    last_is = v.link_is ∙ ap (λ k. (in_order k (records stream)).link) is

    kept : KeptAfter (link_in b) (read_in p s)
    kept = subst (KeptAfter (link_in b)) (sym last_is) (all-kept (read_kept b t) (records stream))

    pub play-writable : Writable p s b
    unfolding link_in
    play-writable = record {
      sound = v.sound;
      keepable = kept.kept;
      there = omega (arith, ap image_length kept.same_plan, t.total_is, t.image_there);
    }

    pub play-comes-to : AllBytes b → (length stream + 4) / 5 ≤ length out / 8 → {after : List ℕ} → after ≡ written_to b (read_in p s)
        → PlaysBack (play_on b stream out) 0 after out'
    unfolding play_on played_back first_of
    play-comes-to bytes long written =
        let y = sym (all-called t bytes (records stream)) in
        rw (eq-eqb (refusal_of b) 0 (sym e ∙ z), le-ltb (length out) (8 * length (records stream)) (room stream out long)) (
          refl,
          written ∙ ap (written_to b) last_is ∙ ap (λ (x : Results). x.buffer) y,
          v.out_is ∙ ap (λ k. sets out 0 (flat_map eight (in_order k (records stream)).numbers)) is
              ∙ ap (λ (x : Results). sets out 0 (flat_map eight x.numbers)) y,
        )
