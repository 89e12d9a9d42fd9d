-- The plan of a link as it is asked for, tested and written. Assumes nothing.
use Prim.Native.Nat.{ℕ}
use mathlib.Core.Path.{◌≡◌, refl, sym, ap, ◌∙◌}
use mathlib.Core.List.{List, ◌∷◌, []}
use mathlib.Core.Bool.{Bool, true, false, cond}
use native.Mathlib.Omega.{arith}
use lib.ListN.{length, length-map}
use Rattle.model.specs.Refusals.{first_of}
use Rattle.model.specs.WrittenPlan as writer
use Rattle.model.specs.WrittenPlan.{number_tests}
use Rattle.limits.specs.declared.Draft.{Draft}
use Rattle.limits.specs.Reading.{draft_for}
use Rattle.mesh.specs.Mesh.{Link, keep}
use Rattle.mesh.specs.Reading.{link_at}
use Rattle.mesh.proofs.Admitted.{none_kept, nothing-kept}
use Rattle.show.specs.declared.Dome.{Dome}
use Rattle.show.specs.Show.{Show, uses_link, entry_on, flows_of, link_plan, used, plan_refusal, link_refusal}
use Rattle.show.specs.Reading.{show_of}
use Rattle.show.specs.Gathering.{draft_over}
use Rattle.show.proofs.LinkFlows.{same_number, same-written}

-- ---- whether a link is used

empty : {A : Type 0} (xs : List A) → length xs ≡ 0 → xs ≡ []
empty [] e = refl
empty (x ∷ xs) e = absurd (omega arith)

module _ (show : Show) (l : Link) where
  flows_are : length (flows_of l show.streams) ≡ length (keep (uses_link l) show.streams)
  flows_are = length-map (keep (uses_link l) show.streams) (entry_on l)

  pub unused : length (flows_of l show.streams) ≡ 0 → used show l ≡ false
  unfolding used
  unused e = nothing-kept (uses_link l) show.streams (empty (keep (uses_link l) show.streams) (sym flows_are ∙ e))

  pub in_use : (length (flows_of l show.streams) ≡ 0 → ⊥) → used show l ≡ true
  unfolding used
  in_use some = go (used show l) refl
    where
      go : (b : Bool) → used show l ≡ b → b ≡ true
      go true e = refl
      go false e = absurd (some (flows_are ∙ ap length (none_kept (uses_link l) show.streams e)))

-- ---- the plan that is asked for

module _ (dome : Dome) (numbers cells : List ℕ) (k : ℕ) where
  abbrev show : Show
  show = show_of dome numbers cells

  -- a plan as it is asked for with the flows of the link
  pub record Asked (d : Draft) : Type 0 where
    pub is : d ≡ draft_over dome (flows_of (link_at k) show.streams)

  module _ {d : Draft} where
    count_is : Asked d → d.count ≡ length (flows_of (link_at k) show.streams)
    unfolding draft_over
    count_is a = ap (λ (d : Draft). d.count) a.is

    pub written_as : Asked d → (out : List ℕ) → writer.written (draft_for d) out ≡ writer.written (link_plan show (link_at k)) out
    unfolding link_plan
    written_as a out = ap (λ d. writer.written (draft_for d) out) a.is ∙ same-written dome (flows_of (link_at k) show.streams) out

    pub not-asked : Asked d → d.count ≡ 0 → 0 ≡ link_refusal show (link_at k)
    not-asked a z = ap (λ b. cond b (plan_refusal show (link_at k)) 0) (sym (unused show (link_at k) (sym (count_is a) ∙ z)))

    pub number-as : Asked d → (d.count ≡ 0 → ⊥) → first_of (number_tests (draft_for d)) ≡ link_refusal show (link_at k)
    unfolding link_plan
    number-as a some =
        ap (λ d. first_of (number_tests (draft_for d))) a.is ∙ same_number dome (flows_of (link_at k) show.streams)
        ∙ ap (λ b. cond b (plan_refusal show (link_at k)) 0) (sym (in_use show (link_at k) (λ z. some (count_is a ∙ z))))
