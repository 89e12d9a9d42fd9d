-- The lines of links, one by one and put one after another. Assumes nothing.
use Prim.Native.Nat.{ℕ, zero, suc, ◌+◌, ◌*◌, ◌≤◌, ◌<◌}
use mathlib.Core.Path.{◌≡◌, refl, sym, ap, ◌∙◌}
use mathlib.Core.List.{List, ◌∷◌, [], ◌++◌, flat_map, append-nil, append_assoc}
use mathlib.Core.Bool.{Bool, true, false, cond}
use native.Mathlib.Omega.{arith}
use lib.ListN.{replicate}
use Rattle.model.specs.Tables.{table}
use Rattle.model.specs.Plan as plan
use Rattle.model.specs.Listing.{refusal_line}
use Rattle.model.specs.WrittenPlan.{Written, written}
use Rattle.calls.specs.Lines.{Puts}
use Rattle.calls.proofs.Stores.{puts_none, puts_then, puts-same}
use Rattle.mesh.specs.Mesh.{Link}
use Rattle.mesh.specs.Reading.{link_at}
use Rattle.show.specs.Show.{Show, link_plan, used, plan_refusal, link_refusal}
use Rattle.show.proofs.LinkFlows.{table_more}
use Rattle.show.proofs.Claim.{good-plan}
use Rattle.show.proofs.ByContracts.{unused-written}
use Rattle.showwords.specs.Answers.{verdict_line, nodes_text, plan_text, link_line, link_lines}
use Rattle.showwords.specs.Links.{written_line}

-- ---- one line

pub refused-verdict : (r : ℕ) → (r ≡ 0 → ⊥) → refusal_line r ≡ verdict_line r
refused-verdict zero some = absurd (some refl)
refused-verdict (suc r) some = refl

module _ (show : Show) (l : Link) where
  abbrev P : plan.Plan
  P = link_plan show l

  pub refused-line : (r : ℕ) → r ≡ link_refusal show l → (r ≡ 0 → ⊥) → nodes_text l ++ refusal_line r ≡ link_line show l
  unfolding link_line
  refused-line r e some = go (used show l) (plan_refusal show l) e
    where
      go : (b : Bool) (n : ℕ) → r ≡ cond b n 0 → nodes_text l ++ refusal_line r ≡ cond b (nodes_text l ++ plan_text n P) []
      go false n e = absurd (some e)
      go true zero e = absurd (some e)
      go true (suc n) e = ap (λ r. nodes_text l ++ refusal_line r) e

  -- a link without a refusal has its plan's bytes, or no line where nothing is written
  pub plan-line : (r : ℕ) → r ≡ link_refusal show l → r ≡ 0 → written_line (written P (replicate 76 0)).answer l P ≡ link_line show l
  unfolding link_line
  plan-line r e z = go (used show l) refl
    where
      go : (b : Bool) → used show l ≡ b
          → written_line (written P (replicate 76 0)).answer l P ≡ cond b (nodes_text l ++ plan_text (plan_refusal show l) P) []
      go true u =
          let none : plan_refusal show l ≡ 0 = ap (λ b. cond b (plan_refusal show l) 0) (sym u) ∙ sym e ∙ z in
          let good = good-plan P none in
          ap (λ (x : Written). written_line x.answer l P) (good.written_whole (replicate 76 0) good.small) ∙ ap (λ n. nodes_text l ++ plan_text n P) (sym none)
      go false u = ap (λ (x : Written). written_line x.answer l P) (unused-written show l (replicate 76 0) u)

-- ---- the loop

flat-more : {A : Type 0} (g : A → List ℕ) (xs : List A) (x : A) → flat_map g (xs ++ (x ∷ [])) ≡ flat_map g xs ++ g x
unfolding flat_map
flat-more g [] x = append-nil (g x)
flat-more g (y ∷ ys) x = ap (g y ++◌) (flat-more g ys x) ∙ sym (append_assoc (g y) (flat_map g ys) (g x))

-- the lines of the first places are put
pub record LinesTo (show : Show) (before after : List ℕ) (at next k : ℕ) : Type 0 where
  pub within : k ≤ 256
  pub puts : Puts (link_lines show k) before after at next
  pub most : next ≤ at + 200 * k

pub none-put : (show : Show) (out : List ℕ) (at : ℕ) → LinesTo show out out at at 0
unfolding flat_map link_lines
none-put show out at = record { within = omega arith; puts = puts_none out at; most = omega arith }

module _ {show : Show} {before after : List ℕ} {at next k : ℕ} (s : LinesTo show before after at next k) where
  one_more : link_lines show k ++ link_line show (link_at k) ≡ link_lines show (k + 1)
  unfolding link_lines
  one_more =
      let line : ℕ → List ℕ = λ k. link_line show (link_at k) in
      sym (flat-more line (table k (λ j. j)) k) ∙ ap (flat_map line) (sym (table_more k (λ j. j)))

  pub one-put : {after' : List ℕ} {next' : ℕ} → k < 256 → Puts (link_line show (link_at k)) after after' next next' → next' ≤ next + 200
      → LinesTo show before after' at next' (k + 1)
  one-put h p m = record { within = omega arith; puts = puts-same one_more (puts_then s.puts p); most = omega (arith, s.most) }

  pub all-put : 256 ≤ k → Puts (link_lines show 256) before after at next
  all-put h = let end : k ≡ 256 = omega (arith, s.within) in puts-same (ap (link_lines show) end) s.puts
