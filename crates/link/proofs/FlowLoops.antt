-- A loop that has changed the first i of the flows of a state, and nothing else. Assumes nothing.
use Prim.Native.Nat.{ℕ, ◌+◌, ◌≤◌, ◌<◌}
use mathlib.Core.Path.{◌≡◌, refl, sym, ap, ◌∙◌}
use mathlib.Core.List.{List}
use native.Mathlib.Omega.{arith}
use Rattle.window.specs.Ranges.{in_range, replaced}
use Rattle.window.proofs.Ranges.{replaced-none, replaced-more, replaced-kept, replaced-done}
use Rattle.state.specs.Parts.{Beside}
use Rattle.state.specs.State.{Whole}
use Rattle.state.proofs.Parts.{beside-wider, beside-both}
use Rattle.link.specs.declared.Flow.{Flow}
use Rattle.link.specs.Layout.{no_flow}
use Rattle.link.specs.Parts.{flows_of, flow_read, with_flow_at}
use Rattle.link.specs.Changes.{FlowsNow}
use Rattle.link.proofs.FlowBytes.{beside-flow, flows-at, flows-set}

pub record Flowing (f : ℕ → Flow → Flow) (n : ℕ) (before s : List ℕ) (i : ℕ) : Type 0 where
  pub few : n ≤ 16
  pub to : i ≤ n
  pub whole : Whole s
  pub beside : Beside 4416 4480 before s
  pub flows_are : flows_of s ≡ replaced (in_range 0 i) f (flows_of before)

module _ {f : ℕ → Flow → Flow} {n : ℕ} {before : List ℕ} where
  pub flowing-none : n ≤ 16 → Whole before → Flowing f n before before 0
  flowing-none few whole = record {
    few = few;
    to = omega arith;
    whole = whole;
    beside = record { long = refl; kept = λ k _. refl };
    flows_are = replaced-none 0 f (flows_of before) no_flow;
  }

  module _ {s : List ℕ} {i : ℕ} (v : Flowing f n before s i) where
    module _ (more : i < n) where
      -- flow i is stored
      pub flowing-put : {x : Flow} → x ≡ f i (flow_read s i) → {t : List ℕ} → t ≡ with_flow_at s i x → Flowing f n before t (i + 1)
      flowing-put {x} is e =
          let below : i < 16 = omega (arith, v.few) in
          rw e (record {
            few = v.few;
            to = omega arith;
            whole = (beside-flow s i x).long ∙ v.whole;
            beside = beside-both v.beside (beside-wider (omega arith) (omega arith) (beside-flow s i x));
            flows_are =
                flows-set s i x v.whole below
                ∙ replaced-more 0 i f (flows_of before) no_flow (flows_of s) x v.flows_are (omega arith) (is ∙ ap (f i) (sym (flows-at s i below)));
          })

      -- flow i stays
      pub flowing-kept : f i (flow_read s i) ≡ flow_read s i → Flowing f n before s (i + 1)
      flowing-kept same =
          let below : i < 16 = omega (arith, v.few) in
          record {
            few = v.few;
            to = omega arith;
            whole = v.whole;
            beside = v.beside;
            flows_are = replaced-kept 0 i f (flows_of before) no_flow (flows_of s) v.flows_are (omega arith) (rw (flows-at s i below) same);
          }

    pub flowing-done : n ≤ i → FlowsNow before s (replaced (in_range 0 n) f (flows_of before))
    flowing-done end = record { flows_are = replaced-done _ _ _ _ _ _ v.flows_are (omega (arith, v.to)); beside = v.beside }
