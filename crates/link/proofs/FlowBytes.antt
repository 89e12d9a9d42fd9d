-- The flows of a state in four bytes each: one read after it was stored, and the others. Assumes nothing.
use Prim.Native.Nat.{ℕ, ◌+◌, ◌*◌, ◌/◌, ◌%◌, ◌<◌}
use mathlib.Core.Path.{◌≡◌, refl, sym, ap, ◌∙◌}
use mathlib.Core.List.{List}
use native.Mathlib.Decide.{ℕ_discrete}
use native.Mathlib.Omega.{arith}
use lib.ListN.{length, get_or, set, length-set}
use lib.Seq.{ext_get_or, get_or-set_same, get_or-set_other}
use Rattle.window.proofs.Tabulated.{get_d-table, length-table, table_same}
use Rattle.state.specs.Parts.{part, Beside, Apart}
use Rattle.state.specs.State.{Whole}
use borrow.Rule.Slice.PartMut.{put_mid}
use Rattle.state.proofs.Parts.{part-beside, beside-part, part-of-with, put-mid-part}
use Rattle.link.specs.declared.Flow.{Flow}
use Rattle.link.specs.Layout.{no_flow}
use Rattle.link.specs.Parts.{flow_from, flow_bytes, flow_read, with_flow_at, flows_of}

-- the bytes of a flow are read as that flow
flow-back : (f : Flow) → flow_from (flow_bytes f) ≡ f
flow-back f = let number : f.number % 256 + 256 * (f.number / 256) ≡ f.number = omega arith in rw number

pub beside-flow : (s : List ℕ) (i : ℕ) (f : Flow) → Beside (4416 + 4 * i) (4416 + 4 * i + 4) s (with_flow_at s i f)
unfolding with_flow_at
beside-flow s i f = beside-part s (4416 + 4 * i) 4 (flow_bytes f)

pub flow-beside : {a e : ℕ} {s t : List ℕ} → Beside a e s t → (i : ℕ) → Apart (4416 + 4 * i) 4 a e → flow_read t i ≡ flow_read s i
unfolding flow_read
flow-beside v i apart = ap flow_from (part-beside v (4416 + 4 * i) 4 apart)

flow-same : (s : List ℕ) (i : ℕ) (f : Flow) → Whole s → i < 16 → flow_read (with_flow_at s i f) i ≡ f
unfolding flow_read with_flow_at
flow-same s i f e h = ap flow_from (part-of-with s (4416 + 4 * i) 4 (flow_bytes f) refl (omega (arith, e))) ∙ flow-back f

flow-other : (s : List ℕ) (i : ℕ) (f : Flow) (k : ℕ) → (k ≡ i → ⊥) → flow_read (with_flow_at s i f) k ≡ flow_read s k
flow-other s i f k n = flow-beside (beside-flow s i f) k (λ q l₁ h₁ l₂ h₂. n (omega arith))

pub length-flows : (s : List ℕ) → length (flows_of s) ≡ 16
unfolding flows_of
length-flows s = length-table 16 (flow_read s)

pub flows-at : (s : List ℕ) (i : ℕ) → i < 16 → get_or (flows_of s) i no_flow ≡ flow_read s i
unfolding flows_of
flows-at s i h = get_d-table 16 (flow_read s) i no_flow h

pub flows-beside : {a e : ℕ} {s t : List ℕ} → Beside a e s t → Apart 4416 64 a e → flows_of t ≡ flows_of s
unfolding flows_of
flows-beside v apart =
    table_same 16 _ _ (λ i h. flow-beside v i (λ k l₁ h₁ l₂ h₂. apart k (omega arith) (omega arith) l₂ h₂))

pub flows-set : (s : List ℕ) (i : ℕ) (f : Flow) → Whole s → i < 16 → flows_of (with_flow_at s i f) ≡ set (flows_of s) i f
flows-set s i f e h =
    ext_get_or no_flow _ _ (length-flows _ ∙ sym (length-set (flows_of s) i f ∙ length-flows s)) λ k l.
    go k (rw length-flows at l) (ℕ_discrete k i)
  where
    go : (k : ℕ) → k < 16 → Dec (k ≡ i) → get_or (flows_of (with_flow_at s i f)) k no_flow ≡ get_or (set (flows_of s) i f) k no_flow
    go k l (yes d) =
        rw d (flows-at _ i h ∙ flow-same s i f e h ∙ sym (get_or-set_same (flows_of s) i f no_flow (rw length-flows h)))
    go k l (no d) = flows-at _ k l ∙ flow-other s i f k d ∙ sym (flows-at s k l) ∙ sym (get_or-set_other (flows_of s) i k f no_flow d)

-- what the code reads, and what it stores
pub flow-read : (s : List ℕ) (i : ℕ) (f : Flow) → f.injection ≡ get_or s (4416 + 4 * i) 0 → f.remainder ≡ get_or s (4416 + 4 * i + 1) 0
    → f.number ≡ get_or s (4416 + 4 * i + 2) 0 + 256 * get_or s (4416 + 4 * i + 3) 0 → f ≡ flow_read s i
unfolding flow_read part
flow-read s i f a b c =
    let first : 4416 + 4 * i + 0 ≡ 4416 + 4 * i = omega arith in
    rw first (λ k. record { injection = a k; remainder = b k; number = c k })

pub flow-stored : (s : List ℕ) (i n : ℕ) (f : Flow) (bytes : List ℕ) → Whole s → i < 16 → n ≡ 4 → bytes ≡ flow_bytes f
    → put_mid (4416 + 4 * i) n s bytes ≡ with_flow_at s i f
unfolding with_flow_at
flow-stored s i n f bytes whole few four is = put-mid-part s (4416 + 4 * i) 4 n (flow_bytes f) bytes four is refl (omega (arith, whole))
