-- The parts of a state: a mask read after a mask was stored, and the masks as a list. Assumes nothing.
use Prim.Native.Nat.{ℕ, ◌+◌, ◌-◌, ◌*◌, ◌≤◌, ◌<◌}
use mathlib.Core.Path.{◌≡◌, refl, sym, ap, ◌∙◌}
use mathlib.Core.List.{List, ◌∷◌, []}
use native.Mathlib.Decide.{ℕ_discrete}
use native.Mathlib.Omega.{arith}
use native.Mathlib.Nat.{div-div-eq-div-mul}
use lib.ListN.{length, get_or, set, length-set}
use borrow.Rule.Slice.PartMut.{put_mid}
use Rattle.std.proofs.Common.{w64}
use Rattle.std.specs.Int.{from_le_bytes, to_le_bytes}
use lib.Seq.{ext_get_or, get_or-set_same, get_or-set_other}
use Rattle.window.specs.Ranges.{in_range, replaced}
use Rattle.window.proofs.Tabulated.{get_d-table, length-table, table_same}
use Rattle.state.specs.Parts.{part, with_part, Beside, Apart, number_in, bytes_of}
use Rattle.state.specs.State.{Whole, held_of, with_held, owners_of, with_owners, mask_at, with_mask, masks_of, MasksNow}
use Rattle.state.proofs.PartRanges.{replaced-in}
use Rattle.state.proofs.Parts.{length_part, part_at, part-beside, part-with-inner, beside-wider, beside-both, beside-part, part-of-with, length-bytes, number-of-bytes, put-mid-part}

-- ---- what is held

pub length-held : (s : List ℕ) → length (held_of s) ≡ 4096
unfolding held_of
length-held s = length_part s 0 4096

pub held_at : (s : List ℕ) (k : ℕ) → k < 4096 → get_or (held_of s) k 0 ≡ get_or s k 0
unfolding held_of
held_at s k h = let first : 0 + k ≡ k = omega arith in part_at s 0 4096 k h ∙ ap (λ (q : ℕ). get_or s q 0) first

pub held-beside : {a e : ℕ} {s t : List ℕ} → Beside a e s t → 4096 ≤ a → held_of t ≡ held_of s
unfolding held_of
held-beside v h = part-beside v 0 4096 (λ k l₁ h₁ l₂ h₂. omega arith)

-- a part of it replaced
pub held_with : (s : List ℕ) (a n : ℕ) (xs : List ℕ) → Whole s → a + n ≤ 4096 → held_of (with_part s a n xs) ≡ with_part (held_of s) a n xs
unfolding held_of
held_with s a n xs e h =
    let first : 0 + a ≡ a = omega arith in
    rw first at (part-with-inner s 0 4096 a n xs h (omega (arith, e)))

-- all of it replaced
pub held-with-all : (s h : List ℕ) → Whole s → length h ≡ 4096 → held_of (with_held s h) ≡ h
unfolding held_of with_held
held-with-all s h e long = part-of-with s 0 4096 h long (omega (arith, e))

pub beside-all-held : (s h : List ℕ) → Beside 0 4096 s (with_held s h)
unfolding with_held
beside-all-held s h = beside-wider (omega arith) (omega arith) (beside-part s 0 4096 h)

-- ---- the owners

pub owners-at : (s : List ℕ) (p : ℕ) → p < 256 → get_or (owners_of s) p 0 ≡ get_or s (4096 + p) 0
unfolding owners_of
owners-at s p h = part_at s 4096 256 p h

pub length-owners : (s : List ℕ) → length (owners_of s) ≡ 256
unfolding owners_of
length-owners s = length_part s 4096 256

-- beside what changes
pub owners-beside : {a e : ℕ} {s t : List ℕ} → Beside a e s t → Apart 4096 256 a e → owners_of t ≡ owners_of s
unfolding owners_of
owners-beside v apart = part-beside v 4096 256 apart

-- one owner stored
pub owners-set : (s : List ℕ) (p x : ℕ) → Whole s → p < 256 → owners_of (set s (4096 + p) x) ≡ set (owners_of s) p x
owners-set s p x e h =
    ext_get_or 0 _ _ (length-owners _ ∙ sym (length-set (owners_of s) p x ∙ length-owners s)) λ k l.
    go k (rw length-owners at l) (ℕ_discrete k p)
  where
    go : (k : ℕ) → k < 256 → Dec (k ≡ p) → get_or (owners_of (set s (4096 + p) x)) k 0 ≡ get_or (set (owners_of s) p x) k 0
    go k l (yes d) =
        rw d (owners-at _ p h ∙ get_or-set_same s (4096 + p) x 0 (omega (arith, e)) ∙ sym (get_or-set_same (owners_of s) p x 0 (rw length-owners h)))
    go k l (no d) =
        owners-at _ k l
        ∙ get_or-set_other s (4096 + p) (4096 + k) x 0 (λ z. d (omega arith))
        ∙ sym (owners-at s k l)
        ∙ sym (get_or-set_other (owners_of s) p k x 0 d)

-- all owners stored
pub owners-with : (s o : List ℕ) → Whole s → length o ≡ 256 → owners_of (with_owners s o) ≡ o
unfolding owners_of with_owners
owners-with s o e long = part-of-with s 4096 256 o long (omega (arith, e))

pub beside-owners : (s o : List ℕ) → Beside 4096 4352 s (with_owners s o)
unfolding with_owners
beside-owners s o = beside-part s 4096 256 o

-- a range of the owners replaced
pub owners-replaced : (s : List ℕ) (a e : ℕ) (f : ℕ → ℕ → ℕ) → e ≤ 256
    → replaced (in_range (4096 + a) (4096 + e)) (λ k x. f (k - 4096) x) s ≡ with_owners s (replaced (in_range a e) f (owners_of s))
unfolding owners_of with_owners
owners-replaced s a e f few = replaced-in s 4096 256 a e f few

-- ---- the masks

pub beside-mask : (s : List ℕ) (j x : ℕ) → Beside (4352 + 8 * j) (4352 + 8 * j + 8) s (with_mask s j x)
unfolding with_mask
beside-mask s j x = beside-part s (4352 + 8 * j) 8 (bytes_of 8 x)

-- a mask that was stored is read again
pub mask-same : (s : List ℕ) (j x : ℕ) → Whole s → j < 8 → x < 18446744073709551616 → mask_at (with_mask s j x) j ≡ x
unfolding mask_at with_mask
mask-same s j x e h b =
    ap number_in (part-of-with s (4352 + 8 * j) 8 (bytes_of 8 x) (length-bytes 8 x) (omega (arith, e))) ∙ number-of-bytes 8 x b

-- a mask beside what changes
pub mask-beside : {a e : ℕ} {s t : List ℕ} → Beside a e s t → (j : ℕ) → Apart (4352 + 8 * j) 8 a e → mask_at t j ≡ mask_at s j
unfolding mask_at
mask-beside v j apart = ap number_in (part-beside v (4352 + 8 * j) 8 apart)

pub mask-other : (s : List ℕ) (j x k : ℕ) → (k ≡ j → ⊥) → mask_at (with_mask s j x) k ≡ mask_at s k
mask-other s j x k n = mask-beside (beside-mask s j x) k (λ q l₁ h₁ l₂ h₂. n (omega arith))

pub length-masks : (s : List ℕ) → length (masks_of s) ≡ 8
unfolding masks_of
length-masks s = length-table 8 (mask_at s)

pub masks-at : (s : List ℕ) (j : ℕ) → j < 8 → get_or (masks_of s) j 0 ≡ mask_at s j
unfolding masks_of
masks-at s j h = get_d-table 8 (mask_at s) j 0 h

-- beside what changes
pub masks-beside : {a e : ℕ} {s t : List ℕ} → Beside a e s t → Apart 4352 64 a e → masks_of t ≡ masks_of s
unfolding masks_of
masks-beside v apart =
    table_same 8 _ _ (λ j h. mask-beside v j (λ k l₁ h₁ l₂ h₂. apart k (omega arith) (omega arith) l₂ h₂))

-- the masks of a state in which one was stored
pub masks-set : (s : List ℕ) (j x : ℕ) → Whole s → j < 8 → x < 18446744073709551616 → masks_of (with_mask s j x) ≡ set (masks_of s) j x
masks-set s j x e h b =
    ext_get_or 0 _ _ (length-masks _ ∙ sym (length-set (masks_of s) j x ∙ length-masks s)) λ k l.
    go k (rw length-masks at l) (ℕ_discrete k j)
  where
    go : (k : ℕ) → k < 8 → Dec (k ≡ j) → get_or (masks_of (with_mask s j x)) k 0 ≡ get_or (set (masks_of s) j x) k 0
    go k l (yes d) =
        rw d (masks-at _ j h ∙ mask-same s j x e h b ∙ sym (get_or-set_same (masks_of s) j x 0 (rw length-masks h)))
    go k l (no d) = masks-at _ k l ∙ mask-other s j x k d ∙ sym (masks-at s k l) ∙ sym (get_or-set_other (masks_of s) j k x 0 d)

-- ---- a loop that has stored the first j masks

pub record Masking (masks before s : List ℕ) (j : ℕ) : Type 0 where
  pub to : j ≤ 8
  pub whole : Whole s
  pub beside : Beside 4352 4416 before s
  pub stored : (k : ℕ) → k < j → mask_at s k ≡ get_or masks k 0

module _ {masks before : List ℕ} where
  pub masking-none : Whole before → Masking masks before before 0
  masking-none whole = record {
    to = omega arith;
    whole = whole;
    beside = record { long = refl; kept = λ k _. refl };
    stored = λ k h. absurd (omega arith);
  }

  module _ {s : List ℕ} {j : ℕ} (v : Masking masks before s j) where
    pub masking-more : j < 8 → {x : ℕ} → x ≡ get_or masks j 0 → x < 18446744073709551616 → {t : List ℕ} → t ≡ with_mask s j x → Masking masks before t (j + 1)
    masking-more h {x} is fits e = rw e (record {
      to = omega arith;
      whole = (beside-mask s j x).long ∙ v.whole;
      beside = beside-both v.beside (beside-wider (omega arith) (omega arith) (beside-mask s j x));
      stored = λ k l. go k l (ℕ_discrete k j);
    })
      where
        go : (k : ℕ) → k < j + 1 → Dec (k ≡ j) → mask_at (with_mask s j x) k ≡ get_or masks k 0
        go k l (yes d) = rw d (mask-same s j x v.whole h fits ∙ is)
        go k l (no d) = mask-other s j x k d ∙ v.stored k (omega arith)

    pub masking-done : length masks ≡ 8 → 8 ≤ j → MasksNow before s masks
    masking-done long end = record {
      masks_are = ext_get_or 0 _ _ (length-masks s ∙ sym long) (λ k l. let b : k < 8 = rw length-masks at l in masks-at s k b ∙ v.stored k (omega arith));
      beside = v.beside;
    }

-- what the code reads, and what it stores
pub mask-read : (s : List ℕ) (j : ℕ) → let a = 4352 + 8 * j in
    from_le_bytes w64 (get_or s a 0 ∷ get_or s (a + 1) 0 ∷ get_or s (a + 2) 0 ∷ get_or s (a + 3) 0 ∷ get_or s (a + 4) 0 ∷ get_or s (a + 5) 0
    ∷ get_or s (a + 6) 0 ∷ get_or s (a + 7) 0 ∷ []) ≡ mask_at s j
unfolding mask_at part number_in
mask-read s j = let first : 4352 + 8 * j + 0 ≡ 4352 + 8 * j = omega arith in rw first (omega arith)

mask-bytes : (x : ℕ) → to_le_bytes w64 x ≡ bytes_of 8 x
unfolding bytes_of
mask-bytes x = simp div-div-eq-div-mul

pub mask-stored : (s : List ℕ) (j x : ℕ) → Whole s → j < 8 → {k : ℕ} {ys : List ℕ} → k ≡ 8 → ys ≡ to_le_bytes w64 x
    → put_mid (4352 + 8 * j) k s ys ≡ with_mask s j x
unfolding with_mask
mask-stored s j x whole h eight written =
    put-mid-part s (4352 + 8 * j) 8 _ (bytes_of 8 x) _ eight (written ∙ mask-bytes x) (length-bytes 8 x) (omega (arith, whole))
