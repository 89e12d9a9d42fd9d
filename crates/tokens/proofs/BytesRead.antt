-- Bytes read from hexadecimal digits, one by one. Assumes nothing.
use Prim.Native.Nat.{ℕ, zero, suc, ◌+◌, ◌-◌, ◌≤◌, ◌<◌, min}
use mathlib.Core.Path.{◌≡◌, refl, sym, ap, ◌∙◌, subst}
use mathlib.Core.List.{List, ◌∷◌, [], ◌++◌}
use mathlib.Core.Bool.{Bool, true, false}
use native.Mathlib.Decide.{dec_le}
use native.Mathlib.Numerals.{add-one}
use native.Mathlib.Omega.{arith}
use lib.ListN.{length, get_or, set}
use lib.Seq.{sets, length-sets, set_out}
use borrow.Author.Tests.{eqb-false, not-true}
use Rattle.std.specs.Char.{is_ascii_hexdigit}
use Rattle.std.proofs.lemmas.Bool.Decides.{nat_tests}
use Rattle.model.specs.Tables.{table, within}
use Rattle.model.proofs.Tables.{length-table}
use Rattle.model.proofs.Tests.{within-true}
use Rattle.calls.proofs.Stores.{sets-append}
use Rattle.tokens.specs.Pieces.{each}
use Rattle.tokens.specs.Hexadecimal.{hex_digit, is_hex_digit, byte_at}
use Rattle.tokens.proofs.EachByte.{each_at}

-- ---- digits

hex-most : (b : ℕ) → hex_digit b ≤ 16
unfolding hex_digit
hex-most b = go (within 48 57 b) (within 65 70 b) (within 97 102 b) refl refl refl
  where
    go : (s t u : Bool) → within 48 57 b ≡ s → within 65 70 b ≡ t → within 97 102 b ≡ u → hex_digit b ≤ 16
    go true t u p q r = rw p (omega (arith, within-true 48 57 b p))
    go false true u p q r = rw (p, q) (omega (arith, within-true 65 70 b q))
    go false false true p q r = rw (p, q, r) (omega (arith, within-true 97 102 b r))
    go false false false p q r = rw (p, q, r) (omega arith)

-- the library's test of a byte is the one here
pub hexdigit_same : (b : ℕ) → is_ascii_hexdigit b ≡ is_hex_digit b
unfolding hex_digit
hexdigit_same b = grind (arith, nat_tests)

-- where every byte is a digit, each is below 16
pub digit-small : (digits : List ℕ) → each is_hex_digit digits ≡ true → (i : ℕ) → i < length digits → hex_digit (get_or digits i 0) < 16
digit-small digits all i h =
    let digit : hex_digit (get_or digits i 0) ≡ 16 → ⊥ = eqb-false _ _ (not-true _ (each_at is_hex_digit digits all i h)) in
    omega (arith, hex-most (get_or digits i 0))

-- ---- bytes

-- one more at the end of a table
pub table_more : {A : Type 0} (n : ℕ) (f : ℕ → A) → table (suc n) f ≡ table n f ++ (f n ∷ [])
table_more zero f = refl
table_more (suc n) f = ap (f 0 ∷◌) (table_more n (λ k. f (suc k)))

-- the bytes before a place are kept
pub record BytesTo (digits kept₀ kept : List ℕ) (i : ℕ) : Type 0 where
  pub kept_are : kept ≡ sets kept₀ 0 (table i (byte_at digits))

pub no_bytes : (digits kept : List ℕ) → BytesTo digits kept kept 0
no_bytes digits kept = record { kept_are = refl }

module _ {digits kept₀ kept : List ℕ} {i : ℕ} (s : BytesTo digits kept₀ kept i) where
  pub one_byte : {byte : ℕ} → byte ≡ byte_at digits i → BytesTo digits kept₀ (set kept i byte) (i + 1)
  one_byte {byte} e = record {
    kept_are =
        (λ j. set (s.kept_are j) i (e j)) ∙ ap (λ k. set (sets kept₀ 0 (table i (byte_at digits))) k (byte_at digits i)) (omega (arith, length-table i (byte_at digits)))
        ∙ sets-append kept₀ 0 (table i (byte_at digits)) (byte_at digits i ∷ []) ∙ ap (sets kept₀ 0) (sym (table_more i (byte_at digits)))
        ∙ ap (λ k. sets kept₀ 0 (table k (byte_at digits))) (sym (add-one i));
  }

  bytes-length : length kept ≡ length kept₀
  bytes-length = ap length s.kept_are ∙ length-sets kept₀ 0 (table i (byte_at digits))

  -- past the last place nothing is kept
  bytes_past : length kept₀ ≤ i → BytesTo digits kept₀ kept (i + 1)
  bytes_past h = subst (λ k. BytesTo digits kept₀ k (i + 1)) (set_out kept i (byte_at digits i) (omega (arith, bytes-length))) (one_byte refl)

bytes_to_end : {digits kept₀ kept : List ℕ} {i : ℕ} → BytesTo digits kept₀ kept i → length kept₀ ≤ i → (n : ℕ) → BytesTo digits kept₀ kept (n + i)
bytes_to_end {digits} {kept₀} {kept} {i} s h zero = subst (BytesTo digits kept₀ kept) (omega arith) s
bytes_to_end {digits} {kept₀} {kept} {i} s h (suc n) = subst (BytesTo digits kept₀ kept) (omega arith) (bytes_past (bytes_to_end s h n) (omega arith))

-- all bytes that there is room for are kept
pub all_bytes : {digits kept₀ kept : List ℕ} {i : ℕ} (count : ℕ) → BytesTo digits kept₀ kept i → i ≡ min count (length kept₀) → kept ≡ sets kept₀ 0 (table count (byte_at digits))
all_bytes {digits} {kept₀} {kept} {i} count s e = go (dec_le count (length kept₀))
  where
    go : Dec (count ≤ length kept₀) → kept ≡ sets kept₀ 0 (table count (byte_at digits))
    go (yes k) =
        let all : BytesTo digits kept₀ kept count = subst (BytesTo digits kept₀ kept) (omega (arith, e, k)) s in
        all.kept_are
    go (no k) =
        let all : BytesTo digits kept₀ kept count = subst (BytesTo digits kept₀ kept) (omega (arith, e, k)) (bytes_to_end s (omega (arith, e, k)) (count - i)) in
        all.kept_are
