-- Numbers written as 16-bit fields, and read. Assumes nothing.
use Prim.Native.Nat.{ℕ, zero, suc, ◌+◌, ◌*◌, ◌/◌, ◌%◌, ◌≤◌, ◌<◌}
use mathlib.Core.Path.{◌≡◌, refl, sym, ap, ap₂, ◌∙◌}
use mathlib.Core.List.{List, ◌∷◌, [], ◌++◌, flat_map}
use native.Mathlib.Omega.{arith}
use lib.ListN.{length, get_or, take, drop, length-append, get_or-append}
use lib.Seq.{get_or-append-add, drop-cons}
use Rattle.model.specs.Plan.{field16}
use Rattle.model.specs.WrittenPlan.{AllBytes}
use Rattle.imagemodel.specs.Image.{fields, field_at}

pub length_fields : (xs : List ℕ) → length (fields xs) ≡ 2 * length xs
unfolding fields flat_map
length_fields [] = refl
length_fields (x ∷ xs) = omega (arith, length_fields xs)

-- the two bytes of number k
low_byte : (xs : List ℕ) (k : ℕ) → get_or (fields xs) (2 * k) 0 ≡ get_or xs k 0 % 256
unfolding fields flat_map
low_byte [] k = refl
low_byte (x ∷ xs) zero = refl
low_byte (x ∷ xs) (suc k) = let e : 2 * suc k ≡ suc (suc (2 * k)) = omega arith in ap (λ j. get_or (fields (x ∷ xs)) j 0) e ∙ low_byte xs k

high_byte : (xs : List ℕ) (k : ℕ) → get_or (fields xs) (2 * k + 1) 0 ≡ get_or xs k 0 / 256
unfolding fields flat_map
high_byte [] k = refl
high_byte (x ∷ xs) zero = refl
high_byte (x ∷ xs) (suc k) =
    let e : 2 * suc k + 1 ≡ suc (suc (2 * k + 1)) = omega arith in
    ap (λ j. get_or (fields (x ∷ xs)) j 0) e ∙ high_byte xs k

-- The fields from a place on are these numbers.
pub record Stands (b : List ℕ) (at : ℕ) (xs : List ℕ) : Type 0 where
  pub number : (k : ℕ) → k < length xs → field_at b at k ≡ get_or xs k 0

pub stands-nothing : {b : List ℕ} {at : ℕ} → Stands b at []
stands-nothing = record { number = λ k lt. absurd (omega arith) }

pub stands_one : {b : List ℕ} {at x : ℕ} {xs : List ℕ} → field_at b at 0 ≡ x → Stands b (at + 2) xs → Stands b at (x ∷ xs)
stands_one {b} {at} {x} {xs} first rest = record { number = go }
  where
    go : (k : ℕ) → k < suc (length xs) → field_at b at k ≡ get_or (x ∷ xs) k 0
    go zero lt = first
    go (suc k) lt =
        let e : at + 2 * suc k ≡ at + 2 + 2 * k = omega arith in
        ap (field16 b) e ∙ rest.number k (omega arith)

-- numbers that are written behind other bytes
pub stand-behind : (front xs rest : List ℕ) (at : ℕ) → length front ≡ at → Stands (front ++ (fields xs ++ rest)) at xs
stand-behind front xs rest at e = record {
  number = λ k below.
      let a = byte (2 * k) (omega arith) ∙ low_byte xs k in
      let b = byte (2 * k + 1) (omega arith) ∙ high_byte xs k in
      let next : at + 2 * k + 1 ≡ at + (2 * k + 1) = omega arith in
      omega (arith, a, b, ap (λ j. get_or (front ++ (fields xs ++ rest)) j 0) next);
}
  where
    byte : (j : ℕ) → j < 2 * length xs → get_or (front ++ (fields xs ++ rest)) (at + j) 0 ≡ get_or (fields xs) j 0
    byte j lt =
        ap (λ n. get_or (front ++ (fields xs ++ rest)) (n + j) 0) (sym e)
        ∙ get_or-append-add front (fields xs ++ rest) j 0
        ∙ get_or-append (fields xs) rest 0 j (omega (arith, length_fields xs))

-- ---- bytes read as numbers, and written again

-- two bytes that make a number are the number's
two-again : (x low high : ℕ) → low < 256 → x ≡ low + 256 * high → (rest : List ℕ) → x % 256 ∷ x / 256 ∷ rest ≡ low ∷ high ∷ rest
two-again x low high byte e rest =
    let a : x % 256 ≡ low = omega arith in
    let b : x / 256 ≡ high = omega arith in
    λ k. a k ∷ b k ∷ rest

pub fields-again : (b : List ℕ) → AllBytes b → (xs : List ℕ) (at : ℕ) → at + 2 * length xs ≤ length b → Stands b at xs
    → fields xs ≡ take (2 * length xs) (drop at b)
unfolding fields flat_map
fields-again b bytes [] at long stands = refl
fields-again b bytes (x ∷ xs) at long stands =
    two-again x (get_or b at 0) (get_or b (suc at) 0) (bytes.byte at) number (fields xs)
    ∙ ap (λ r. get_or b at 0 ∷ get_or b (suc at) 0 ∷ r) (fields-again b bytes xs (suc (suc at)) (omega arith) later)
    ∙ sym taken
  where
    number : x ≡ get_or b at 0 + 256 * get_or b (suc at) 0
    number =
        let first : at + 2 * 0 ≡ at = omega arith in
        let second : at + 2 * 0 + 1 ≡ suc at = omega arith in
        sym (stands.number 0 (omega arith)) ∙ ap₂ (λ j k. get_or b j 0 + 256 * get_or b k 0) first second

    later : Stands b (suc (suc at)) xs
    later = record {
      number = λ k lt.
          let e : suc (suc at) + 2 * k ≡ at + 2 * suc k = omega arith in
          ap (field16 b) e ∙ stands.number (suc k) (omega arith);
    }

    taken : take (2 * suc (length xs)) (drop at b) ≡ get_or b at 0 ∷ get_or b (suc at) 0 ∷ take (2 * length xs) (drop (suc (suc at)) b)
    taken =
        let e : 2 * suc (length xs) ≡ suc (suc (2 * length xs)) = omega arith in
        let two : drop at b ≡ get_or b at 0 ∷ get_or b (suc at) 0 ∷ drop (suc (suc at)) b =
        drop-cons b at 0 (omega arith) ∙ ap (get_or b at 0 ∷◌) (drop-cons b (suc at) 0 (omega arith)) in
        ap₂ take e two

-- ---- numbers in parts of m each

module _ {A : Type 0} (part : A → List ℕ) (d : A) (m : ℕ) where
  -- every part is m long
  abbrev pub Even : List A → Type 0
  Even xs = (i : ℕ) → i < length xs → length (part (get_or xs i d)) ≡ m

  pub parts-length : (xs : List A) → Even xs → length (flat_map part xs) ≡ length xs * m
  unfolding flat_map
  parts-length [] even = omega arith
  parts-length (x ∷ xs) even =
      omega (arith, length-append (part x) (flat_map part xs), even 0 (omega arith), parts-length xs (λ i l. even (suc i) (omega arith)))

  -- number k of part i
  pub parts_at : (xs : List A) → Even xs → (i k : ℕ) → i < length xs → k < m → get_or (flat_map part xs) (i * m + k) 0 ≡ get_or (part (get_or xs i d)) k 0
  unfolding flat_map
  parts_at [] even i k li lk = absurd (omega arith)
  parts_at (x ∷ xs) even zero k li lk =
      let e : 0 * m + k ≡ k = omega arith in
      ap (λ j. get_or (part x ++ flat_map part xs) j 0) e ∙ get_or-append (part x) (flat_map part xs) 0 k (omega (arith, even 0 (omega arith)))
  parts_at (x ∷ xs) even (suc i) k li lk =
      let e : suc i * m + k ≡ length (part x) + (i * m + k) = omega (arith, even 0 (omega arith)) in
      ap (λ j. get_or (part x ++ flat_map part xs) j 0) e ∙ get_or-append-add (part x) (flat_map part xs) (i * m + k) 0
      ∙ parts_at xs (λ j l. even (suc j) (omega arith)) i k (omega arith) lk
