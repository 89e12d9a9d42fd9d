-- Parts of a list: what a reader sees of a part that was replaced, and of one that was left alone; and a number read again from its bytes.
-- Assumes nothing.
use Prim.Native.Nat.{ℕ, zero, suc, ◌+◌, ◌-◌, ◌*◌, ◌/◌, ◌≤◌, ◌<◌}
use mathlib.Core.Path.{◌≡◌, refl, sym, ap, ◌∙◌}
use mathlib.Core.List.{List}
use mathlib.Core.Bool.{false}
use native.Mathlib.Decide.{dec_lt, dec_le}
use native.Mathlib.Omega.{arith}
use lib.ListN.{length, get_or, set, length-set, get_or-eq_default}
use lib.Seq.{ext_get_or, get_or-set_other}
use borrow.Rule.Slice.PartMut.{put_mid}
use Rattle.window.specs.Ranges.{in_range, replaced}
use Rattle.window.proofs.Tabulated.{get_d-table, length-table, table_same, table_of}
use Rattle.window.proofs.Ranges.{in-range, before-range, past-range, length-replaced, replaced-at, replaced-off, replaced-mid}
use Rattle.state.specs.Parts.{part, with_part, Beside, Apart, number_in, bytes_of}

-- ---- a part read

pub length_part : (s : List ℕ) (a n : ℕ) → length (part s a n) ≡ n
unfolding part
length_part s a n = length-table n (λ k. get_or s (a + k) 0)

pub part_at : (s : List ℕ) (a n k : ℕ) → k < n → get_or (part s a n) k 0 ≡ get_or s (a + k) 0
unfolding part
part_at s a n k h = get_d-table n (λ k. get_or s (a + k) 0) k 0 h

-- a part is a list that agrees with it at every place
pub part-is : (s : List ℕ) (a n : ℕ) (xs : List ℕ) → length xs ≡ n → ((k : ℕ) → k < n → get_or s (a + k) 0 ≡ get_or xs k 0) → part s a n ≡ xs
unfolding part
part-is s a n xs e same = table_of xs n _ 0 e same

pub part_same : (s t : List ℕ) (a n : ℕ) → ((k : ℕ) → k < n → get_or t (a + k) 0 ≡ get_or s (a + k) 0) → part t a n ≡ part s a n
unfolding part
part_same s t a n e = table_same n _ _ e

-- the general law: a part that lies apart from the places that change is as it was
pub part-beside : {a e : ℕ} {s t : List ℕ} → Beside a e s t → (b n : ℕ) → Apart b n a e → part t b n ≡ part s b n
part-beside v b n apart =
    part_same _ _ b n (λ k h. v.kept (b + k) (λ low high. apart (b + k) (omega arith) (omega arith) low high))

-- ---- stores leave what lies beside them

pub beside-wider : {a e b d : ℕ} {s t : List ℕ} → b ≤ a → e ≤ d → Beside a e s t → Beside b d s t
beside-wider h l v = record { long = v.long; kept = λ k out. v.kept k (λ low high. out (omega arith) (omega arith)) }

pub beside_back : {a e : ℕ} {s t : List ℕ} → Beside a e s t → Beside a e t s
beside_back v = record { long = sym v.long; kept = λ k out. sym (v.kept k out) }

-- one change after the other
pub beside-both : {a e : ℕ} {s t u : List ℕ} → Beside a e s t → Beside a e t u → Beside a e s u
beside-both x y = record { long = y.long ∙ x.long; kept = λ k out. y.kept k out ∙ x.kept k out }

pub beside-set : (s : List ℕ) (k x a e : ℕ) → a ≤ k → k < e → Beside a e s (set s k x)
beside-set s k x a e low high = record {
  long = length-set s k x;
  kept = λ i out. get_or-set_other s k i x 0 (λ z. out (omega arith) (omega arith));
}

pub beside-replaced : (a e : ℕ) (f : ℕ → ℕ → ℕ) (s : List ℕ) → Beside a e s (replaced (in_range a e) f s)
beside-replaced a e f s = record {
  long = length-replaced _ f s;
  kept = λ i out. replaced-off _ f s i 0 (go i out (dec_lt i a) (dec_lt i e));
}
  where
    go : (i : ℕ) → (a ≤ i → i < e → ⊥) → Dec (i < a) → Dec (i < e) → in_range a e i ≡ false
    go i out (yes h) y = before-range a e i h
    go i out (no h) (yes y) = absurd (out (omega arith) y)
    go i out (no h) (no y) = past-range a e i (omega arith)

pub beside-part : (s : List ℕ) (a n : ℕ) (xs : List ℕ) → Beside a (a + n) s (with_part s a n xs)
unfolding with_part
beside-part s a n xs = beside-replaced a (a + n) _ s

-- ---- a part replaced

pub length-with-part : (s : List ℕ) (a n : ℕ) (xs : List ℕ) → length (with_part s a n xs) ≡ length s
unfolding with_part
length-with-part s a n xs = length-replaced _ _ s

pub with-part-in : (s : List ℕ) (a n : ℕ) (xs : List ℕ) (k : ℕ) → k < n → a + k < length s → get_or (with_part s a n xs) (a + k) 0 ≡ get_or xs k 0
unfolding with_part
with-part-in s a n xs k b l =
    let inside = in-range a (a + n) (a + k) (omega arith) (omega arith) in
    let place : a + k - a ≡ k = omega arith in
    replaced-at _ _ s (a + k) 0 l ∙ rw (inside, place)

-- what was put there is read
pub part-of-with : (s : List ℕ) (a n : ℕ) (xs : List ℕ) → length xs ≡ n → a + n ≤ length s → part (with_part s a n xs) a n ≡ xs
part-of-with s a n xs e l = part-is _ a n xs e (λ k h. with-part-in s a n xs k h (omega arith))

-- a list that agrees with it everywhere
pub with-part-is : (s : List ℕ) (a n : ℕ) (xs t : List ℕ) → Beside a (a + n) s t
    → ((k : ℕ) → k < n → a + k < length s → get_or t (a + k) 0 ≡ get_or xs k 0) → t ≡ with_part s a n xs
with-part-is s a n xs t v same =
    ext_get_or 0 _ _ (v.long ∙ sym (length-with-part s a n xs)) (λ k b. go k (rw v.long at b) (dec_le a k) (dec_lt k (a + n)))
  where
    go : (k : ℕ) → k < length s → Dec (a ≤ k) → Dec (k < a + n) → get_or t k 0 ≡ get_or (with_part s a n xs) k 0
    go k b (yes x) (yes y) =
        let place : k ≡ a + (k - a) = omega arith in
        rw place (same (k - a) (omega arith) (omega arith) ∙ sym (with-part-in s a n xs (k - a) (omega arith) (omega arith)))
    go k b (yes x) (no y) = v.kept k (λ _ h. y h) ∙ sym ((beside-part s a n xs).kept k (λ _ h. y h))
    go k b (no x) y = v.kept k (λ h _. x h) ∙ sym ((beside-part s a n xs).kept k (λ h _. x h))

-- a part that has the one that is replaced, n places from b on in it
pub part-with-inner : (s : List ℕ) (o m b n : ℕ) (xs : List ℕ) → b + n ≤ m → o + m ≤ length s
    → part (with_part s (o + b) n xs) o m ≡ with_part (part s o m) b n xs
part-with-inner s o m b n xs fits there =
    with-part-is (part s o m) b n xs _ (record {
      long = length_part _ o m ∙ sym (length_part s o m);
      kept = λ k out. kept k out (dec_lt k m);
    }) inside
  where
    after : List ℕ
    after = with_part s (o + b) n xs

    kept : (k : ℕ) → (b ≤ k → k < b + n → ⊥) → Dec (k < m) → get_or (part after o m) k 0 ≡ get_or (part s o m) k 0
    kept k out (yes h) =
        part_at after o m k h
        ∙ (beside-part s (o + b) n xs).kept (o + k) (λ low high. out (omega arith) (omega arith))
        ∙ sym (part_at s o m k h)
    kept k out (no h) =
        get_or-eq_default (part after o m) 0 (rw length_part (omega arith)) ∙ sym (get_or-eq_default (part s o m) 0 (rw length_part (omega arith)))

    inside : (k : ℕ) → k < n → b + k < length (part s o m) → get_or (part after o m) (b + k) 0 ≡ get_or xs k 0
    inside k h _ =
        let place : o + (b + k) ≡ o + b + k = omega arith in
        part_at after o m (b + k) (omega arith) ∙ rw place (with-part-in s (o + b) n xs k h (omega arith))

-- its own part
pub with-own-part : (s : List ℕ) (a n : ℕ) → with_part s a n (part s a n) ≡ s
with-own-part s a n =
    sym (with-part-is s a n (part s a n) s (record { long = refl; kept = λ k _. refl }) (λ k h _. sym (part_at s a n k h)))

-- what a write to the n elements from a on leaves
pub put-mid-part : (s : List ℕ) (a n k : ℕ) (xs ys : List ℕ) → k ≡ n → ys ≡ xs → length xs ≡ n → a + n ≤ length s → put_mid a k s ys ≡ with_part s a n xs
unfolding with_part
put-mid-part s a n k xs ys wide written e l =
    rw (wide, written) (replaced-mid a n _ s xs 0 e l (λ q h. let place : a + q - a ≡ q = omega arith in rw place refl))

-- ---- a number in bytes

pub length-bytes : (n x : ℕ) → length (bytes_of n x) ≡ n
unfolding bytes_of
length-bytes zero x = refl
length-bytes (suc n) x = ap suc (length-bytes n (x / 256))

-- the least number that n bytes do not hold
abbrev pub bytes_end : ℕ → ℕ
bytes_end zero = 1
bytes_end (suc n) = 256 * bytes_end n

pub number-of-bytes : (n x : ℕ) → x < bytes_end n → number_in (bytes_of n x) ≡ x
unfolding bytes_of number_in
number-of-bytes zero x h = omega arith
number-of-bytes (suc n) x h = let rest = number-of-bytes n (x / 256) (omega arith) in omega (arith, rest)
