-- Ranges of positions: what lies in one, and elements of a list replaced. Assumes nothing.
use Rattle.std.proofs.Common.{◌≡◌, ℕ, zero, suc, ◌+◌, ◌-◌, ◌<◌, ◌≤◌, Bool, true, false, cond, ◌&&◌, ltb, leb, List, [], ◌∷◌, length, get_or, set, sym, refl, ap, ◌∙◌, rules, arith, length-set, get_or-set_other, get_or-set_same, ext_get_or, le-ltb, lt-ltb, le-leb}
use mathlib.Core.Bool.{and-false}
use native.Mathlib.Decide.{dec_lt, ℕ_discrete}
use lib.ListN.{get_or-eq_default}
use lib.Seq.{set-get_or}
use borrow.Rule.Slice.PartMut.{put_mid, mid_of}
use Rattle.std.proofs.lemmas.List.{places}
use borrow.Author.Tests.{lt-leb}
use Rattle.window.specs.Ranges.{in_range, replaced}

-- ---- a range

pub in-range : (a e q : ℕ) → a ≤ q → q < e → in_range a e q ≡ true
unfolding in_range
in-range a e q h k = rw (le-leb a q h, lt-ltb q e k)

pub before-range : (a e q : ℕ) → q < a → in_range a e q ≡ false
unfolding in_range
before-range a e q h = rw (lt-leb a q h)

pub past-range : (a e q : ℕ) → e ≤ q → in_range a e q ≡ false
unfolding in_range
past-range a e q h = rw (le-ltb q e h, and-false)

empty-range : (a i : ℕ) → in_range a a i ≡ false
empty-range a i = go (dec_lt i a)
  where
    go : Dec (i < a) → in_range a a i ≡ false
    go (yes h) = before-range a a i h
    go (no h) = past-range a a i (omega arith)

-- one position more
range-more : (a e q : ℕ) → (q ≡ e → ⊥) → in_range a (e + 1) q ≡ in_range a e q
unfolding in_range
range-more a e q n = go (dec_lt q e)
  where
    go : Dec (q < e) → leb a q && ltb q (e + 1) ≡ leb a q && ltb q e
    go (yes h) = rw (lt-ltb q e h, lt-ltb q (e + 1) (omega arith))
    go (no h) = rw (le-ltb q e (omega arith), le-ltb q (e + 1) (omega arith))

-- ---- elements replaced

module _ {A : Type 0} where
  pub length-replaced : (t : ℕ → Bool) (f : ℕ → A → A) (xs : List A) → length (replaced t f xs) ≡ length xs
  unfolding replaced
  length-replaced t f [] = refl
  length-replaced t f (x ∷ xs) = ap suc (length-replaced (λ i. t (suc i)) (λ i. f (suc i)) xs)

  pub replaced-at : (t : ℕ → Bool) (f : ℕ → A → A) (xs : List A) (i : ℕ) (d : A) → i < length xs
      → get_or (replaced t f xs) i d ≡ cond (t i) (f i (get_or xs i d)) (get_or xs i d)
  unfolding replaced
  replaced-at t f [] i d h = absurd (omega arith)
  replaced-at t f (x ∷ xs) zero d h = refl
  replaced-at t f (x ∷ xs) (suc i) d h = replaced-at (λ i. t (suc i)) (λ i. f (suc i)) xs i d (omega arith)

  -- where the test fails, the element is as it was
  pub replaced-off : (t : ℕ → Bool) (f : ℕ → A → A) (xs : List A) (i : ℕ) (d : A) → t i ≡ false
      → get_or (replaced t f xs) i d ≡ get_or xs i d
  replaced-off t f xs i d e = go (dec_lt i (length xs))
    where
      go : Dec (i < length xs) → get_or (replaced t f xs) i d ≡ get_or xs i d
      go (yes h) = replaced-at t f xs i d h ∙ rw e
      go (no h) =
          get_or-eq_default (replaced t f xs) d (rw length-replaced (omega arith))
          ∙ sym (get_or-eq_default xs d (omega arith))

  -- the same replaced by two tests and functions that agree on what is there
  pub replaced-same : (t t' : ℕ → Bool) (f f' : ℕ → A → A) (xs : List A) (d : A)
      → ((i : ℕ) → i < length xs → cond (t i) (f i (get_or xs i d)) (get_or xs i d) ≡ cond (t' i) (f' i (get_or xs i d)) (get_or xs i d))
      → replaced t f xs ≡ replaced t' f' xs
  replaced-same t t' f f' xs d e =
      ext_get_or d _ _ (length-replaced t f xs ∙ sym (length-replaced t' f' xs)) λ i h.
      let l = rw length-replaced at h in
      replaced-at t f xs i d l ∙ e i l ∙ sym (replaced-at t' f' xs i d l)

  -- ---- the range from a to j replaced

  pub replaced-none : (a : ℕ) (f : ℕ → A → A) (xs : List A) (d : A) → xs ≡ replaced (in_range a a) f xs
  replaced-none a f xs d = ext_get_or d _ _ (sym (length-replaced _ f xs)) (λ i h. sym (replaced-off _ f xs i d (empty-range a i)))

  pub replaced-more : (a j : ℕ) (f : ℕ → A → A) (xs : List A) (d : A) (ys : List A) (v : A)
      → ys ≡ replaced (in_range a j) f xs → a ≤ j → v ≡ f j (get_or ys j d)
      → set ys j v ≡ replaced (in_range a (j + 1)) f xs
  replaced-more a j f xs d ys v e l ev =
      ap (λ (zs : List A). set zs j v) e
      ∙ ap (set done j) (ev ∙ ap (λ (zs : List A). f j (get_or zs j d)) e ∙ ap (f j) here)
      ∙ ext_get_or d _ _ (simp (length-set, length-replaced)) (λ i b. go i (rw (length-set, length-replaced) at b) (ℕ_discrete i j))
    where
      done : List A
      done = replaced (in_range a j) f xs

      here : get_or done j d ≡ get_or xs j d
      here = replaced-off (in_range a j) f xs j d (past-range a j j (omega arith))

      go : (i : ℕ) → i < length xs → Dec (i ≡ j)
          → get_or (set done j (f j (get_or xs j d))) i d ≡ get_or (replaced (in_range a (j + 1)) f xs) i d
      go i b (yes q) =
          let h = rw q at b in
          let put = get_or-set_same done j (f j (get_or xs j d)) d (rw length-replaced h) in
          let inside = in-range a (j + 1) j l (omega arith) in
          rw q (put ∙ sym (replaced-at _ f xs j d h ∙ rw inside))
      go i b (no q) = get_or-set_other done j i _ d q ∙ replaced-at _ f xs i d b ∙ rw (← range-more a j i q) (sym (replaced-at _ f xs i d b))

  -- the element at j is as it was
  pub replaced-kept : (a j : ℕ) (f : ℕ → A → A) (xs : List A) (d : A) (ys : List A)
      → ys ≡ replaced (in_range a j) f xs → a ≤ j → f j (get_or ys j d) ≡ get_or ys j d
      → ys ≡ replaced (in_range a (j + 1)) f xs
  replaced-kept a j f xs d ys e l z = sym (set-get_or ys j d) ∙ replaced-more a j f xs d ys (get_or ys j d) e l (sym z)

  pub replaced-done : (a j e : ℕ) (f : ℕ → A → A) (xs ys : List A) → ys ≡ replaced (in_range a j) f xs → j ≡ e
      → ys ≡ replaced (in_range a e) f xs
  replaced-done a j e f xs ys q p = rw (← p) q

  -- ---- what a write to the n elements from a on leaves

  -- the elements from a on replaced, where there are n of them
  pub replaced-mid : (a n : ℕ) (f : ℕ → A → A) (xs ys : List A) (d : A) → length ys ≡ n → a + n ≤ length xs
      → ((k : ℕ) → k < n → get_or ys k d ≡ f (a + k) (get_or xs (a + k) d)) → put_mid a n xs ys ≡ replaced (in_range a (a + n)) f xs
  replaced-mid a n f xs ys d e l same =
      ext_get_or d _ _ (simp length-replaced (search (rules, places))) λ i b. go i (dec_lt i a) (dec_lt i (a + n))
    where
      go : (i : ℕ) → Dec (i < a) → Dec (i < a + n) → get_or (put_mid a n xs ys) i d ≡ get_or (replaced (in_range a (a + n)) f xs) i d
      go i (yes h) m = search (rules, places) ∙ sym (replaced-off _ f xs i d (before-range a (a + n) i h))
      go i (no h) (yes m) =
          let place : i ≡ a + (i - a) = omega arith in
          let there : get_or (put_mid a n xs ys) i d ≡ get_or ys (i - a) d = grind (arith, places) in
          let put : get_or ys (i - a) d ≡ f (a + (i - a)) (get_or xs (a + (i - a)) d) = same (i - a) (omega arith) in
          there ∙ rw (← place) at put ∙ sym (replaced-at _ f xs i d (omega arith) ∙ rw (in-range a (a + n) i (omega arith) m))
      go i (no h) (no m) = grind (arith, places) ∙ sym (replaced-off _ f xs i d (past-range a (a + n) i (omega arith)))

  -- ---- the elements from a up to e, counted from the first of them

  pub length-mid : (a e : ℕ) (xs : List A) → e ≤ length xs → length (mid_of a (e - a) xs) ≡ e - a
  length-mid a e xs l = search (rules, places)

  pub mid-at : (a e : ℕ) (xs : List A) (k : ℕ) (d : A) → k < e - a → get_or (mid_of a (e - a) xs) k d ≡ get_or xs (a + k) d
  mid-at a e xs k d h = search (rules, places)

  pub replaced-inner : (a e : ℕ) (f : ℕ → A → A) (xs ys : List A) (d : A) → a ≤ e → e ≤ length xs
      → ys ≡ replaced (in_range 0 (length (mid_of a (e - a) xs))) f (mid_of a (e - a) xs) → put_mid a (e - a) xs ys ≡ replaced (in_range a e) (λ k. f (k - a)) xs
  replaced-inner a e f xs ys d h l is =
      let last : a + (e - a) ≡ e = omega arith in
      rw last at (replaced-mid a (e - a) (λ k. f (k - a)) xs ys d (ap length is ∙ length-replaced _ f _ ∙ length-mid a e xs l) (omega arith) (λ k b. go k b))
    where
      go : (k : ℕ) → k < e - a → get_or ys k d ≡ f (a + k - a) (get_or xs (a + k) d)
      go k b =
          let place : a + k - a ≡ k = omega arith in
          rw (is, place, ← mid-at a e xs k d b)
          (replaced-at _ f (mid_of a (e - a) xs) k d (omega (arith, length-mid a e xs l))
          ∙ rw (in-range 0 (length (mid_of a (e - a) xs)) k (omega arith) (omega (arith, length-mid a e xs l))))
