-- Tables, tests of all numbers below a bound, and searches. Assumes nothing.
use Prim.Native.Nat.{ℕ, zero, suc, ◌+◌, ◌≤◌, ◌<◌}
use mathlib.Core.Path.{◌≡◌, refl, sym, ap, ap₂, ◌∙◌}
use mathlib.Core.List.{List, ◌∷◌, [], ◌++◌}
use mathlib.Core.Option.{some, none}
use mathlib.Core.Bool.{Bool, true, false, ◌&&◌, cond}
use native.Mathlib.Decide.{dec_lt, dec_le, ℕ_discrete}
use native.Mathlib.Nat.{zero-add, suc-add}
use native.Mathlib.Omega.{arith}
use lib.ListN.{get_or, set, length}
use Rattle.model.specs.Tables.{table, every, first_from}

pub get_d-table : {A : Type 0} (n : ℕ) (f : ℕ → A) (i : ℕ) (d : A) → i < n → get_or (table n f) i d ≡ f i
get_d-table zero f i d h = absurd (omega arith)
get_d-table (suc n) f zero d h = refl
get_d-table (suc n) f (suc i) d h = get_d-table n (λ k. f (suc k)) i d (omega arith)

pub get_d-table-past : {A : Type 0} (n : ℕ) (f : ℕ → A) (i : ℕ) (d : A) → n ≤ i → get_or (table n f) i d ≡ d
get_d-table-past zero f i d h = refl
get_d-table-past (suc n) f zero d h = absurd (omega arith)
get_d-table-past (suc n) f (suc i) d h = get_d-table-past n (λ k. f (suc k)) i d (omega arith)

pub length-table : {A : Type 0} (n : ℕ) (f : ℕ → A) → length (table n f) ≡ n
length-table zero f = refl
length-table (suc n) f = ap suc (length-table n (λ k. f (suc k)))

pub table_same : {A : Type 0} (n : ℕ) (f g : ℕ → A) → ((i : ℕ) → i < n → f i ≡ g i) → table n f ≡ table n g
table_same zero f g h = refl
table_same (suc n) f g h = ap₂ ◌∷◌ (h 0 (omega arith)) (table_same n (λ k. f (suc k)) (λ k. g (suc k)) (λ i l. h (suc i) (omega arith)))

-- a list is the table of its elements
pub table-get_d : {A : Type 0} (xs : List A) (d : A) → table (length xs) (λ i. get_or xs i d) ≡ xs
table-get_d [] d = refl
table-get_d (x ∷ xs) d = ap (x ∷◌) (table-get_d xs d)

pub table-append : {A : Type 0} (m n : ℕ) (f : ℕ → A) → table (m + n) f ≡ table m f ++ table n (λ k. f (m + k))
table-append zero n f = ap (λ j. table j f) (zero-add n) ∙ table_same n _ _ (λ k l. ap f (sym (zero-add k)))
table-append (suc m) n f =
    ap (λ j. table j f) (suc-add m n)
    ∙ ap (f 0 ∷◌) (table-append m n (λ k. f (suc k)) ∙ ap (table m (λ k. f (suc k)) ++◌) (table_same n _ _ (λ k l. ap f (sym (suc-add m k)))))

-- a table with element i stored is a table that differs from it at i alone
pub set-table : {A : Type 0} (n : ℕ) (f g : ℕ → A) (i : ℕ) → i < n → ((k : ℕ) → k < n → (k ≡ i → ⊥) → f k ≡ g k) → set (table n f) i (g i) ≡ table n g
set-table zero f g i l h = absurd (omega arith)
set-table (suc n) f g zero l h = ap (g 0 ∷◌) (table_same n (λ k. f (suc k)) (λ k. g (suc k)) (λ k lk. h (suc k) (omega arith) (λ e. omega arith)))
set-table (suc n) f g (suc i) l h =
    ap₂ ◌∷◌ (h 0 (omega arith) (λ e. omega arith))
    (set-table n (λ k. f (suc k)) (λ k. g (suc k)) i (omega arith) (λ k lk d. h (suc k) (omega arith) (λ e. d (omega arith))))

pub every-at : (n : ℕ) (f : ℕ → Bool) (k : ℕ) → every n f ≡ true → k < n → f k ≡ true
unfolding every
every-at zero f k e h = absurd (omega arith)
every-at (suc n) f k e h = go (every-at n f k) (f n) refl e (dec_lt k n)
  where
    go : (every n f ≡ true → k < n → f k ≡ true) → (b : Bool) → f n ≡ b → b && every n f ≡ true → Dec (k < n) → f k ≡ true
    go rest true q e' (yes l) = rest e' l
    go rest true q e' (no l) = let z : k ≡ n = omega arith in ap f z ∙ q
    go rest false q e' d = cc

pub every-intro : (n : ℕ) (f : ℕ → Bool) → ((k : ℕ) → k < n → f k ≡ true) → every n f ≡ true
unfolding every
every-intro zero f h = refl
every-intro (suc n) f h = rw (h n (omega arith)) (every-intro n f (λ k l. h k (omega arith)))

-- what a search of n numbers from k on finds passes, lies among them, and is the first that does
pub record Hit (n k p : ℕ) (f : ℕ → Bool) : Type 0 where
  pub low : k ≤ p
  pub high : p < k + n
  pub passes : f p ≡ true
  pub none_before : (q : ℕ) → k ≤ q → q < p → f q ≡ false

pub first_from-some : (n k : ℕ) (f : ℕ → Bool) (p : ℕ) → first_from n k f ≡ some p → Hit n k p f
unfolding first_from
first_from-some zero k f p e = absurd (let z : ◌≡◌ {A = ℕ} 0 1 = cc in omega arith)
first_from-some (suc n) k f p e = go (first_from-some n (suc k) f p) (f k) refl e
  where
    go : (first_from n (suc k) f ≡ some p → Hit n (suc k) p f) → (b : Bool) → f k ≡ b → cond b (some k) (first_from n (suc k) f) ≡ some p
        → Hit (suc n) k p f
    go rest true q e' =
        let z : k ≡ p = cc in
        record { low = omega arith; high = omega arith; passes = rw (← z) q; none_before = λ x l h. absurd (omega arith) }
    go rest false q e' =
        let r = rest e' in
        record { low = omega arith; high = omega arith; passes = r.passes; none_before = λ x l h. here r x l h (ℕ_discrete x k) }
      where
        here : Hit n (suc k) p f → (x : ℕ) → k ≤ x → x < p → Dec (x ≡ k) → f x ≡ false
        here r x l h (yes e) = ap f e ∙ q
        here r x l h (no d) = r.none_before x (omega arith) h

pub first_from-none : (n k : ℕ) (f : ℕ → Bool) → first_from n k f ≡ none → (p : ℕ) → k ≤ p → p < k + n → f p ≡ false
unfolding first_from
first_from-none zero k f e p l h = absurd (omega arith)
first_from-none (suc n) k f e p l h = go (λ e' l'. first_from-none n (suc k) f e' p l' (omega arith)) (f k) refl e (dec_le p k)
  where
    go : (first_from n (suc k) f ≡ none → suc k ≤ p → f p ≡ false) → (b : Bool) → f k ≡ b → cond b (some k) (first_from n (suc k) f) ≡ none
        → Dec (p ≤ k) → f p ≡ false
    go rest true q e' d = cc
    go rest false q e' (yes y) = let z : p ≡ k = omega arith in ap f z ∙ q
    go rest false q e' (no y) = rest e' (omega arith)

-- a search goes by the numbers that it looks at
pub first_from-same : (n k : ℕ) (f g : ℕ → Bool) → ((p : ℕ) → k ≤ p → p < k + n → f p ≡ g p) → first_from n k f ≡ first_from n k g
unfolding first_from
first_from-same zero k f g h = refl
first_from-same (suc n) k f g h =
    rw (h k (omega arith) (omega arith)) (ap (cond (g k) (some k)) (first_from-same n (suc k) f g (λ p l u. h p (omega arith) (omega arith))))
