-- Lists given place by place (`table`), and tests of every number below a bound (`every`): the model's laws and some more. Assumes nothing.
use Rattle.std.proofs.Common.{◌≡◌, ℕ, zero, suc, ◌+◌, ◌<◌, Bool, true, false, List, length, get_or, replicate, sym, refl, ◌∙◌, arith, ext_get_or}
use native.Mathlib.Decide.{dec_lt}
use Rattle.model.specs.Tables.{table, every}
pub use Rattle.model.proofs.Tables.{get_d-table, get_d-table-past as table-past, length-table, table_same, every-intro, every-at}

module _ {A : Type 0} where
  -- a list is the table of its elements
  pub table_of : (xs : List A) (n : ℕ) (f : ℕ → A) (d : A) → length xs ≡ n → ((i : ℕ) → i < n → f i ≡ get_or xs i d)
      → table n f ≡ xs
  table_of xs n f d e h =
      ext_get_or d (table n f) xs (length-table n f ∙ sym e) λ i b.
      let below = rw length-table at b in
      get_d-table n f i d below ∙ h i below

  pub replicate-table : (n : ℕ) (x : A) → replicate n x ≡ table n (λ _. x)
  replicate-table zero x = refl
  replicate-table (suc n) x = cc (replicate-table n x)

-- ---- every number below n

pub every-miss : (n : ℕ) (f : ℕ → Bool) (k : ℕ) → k < n → f k ≡ false → every n f ≡ false
every-miss n f k h e = go (every n f) refl
  where
    go : (b : Bool) → every n f ≡ b → b ≡ false
    go true q = sym (every-at n f k q h) ∙ e
    go false q = refl

pub every-none : (f : ℕ → Bool) → every 0 f ≡ true
unfolding every
every-none f = refl

pub every_more : (n : ℕ) (f : ℕ → Bool) → every n f ≡ true → f n ≡ true → every (n + 1) f ≡ true
every_more n f e h = every-intro (n + 1) f (λ k b. go k b (dec_lt k n))
  where
    go : (k : ℕ) → k < n + 1 → Dec (k < n) → f k ≡ true
    go k b (yes d) = every-at n f k e d
    go k b (no d) = let z : k ≡ n = omega arith in rw z h

pub every-same : (n : ℕ) (f g : ℕ → Bool) → ((k : ℕ) → k < n → f k ≡ g k) → every n f ≡ every n g
unfolding every
every-same zero f g e = refl
every-same (suc n) f g e = rw (e n (omega arith), every-same n f g (λ k l. e k (omega arith)))
