-- The entries of a list that pass a test, and where they stand in it. Assumes nothing.
use Prim.Native.Nat.{ℕ, zero, suc, ◌<◌}
use mathlib.Core.Path.{◌≡◌, refl, ap}
use mathlib.Core.List.{List, ◌∷◌, [], map}
use mathlib.Core.Bool.{Bool, true, false, cond}
use native.Mathlib.Omega.{arith}
use lib.ListN.{length, get_or, take}
use Rattle.mesh.specs.Mesh.{keep}

abbrev after : (there : ℕ → ℕ) → ℕ → ℕ
after there zero = 0
after there (suc j) = suc (there j)

module _ {A : Type 0} where
  -- how many entries before place i pass
  abbrev pub passed_before : (A → Bool) → List A → ℕ → ℕ
  passed_before p xs i = length (keep p (take i xs))

  -- entry i is number j of those that pass
  pub record Chosen (p : A → Bool) (xs : List A) (d : A) (i j : ℕ) : Type 0 where
    pub below : i < length xs
    pub passes : p (get_or xs i d) ≡ true
    pub kept_below : j < length (keep p xs)
    pub kept_there : get_or (keep p xs) j d ≡ get_or xs i d
    pub place_is : passed_before p xs i ≡ j

  -- the place of number j of those that pass
  unfoldable pub place_in : (A → Bool) → List A → ℕ → ℕ
  place_in p [] j = 0
  place_in p (x ∷ xs) j = cond (p x) (after (place_in p xs) j) (suc (place_in p xs j))

  module _ (p : A → Bool) (d : A) where
    first_passes : (x : A) (xs : List A) → p x ≡ true → Chosen p (x ∷ xs) d 0 0
    unfolding keep
    first_passes x xs e = record { below = omega arith; passes = e; kept_below = rw e (omega arith); kept_there = rw e; place_is = refl }

    one-passed : (x : A) (xs : List A) {i j : ℕ} → p x ≡ true → Chosen p xs d i j → Chosen p (x ∷ xs) d (suc i) (suc j)
    unfolding keep
    one-passed x xs e c = record {
      below = omega (arith, c.below);
      passes = c.passes;
      kept_below = rw e (omega (arith, c.kept_below));
      kept_there = rw e c.kept_there;
      place_is = rw e (ap suc c.place_is);
    }

    none_passed : (x : A) (xs : List A) {i j : ℕ} → p x ≡ false → Chosen p xs d i j → Chosen p (x ∷ xs) d (suc i) j
    unfolding keep
    none_passed x xs e c = record {
      below = omega (arith, c.below);
      passes = c.passes;
      kept_below = rw e c.kept_below;
      kept_there = rw e c.kept_there;
      place_is = rw e c.place_is;
    }

    -- each number is that of an entry
    pub each-kept : (xs : List A) (j : ℕ) → j < length (keep p xs) → Chosen p xs d (place_in p xs j) j
    unfolding keep place_in
    each-kept [] j h = absurd (omega arith)
    each-kept (x ∷ xs) j h = go (each-kept xs) (p x) refl j h
      where
        go : ((j : ℕ) → j < length (keep p xs) → Chosen p xs d (place_in p xs j) j) → (b : Bool) → p x ≡ b → (j : ℕ) → j < length (cond b (x ∷ keep p xs) (keep p xs))
            → Chosen p (x ∷ xs) d (cond b (after (place_in p xs) j) (suc (place_in p xs j))) j
        go rest true e zero h = first_passes x xs e
        go rest true e (suc j) h = one-passed x xs e (rest j (omega arith))
        go rest false e j h = none_passed x xs e (rest j h)

    -- each entry that passes has a number
    pub each-passed : (xs : List A) (i : ℕ) → i < length xs → p (get_or xs i d) ≡ true → Chosen p xs d i (passed_before p xs i)
    unfolding keep
    each-passed [] i h e = absurd (omega arith)
    each-passed (x ∷ xs) zero h e = first_passes x xs e
    each-passed (x ∷ xs) (suc i) h e = go (each-passed xs i (omega arith) e) (p x) refl
      where
        go : Chosen p xs d i (passed_before p xs i) → (b : Bool) → p x ≡ b → Chosen p (x ∷ xs) d (suc i) (length (cond b (x ∷ keep p (take i xs)) (keep p (take i xs))))
        go c true q = one-passed x xs q c
        go c false q = none_passed x xs q c

    -- their order is kept
    pub order-kept : (xs : List A) (i j : ℕ) → i < j → i < length xs → p (get_or xs i d) ≡ true → passed_before p xs i < passed_before p xs j
    unfolding keep
    order-kept [] i j l h e = absurd (omega arith)
    order-kept (x ∷ xs) i zero l h e = absurd (omega arith)
    order-kept (x ∷ xs) zero (suc j) l h e = rw e (omega arith)
    order-kept (x ∷ xs) (suc i) (suc j) l h e = go (p x) (order-kept xs i j (omega arith) (omega arith) e)
      where
        go : (b : Bool) → passed_before p xs i < passed_before p xs j
            → length (cond b (x ∷ keep p (take i xs)) (keep p (take i xs))) < length (cond b (x ∷ keep p (take j xs)) (keep p (take j xs)))
        go true rest = omega arith
        go false rest = rest

-- an entry of a list that a function was put on
pub get_d-map-below : {A B : Type 0} (f : A → B) (xs : List A) (j : ℕ) (d : A) (e : B) → j < length xs → get_or (map f xs) j e ≡ f (get_or xs j d)
get_d-map-below f [] j d e h = absurd (omega arith)
get_d-map-below f (x ∷ xs) zero d e h = refl
get_d-map-below f (x ∷ xs) (suc j) d e h = get_d-map-below f xs j d e (omega arith)
