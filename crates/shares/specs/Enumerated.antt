-- What it is that a list of lists has each share list exactly once. RULES 17.1. Assumes nothing.
use Rattle.std.specs.Prelude.{ℕ, ◌≤◌, ◌<◌, ◌≡◌, List, ◌∷◌, [], Bool, true, false, ◌&&◌, length, get_or, eqb}
use Rattle.model.specs.Tables.{tally}

-- a list of n shares, each of them 1 to F
pub record ShareList (F n : ℕ) (shares : List ℕ) : Type 0 where
  pub many : length shares ≡ n
  pub some_slot : (i : ℕ) → i < n → 1 ≤ get_or shares i 0
  pub slots_most : (i : ℕ) → i < n → get_or shares i 0 ≤ F

-- whether two lists are the same
unfoldable pub same_list : List ℕ → List ℕ → Bool
same_list [] [] = true
same_list [] (y ∷ ys) = false
same_list (x ∷ xs) [] = false
same_list (x ∷ xs) (y ∷ ys) = eqb x y && same_list xs ys

-- how many times a list stands among others
abbrev pub times : List ℕ → List (List ℕ) → ℕ
times shares lists = tally (same_list shares) lists

-- The lists are the share lists, and each stands there once.
pub record EachOnce (F n : ℕ) (lists : List (List ℕ)) : Type 0 where
  pub once : (shares : List ℕ) → ShareList F n shares → times shares lists ≡ 1
  pub no_other : (shares : List ℕ) → 0 < times shares lists → ShareList F n shares
