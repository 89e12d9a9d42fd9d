-- Lists: a front and what comes after it, and runs of stores. Assumes nothing.
use Prim.Native.Nat.{ℕ, zero, suc, ◌+◌, ◌-◌, ◌≤◌, ◌<◌, min}
use mathlib.Core.Path.{◌≡◌, refl, sym, ap, ◌∙◌}
use mathlib.Core.List.{List, ◌∷◌, [], ◌++◌, append_assoc}
use native.Mathlib.Decide.{dec_le}
use native.Mathlib.Nat.{zero-add, add-suc}
use native.Mathlib.Omega.{arith}
use lib.ListN.{length, get_or, take, drop, set, length-take, length-drop, length-append, take-append-drop, get_or-append}
use lib.Seq.{sets, sets-eq, take_all, take-append_seam, take-set-le, drop-set-add}
use Rattle.calls.proofs.Stores.{sets-append}

-- ---- a front and what comes after it

pub take_min : (k : ℕ) (p : List ℕ) → take (min k (length p)) p ≡ take k p
take_min k p = go (dec_le k (length p))
  where
    go : Dec (k ≤ length p) → take (min k (length p)) p ≡ take k p
    go (yes h) = let e : min k (length p) ≡ k = omega arith in ap (λ n. take n p) e
    go (no h) = take_all (min k (length p)) p (omega arith) ∙ sym (take_all k p (omega arith))

pub front-and-rest : (k : ℕ) (p : List ℕ) → take k p ++ drop (length (take k p)) p ≡ p
front-and-rest zero p = refl
front-and-rest (suc k) [] = refl
front-and-rest (suc k) (x ∷ p) = ap (x ∷◌) (front-and-rest k p)

-- a part from a place to the end, as code names it
pub part-behind : (k : ℕ) (p : List ℕ) → take (length p - k) (drop k p) ≡ drop k p
part-behind k p = take_all (length p - k) (drop k p) (omega (arith, length-drop k p))

-- ---- bytes that are taken from the start of a piece

module _ (b piece : List ℕ) (k : ℕ) where
  -- with what is left of the piece they are all there
  pub taken-and-rest : (m : ℕ) → m ≡ length (b ++ take k piece) - length b
      → (b ++ take k piece) ++ take (length piece - m) (drop m piece) ≡ b ++ piece
  taken-and-rest m e =
      let same : m ≡ length (take k piece) = omega (arith, length-append b (take k piece)) in
      append_assoc b (take k piece) _
      ∙ ap (λ x. b ++ (take k piece ++ x)) (part-behind m piece ∙ ap (λ n. drop n piece) same) ∙ ap (b ++◌) (front-and-rest k piece)

  -- fewer than were wanted: the piece has ended
  pub taken-all : length (b ++ take k piece) < length b + k → b ++ take k piece ≡ b ++ piece
  taken-all h = ap (b ++◌) (take_all k piece (omega (arith, length-append b (take k piece), length-take k piece)))

-- ---- a run of stores

-- one run after another
pub stored-after : (l xs ys : List ℕ) → sets (sets l 0 xs) (length xs) ys ≡ sets l 0 (xs ++ ys)
stored-after l xs ys = ap (λ n. sets (sets l 0 xs) n ys) (sym (zero-add (length xs))) ∙ sets-append l 0 xs ys

-- the stores of a part that starts at a place are stores of the whole
pub stored-behind : (at j : ℕ) (l vs : List ℕ) → take at l ++ sets (drop at l) j vs ≡ sets l (at + j) vs
stored-behind at j l [] = take-append-drop at l
stored-behind at j l (v ∷ vs) =
    ap (λ x. x ++ sets (set (drop at l) j v) (suc j) vs) (sym (take-set-le at l (at + j) v (omega arith)))
    ∙ ap (λ x. take at (set l (at + j) v) ++ sets x (suc j) vs) (sym (drop-set-add at l j v))
    ∙ stored-behind at (suc j) (set l (at + j) v) vs ∙ ap (λ n. sets (set l (at + j) v) n vs) (add-suc at j)

module _ (l vs : List ℕ) (fits : length vs ≤ length l) where
  front-stored : sets l 0 vs ≡ vs ++ drop (0 + length vs) l
  front-stored = sets-eq vs l 0 (omega arith)

  -- what was stored at the front
  pub stored_back : take (length vs) (sets l 0 vs) ≡ vs
  stored_back = ap (take (length vs)) front-stored ∙ take-append_seam vs (drop (0 + length vs) l)

  pub stored_at : (i : ℕ) → i < length vs → get_or (sets l 0 vs) i 0 ≡ get_or vs i 0
  stored_at i h = ap (λ x. get_or x i 0) front-stored ∙ get_or-append vs (drop (0 + length vs) l) 0 i h
