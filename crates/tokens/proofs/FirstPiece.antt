-- A line from a place on: its first piece, and the pieces after it. Assumes nothing.
use Prim.Native.Nat.{ℕ, suc, ◌+◌, ◌≤◌, ◌<◌, max}
use mathlib.Core.Path.{◌≡◌, refl, ap, ◌∙◌}
use mathlib.Core.List.{List, ◌∷◌, []}
use mathlib.Core.Bool.{Bool, true, false, cond}
use native.Mathlib.Decide.{dec_le}
use native.Mathlib.Omega.{arith}
use lib.ListN.{length, get_or, take, drop, drop_of_length-le}
use borrow.Author.Tests.{eqb-true, eq-eqb, ne_eqb}
use Rattle.tokens.specs.Pieces.{is_space, before, pieces, tail, fields_of, piece_length}
use Rattle.tokens.proofs.FromPlace.{from_place}

-- the first piece stands before the first space, and the others after it
pub first_piece : (l : List ℕ) → pieces l ≡ take (piece_length l) l ∷ fields_of (drop (piece_length l) l)
unfolding pieces piece_length
first_piece [] = refl
first_piece (b ∷ rest) = go (is_space b) refl (first_piece rest)
  where
    go : (t : Bool) → is_space b ≡ t → pieces rest ≡ take (piece_length rest) rest ∷ fields_of (drop (piece_length rest) rest)
        → pieces (b ∷ rest) ≡ take (piece_length (b ∷ rest)) (b ∷ rest) ∷ fields_of (drop (piece_length (b ∷ rest)) (b ∷ rest))
    go true e more = simp e
    go false e more = rw e (ap (before b) more)

-- ---- a piece's bytes, one by one

-- where a piece ends that starts at `from`, seen from a place in it
pub record InPiece (l : List ℕ) (from at : ℕ) : Type 0 where
  pub end : at + piece_length (drop at l) ≡ from + piece_length (drop from l)

pub piece-starts : (l : List ℕ) (from : ℕ) → InPiece l from from
piece-starts l from = record { end = refl }

module _ {l : List ℕ} {from at : ℕ} (s : InPiece l from at) where
  length-there : at < length l → piece_length (drop at l) ≡ cond (is_space (get_or l at 0)) 0 (suc (piece_length (drop (at + 1) l)))
  unfolding piece_length
  length-there h = ap piece_length (from_place l at h)

  pub piece-goes-on : at < length l → (get_or l at 0 ≡ 32 → ⊥) → InPiece l from (at + 1)
  piece-goes-on h n =
      let one_more : piece_length (drop at l) ≡ suc (piece_length (drop (at + 1) l)) =
      length-there h ∙ ap (λ t. cond t 0 (suc (piece_length (drop (at + 1) l)))) (ne_eqb _ _ n) in
      record { end = omega (arith, s.end) }

  pub ends-at-space : at < length l → get_or l at 0 ≡ 32 → at ≡ from + piece_length (drop from l)
  ends-at-space h e =
      let none : piece_length (drop at l) ≡ 0 = length-there h ∙ ap (λ t. cond t 0 (suc (piece_length (drop (at + 1) l)))) (eq-eqb _ _ e) in
      omega (arith, s.end)

  pub ends-at-end : length l ≤ at → at ≡ from + piece_length (drop from l)
  unfolding piece_length
  ends-at-end h =
      let none : piece_length (drop at l) ≡ 0 = ap piece_length (drop_of_length-le l h) in
      omega (arith, s.end)

  -- no byte of the line is left to pass
  pub ends-past-end : length l ≤ at → (from ≤ length l → at ≤ length l) → max from (length l) ≡ from + piece_length (drop from l)
  unfolding piece_length
  ends-past-end h inside = go (dec_le from (length l))
    where
      go : Dec (from ≤ length l) → max from (length l) ≡ from + piece_length (drop from l)
      go (yes k) = omega (arith, ends-at-end h, inside k)
      go (no k) = let none : piece_length (drop from l) ≡ 0 = ap piece_length (drop_of_length-le l (omega arith)) in omega (arith, none)

-- a piece ends within the line, before a space or at the line's end
pub piece-within : (l : List ℕ) → piece_length l ≤ length l
unfolding piece_length
piece-within [] = omega arith
piece-within (b ∷ rest) = go (is_space b) refl (piece-within rest)
  where
    go : (t : Bool) → is_space b ≡ t → piece_length rest ≤ length rest → piece_length (b ∷ rest) ≤ length (b ∷ rest)
    go true e h = rw e (omega arith)
    go false e h = rw e (omega arith)

pub piece-before-space : (l : List ℕ) → piece_length l < length l → get_or l (piece_length l) 0 ≡ 32
unfolding piece_length
piece-before-space [] h = absurd (omega arith)
piece-before-space (b ∷ rest) h = go (is_space b) refl (piece-before-space rest)
  where
    go : (t : Bool) → is_space b ≡ t → (piece_length rest < length rest → get_or rest (piece_length rest) 0 ≡ 32) → get_or (b ∷ rest) (piece_length (b ∷ rest)) 0 ≡ 32
    go true e more = rw e (eqb-true _ _ e)
    go false e more = rw e (more (omega (arith, rw e at h)))

-- the fields of what begins with a space are the pieces after it
pub after-space : (l : List ℕ) (i : ℕ) → i < length l → get_or l i 0 ≡ 32 → fields_of (drop i l) ≡ pieces (drop (i + 1) l)
unfolding pieces
after-space l i h e =
    ap fields_of (from_place l i h)
    ∙ ap (λ t. tail (cond t ([] ∷ pieces (drop (i + 1) l)) (before (get_or l i 0) (pieces (drop (i + 1) l))))) (eq-eqb _ _ e)
