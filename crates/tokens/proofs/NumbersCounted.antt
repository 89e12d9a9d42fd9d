-- How many numbers a line has, and where they are kept. Assumes nothing.
use Prim.Native.Nat.{ℕ, ◌+◌, ◌*◌, ◌≤◌}
use mathlib.Core.Path.{◌≡◌, refl, sym, ap, ◌∙◌}
use mathlib.Core.List.{List, ◌∷◌, []}
use mathlib.Core.Bool.{Bool, true, false}
use native.Mathlib.Omega.{arith}
use lib.ListN.{length, take, drop}
use lib.Seq.{sets, sets-eq, take_at}
use Rattle.std.proofs.Common.{Result, Ok, Err}
use Rattle.tokens.specs.declared.Fault.{Fault}
use Rattle.tokens.specs.Pieces.{is_space, pieces, tail, fields_of}
use Rattle.tokens.specs.Decimal.{number_of, number_then, numbers_in, found_then, found_in}

-- where no field is wrong, as many numbers are found as there are
pub count_is : (fields : List (List ℕ)) (n : ℕ) → Ok n ≡ found_in fields → n ≡ length (numbers_in fields)
unfolding found_in numbers_in
count_is [] n e = cc
count_is (field ∷ rest) n e = go (number_of field) (found_in rest) (count_is rest) e
  where
    go : (x : Result ℕ Fault) (f : Result ℕ Fault) → ((m : ℕ) → Ok m ≡ f → m ≡ length (numbers_in rest)) → Ok n ≡ found_then x f
        → n ≡ length (number_then x (numbers_in rest))
    go (Ok k) (Ok m) fewer p = let more-one : n ≡ 1 + m = cc in omega (arith, fewer m refl)
    go (Ok k) (Err fault) fewer p = let z : ◌≡◌ {A = ℕ} 0 1 = cc in absurd (omega arith)
    go (Err fault) f fewer p = let z : ◌≡◌ {A = ℕ} 0 1 = cc in absurd (omega arith)

-- ---- a number takes two bytes of its line, a digit and the space before it

-- after a number the others are found
others-found : (field : List ℕ) (rest : List (List ℕ)) (n : ℕ) → Ok n ≡ found_in (field ∷ rest) → (m : ℕ) × (Ok m ≡ found_in rest) × (n ≡ 1 + m)
unfolding found_in
others-found field rest n e = go (number_of field) (found_in rest) refl e
  where
    go : (x : Result ℕ Fault) (f : Result ℕ Fault) → found_in rest ≡ f → Ok n ≡ found_then x f → (m : ℕ) × (Ok m ≡ found_in rest) × (n ≡ 1 + m)
    go (Ok k) (Ok m) q p = (m, sym q, cc)
    go (Ok k) (Err fault) q p = let z : ◌≡◌ {A = ℕ} 0 1 = cc in absurd (omega arith)
    go (Err fault) f q p = let z : ◌≡◌ {A = ℕ} 0 1 = cc in absurd (omega arith)

empty-is-wrong : (rest : List (List ℕ)) (n : ℕ) → Ok n ≡ found_in ([] ∷ rest) → ⊥
unfolding found_in number_of
empty-is-wrong rest n e = let z : ◌≡◌ {A = ℕ} 0 1 = cc in absurd (omega arith)

-- of the pieces after a line's word, and of all its pieces
record Most (line : List ℕ) : Type 0 where
  pub after-word : (n : ℕ) → Ok n ≡ found_in (tail (pieces line)) → 2 * n ≤ length line
  pub with_word : (n : ℕ) → Ok n ≡ found_in (pieces line) → 2 * n ≤ length line + 1

none_in : (n : ℕ) → Ok n ≡ found_in [] → n ≡ 0
unfolding found_in
none_in n e = cc

no_bytes : Most []
unfolding pieces
no_bytes = record { after-word = λ n e. omega (arith, none_in n e); with_word = λ n e. absurd (empty-is-wrong [] n e) }

module _ (b : ℕ) (rest : List ℕ) (m : Most rest) where
  space-more : pieces (b ∷ rest) ≡ [] ∷ pieces rest → Most (b ∷ rest)
  space-more e = record {
    after-word = λ n f. omega (arith, m.with_word n (f ∙ ap (λ l. found_in (tail l)) e));
    with_word = λ n f. absurd (empty-is-wrong (pieces rest) n (f ∙ ap found_in e));
  }

  byte_more : (p : List ℕ) (ps : List (List ℕ)) → pieces rest ≡ p ∷ ps → pieces (b ∷ rest) ≡ (b ∷ p) ∷ ps → Most (b ∷ rest)
  byte_more p ps q e =
      let others : (k : ℕ) → Ok k ≡ found_in ps → 2 * k ≤ length rest = λ k f. m.after-word k (f ∙ ap (λ l. found_in (tail l)) (sym q)) in
      record {
        after-word = λ n f. omega (arith, others n (f ∙ ap (λ l. found_in (tail l)) e));
        with_word = λ n f. let o = others-found (b ∷ p) ps n (f ∙ ap found_in e) in omega (arith, others o.0 o.1, o.2);
      }

  -- a byte alone
  byte-alone : pieces (b ∷ rest) ≡ (b ∷ []) ∷ [] → Most (b ∷ rest)
  byte-alone e = record {
    after-word = λ n f. omega (arith, none_in n (f ∙ ap (λ l. found_in (tail l)) e));
    with_word = λ n f. let o = others-found (b ∷ []) [] n (f ∙ ap found_in e) in omega (arith, none_in o.0 o.1, o.2);
  }

most : (line : List ℕ) → Most line
unfolding pieces
most [] = no_bytes
most (b ∷ rest) = go (is_space b) refl (pieces rest) refl (most rest)
  where
    go : (t : Bool) → is_space b ≡ t → (ps : List (List ℕ)) → pieces rest ≡ ps → Most rest → Most (b ∷ rest)
    go true e ps q m = space-more b rest m (rw e)
    go false e [] q m = byte-alone b rest m (rw (e, q))
    go false e (p ∷ ps) q m = byte_more b rest m p ps q (rw (e, q))

-- so a line has at most half as many numbers as bytes
pub count_most : (line : List ℕ) (n : ℕ) → Ok n ≡ found_in (fields_of line) → 2 * n ≤ length line
count_most line = (most line).after-word

-- ---- what is kept at the start of a list, if it has room there

pub kept-first : (xs l : List ℕ) (n : ℕ) → n ≡ length xs → n ≤ length l → take n (sets l 0 xs) ≡ xs
kept-first xs l n e h = ap (take n) (sets-eq xs l 0 (omega arith)) ∙ take_at xs (drop (0 + length xs) l) n (sym e)
