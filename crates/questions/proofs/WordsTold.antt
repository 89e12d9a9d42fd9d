-- Words told apart, row by row. Assumes nothing.
use Prim.Native.Nat.{ℕ}
use mathlib.Core.Path.{◌≡◌, refl, sym, ap, ap₂, ◌∙◌}
use mathlib.Core.List.{List, ◌∷◌, []}
use mathlib.Core.Bool.{Bool, true, false, ◌&&◌, cond}
use native.Mathlib.Omega.{arith}
use lib.Dec.{eqb}
use borrow.Author.Tests.{eqb-true, eq-eqb}
use Rattle.model.specs.Listing.{text}
use Rattle.questions.specs.Answers.{same_text, Row, row_named}

-- ---- texts that are the same

same-itself : (a : List ℕ) → same_text a a ≡ true
unfolding same_text
same-itself [] = refl
same-itself (x ∷ a) = rw (eq-eqb x x refl) (same-itself a)

same_then : (a b : List ℕ) → same_text a b ≡ true → a ≡ b
unfolding same_text
same_then [] [] e = refl
same_then [] (y ∷ b) e = let z : ◌≡◌ {A = ℕ} 0 1 = cc in absurd (omega arith)
same_then (x ∷ a) [] e = let z : ◌≡◌ {A = ℕ} 0 1 = cc in absurd (omega arith)
same_then (x ∷ a) (y ∷ b) e = go (eqb x y) refl e (same_then a b)
  where
    go : (t : Bool) → eqb x y ≡ t → (t && same_text a b) ≡ true → (same_text a b ≡ true → a ≡ b) → x ∷ a ≡ y ∷ b
    go true p q rest = ap₂ ◌∷◌ (eqb-true x y p) (rest q)
    go false p q rest = let z : ◌≡◌ {A = ℕ} 0 1 = cc in absurd (omega arith)

-- what `check::same` promises of its answer
abbrev pub Tells : (r : Bool) → (a b : List ℕ) → Type 0
Tells r a b = (r ≡ true → a ≡ b) × (a ≡ b → r ≡ true)

test-is : {r : Bool} {a b : List ℕ} → Tells r a b → r ≡ same_text a b
test-is {r} {a} {b} h = go r refl (same_text a b) refl
  where
    go : (s : Bool) → r ≡ s → (t : Bool) → same_text a b ≡ t → r ≡ same_text a b
    go true p t q = p ∙ sym (ap (same_text a) (sym (h.0 p)) ∙ same-itself a)
    go false p true q = let z = h.1 (same_then a b q) in cc
    go false p false q = cc

-- ---- the rows

module _ (name : List ℕ) (row : Row) (rest : List Row) {r : Bool} (told : Tells r name (text row.name)) where
  pub row_is : r ≡ true → row.word ≡ row_named name (row ∷ rest)
  unfolding row_named
  row_is e = sym (ap (λ t. cond t row.word (row_named name rest)) (sym (test-is told) ∙ e))

  pub row-is-not : r ≡ false → row_named name rest ≡ row_named name (row ∷ rest)
  unfolding row_named
  row-is-not e = sym (ap (λ t. cond t row.word (row_named name rest)) (sym (test-is told) ∙ e))
