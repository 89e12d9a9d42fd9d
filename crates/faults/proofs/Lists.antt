-- Lists put together part by part. Assumes nothing.
use Prim.Native.Nat.{ℕ, ◌+◌}
use mathlib.Core.Path.{◌≡◌, refl, sym, ap, ◌∙◌}
use mathlib.Core.List.{List, ◌∷◌, [], ◌++◌, flat_map, append-nil, append_assoc}
use native.Mathlib.Numerals.{add-one}
use Rattle.model.specs.Tables.{table}
use Rattle.tokens.proofs.BytesRead.{table_more}
use Rattle.faults.specs.Told.{each_below}

pub flat_append : {A : Type 0} (f : A → List ℕ) (xs ys : List A) → flat_map f (xs ++ ys) ≡ flat_map f xs ++ flat_map f ys
unfolding flat_map
flat_append f [] ys = refl
flat_append f (x ∷ xs) ys = ap (f x ++◌) (flat_append f xs ys) ∙ sym (append_assoc (f x) (flat_map f xs) (flat_map f ys))

pub flat-last : {A : Type 0} (f : A → List ℕ) (xs : List A) (x : A) → flat_map f (xs ++ (x ∷ [])) ≡ flat_map f xs ++ f x
unfolding flat_map
flat-last f xs x = flat_append f xs (x ∷ []) ∙ ap (flat_map f xs ++◌) (append-nil (f x))

pub one-more-below : (n : ℕ) (f : ℕ → List ℕ) → each_below n f ++ f n ≡ each_below (n + 1) f
one-more-below n f =
    sym (flat-last f (table n (λ i. i)) n) ∙ ap (flat_map f) (sym (table_more n (λ i. i))) ∙ ap (λ k. each_below k f) (sym (add-one n))
