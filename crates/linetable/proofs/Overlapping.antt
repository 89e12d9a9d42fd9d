-- Two stores that overlap: the later one stands, and past it the rest of the earlier one. Assumes nothing.
use Prim.Native.Nat.{ℕ, suc, ◌+◌, ◌-◌, ◌≤◌}
use mathlib.Core.Path.{◌≡◌, refl, sym, ap, ◌∙◌}
use mathlib.Core.List.{List, ◌∷◌, [], ◌++◌, append_assoc}
use native.Mathlib.Omega.{arith}
use lib.ListN.{length, set, take, drop, length-append, length-drop}
use lib.Seq.{sets, length-sets, sets-eq, length-take-le, take-set-le, drop-append-add, drop-append-le}

module _ {A : Type 0} where
  take-sets : (n : ℕ) (l : List A) (i : ℕ) (vs : List A) → n ≤ i → take n (sets l i vs) ≡ take n l
  take-sets n l i [] h = refl
  take-sets n l i (a ∷ vs) h = take-sets n (set l i a) (suc i) vs (omega arith) ∙ take-set-le n l i a h

  -- ys is stored k places further on than xs, and reaches at least as far
  module _ (l : List A) (at k : ℕ) (xs ys : List A) (low : k ≤ length xs) (high : length xs ≤ k + length ys)
      (fits : at + k + length ys ≤ length l) where
    -- what is left of ys
    abbrev rest : List A
    rest = drop (length xs - k) ys

    abbrev front : List A
    front = take (at + k) l

    abbrev back : List A
    back = drop (at + k + length ys) l

    past-stored : drop (at + length xs) (sets l (at + k) ys) ≡ rest ++ back
    past-stored =
        let long = length-take-le (at + k) l (omega arith) in
        let both = length-append front ys in
        let place : at + length xs ≡ length front + (length xs - k) = omega arith in
        ap (drop (at + length xs)) (sets-eq ys l (at + k) fits)
        ∙ drop-append-le (at + length xs) (front ++ ys) back (omega arith)
        ∙ ap (λ n. drop n (front ++ ys) ++ back) place
        ∙ ap (λ (s : List A). s ++ back) (drop-append-add front ys (length xs - k))

    pub overlapped : sets (sets l (at + k) ys) at xs ≡ sets l at (xs ++ rest)
    overlapped =
        let long = length-append xs rest in
        let left = length-drop (length xs - k) ys in
        let end : at + length (xs ++ rest) ≡ at + k + length ys = omega arith in
        sets-eq xs (sets l (at + k) ys) at (rw length-sets (omega arith))
        ∙ (λ j. (take-sets at l (at + k) ys (omega arith) j ++ xs) ++ past-stored j)
        ∙ sym (append_assoc (take at l ++ xs) rest back)
        ∙ ap (λ (s : List A). s ++ back) (append_assoc (take at l) xs rest)
        ∙ ap (λ n. (take at l ++ (xs ++ rest)) ++ drop n l) (sym end)
        ∙ sym (sets-eq (xs ++ rest) l at (omega arith))
