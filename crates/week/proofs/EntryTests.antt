-- Tests of a programme's entries, one by one and two by two, along the list. Assumes nothing.
use Prim.Native.Nat.{ℕ, zero, suc}
use mathlib.Core.Path.{◌≡◌, refl, ap, ap₂, ◌∙◌}
use mathlib.Core.List.{List, ◌∷◌, []}
use mathlib.Core.Bool.{Bool, true, false, ◌&&◌, ◌||◌}
use lib.ListN.{length}
use Rattle.std.specs.List.{list_any}
use Rattle.model.specs.Tables.{any}
use Rattle.model.proofs.Tests.{any_same}
use Rattle.week.specs.Week.{Entry, week, entry, runs, share_minute, some_shared}

-- ---- tests

pub or_swap : (a b c : Bool) → a || (b || c) ≡ b || (a || c)
or_swap true true c = refl
or_swap true false c = refl
or_swap false true c = refl
or_swap false false c = refl

pub or-cross : (a b c d : Bool) → (a || b) || (c || d) ≡ (a || c) || (b || d)
or-cross true b c d = refl
or-cross false true true d = refl
or-cross false true false d = refl
or-cross false false true d = refl
or-cross false false false d = refl

and-swap : (a b : Bool) → a && b ≡ b && a
and-swap true true = refl
and-swap true false = refl
and-swap false true = refl
and-swap false false = refl

-- the first number apart from the rest
any-first : (n : ℕ) (f : ℕ → Bool) → any (suc n) f ≡ f 0 || any n (λ k. f (suc k))
unfolding any
any-first zero f = refl
any-first (suc n) f = ap (f (suc n) ||◌) (any-first n f) ∙ or_swap (f (suc n)) (f 0) (any n (λ k. f (suc k)))

any-either : (n : ℕ) (f g : ℕ → Bool) → any n (λ k. f k || g k) ≡ any n f || any n g
unfolding any
any-either zero f g = refl
any-either (suc n) f g = ap (f n || g n ||◌) (any-either n f g) ∙ or-cross (f n) (g n) (any n f) (any n g)

-- ---- tests of a list's entries, one by one and two by two

unfoldable pub pairs : List Entry → Bool
pairs [] = false
pairs (e ∷ rest) = list_any (share_minute e) rest || pairs rest

pub some_is : (f : Entry → Bool) (entries : List Entry) → any (length entries) (λ i. f (entry entries i)) ≡ list_any f entries
unfolding any
some_is f [] = refl
some_is f (e ∷ rest) = any-first (length rest) (λ i. f (entry (e ∷ rest) i)) ∙ ap (f e ||◌) (some_is f rest)

pub pairs-are : (entries : List Entry) → some_shared entries ≡ pairs entries
unfolding any pairs
pairs-are [] = refl
pairs-are (e ∷ rest) =
    let n = length rest in
    any-first n (λ i. any i (λ j. share_minute (entry (e ∷ rest) j) (entry (e ∷ rest) i)))
    ∙ any_same n _ _ (λ k h. any-first k (λ j. share_minute (entry (e ∷ rest) j) (entry rest k)))
    ∙ any-either n (λ k. share_minute e (entry rest k)) (λ k. any k (λ j. share_minute (entry rest j) (entry rest k)))
    ∙ ap₂ ◌||◌ (some_is (share_minute e) rest) (pairs-are rest)

pub share-either-way : (a b : Entry) → share_minute a b ≡ share_minute b a
unfolding share_minute
share-either-way a b = any_same week _ _ (λ m h. and-swap (runs a m) (runs b m))
