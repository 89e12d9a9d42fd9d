-- Share lists counted by their first share. Assumes nothing.
use Prim.Native.Nat.{ℕ, zero, suc, ◌+◌}
use mathlib.Core.Path.{◌≡◌, refl, sym, ap, ◌∙◌}
use mathlib.Core.List.{List, ◌∷◌, [], map, flat_map}
use mathlib.Core.Bool.{Bool, false}
use native.Mathlib.Omega.{arith}
use lib.ListN.{length, get_or}
use Rattle.model.specs.Tables.{table, sum, bit, tally}
use Rattle.model.proofs.Tallies.{tally-append}
use Rattle.shares.specs.ShareLists.{share_lists, total}
use Rattle.shares.proofs.Sums.{sum_first}

pub tally-no : (lists : List (List ℕ)) → tally (λ l. false) lists ≡ 0
unfolding tally
tally-no [] = refl
tally-no (l ∷ lists) = omega (arith, tally-no lists)

tally-map : (p : List ℕ → Bool) (f : List ℕ → List ℕ) (lists : List (List ℕ)) → tally p (map f lists) ≡ tally (λ l. p (f l)) lists
unfolding tally
tally-map p f [] = refl
tally-map p f (l ∷ lists) = ap (bit (p (f l)) +◌) (tally-map p f lists)

tally-parts : (p : List ℕ → Bool) (part : ℕ → List (List ℕ)) (n : ℕ) (f : ℕ → ℕ) → tally p (flat_map part (table n f)) ≡ sum n (λ k. tally p (part (f k)))
unfolding flat_map tally sum
tally-parts p part zero f = refl
tally-parts p part (suc n) f =
    tally-append p (part (f 0)) (flat_map part (table n (λ k. f (suc k))))
    ∙ ap (tally p (part (f 0)) +◌) (tally-parts p part n (λ k. f (suc k)))
    ∙ sym (sum_first n (λ k. tally p (part (f k))))

-- the lists that pass a test, by their first share
pub by_first : (p : List ℕ → Bool) (F n : ℕ) → tally p (share_lists F (suc n)) ≡ sum F (λ k. tally (λ shares. p (suc k ∷ shares)) (share_lists F n))
unfolding share_lists
by_first p F n =
    tally-parts p (λ share. map (share ∷◌) (share_lists F n)) F suc
    ∙ (λ i. sum F (λ k. tally-map p (suc k ∷◌) (share_lists F n) i))

pub total_first : (share : ℕ) (shares : List ℕ) → total (share ∷ shares) ≡ share + total shares
unfolding total
total_first share shares = sum_first (length shares) (λ i. get_or (share ∷ shares) i 0)
