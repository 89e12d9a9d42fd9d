-- Faults that are told place by place, and a search among earlier places. Assumes nothing.
use Prim.Native.Nat.{ℕ, suc, ◌+◌, ◌-◌, ◌*◌, ◌≤◌, ◌<◌}
use mathlib.Core.Path.{◌≡◌, sym, ap, ◌∙◌}
use mathlib.Core.List.{List, ◌∷◌, [], flat_map}
use mathlib.Core.Option.{some}
use mathlib.Core.Bool.{Bool, true, false, cond}
use native.Mathlib.Nat.{mul-add}
use native.Mathlib.Numerals.{add-one}
use native.Mathlib.Omega.{arith}
use Rattle.model.specs.Tables.{first_from}
use Rattle.calls.specs.Lines.{Puts}
use Rattle.calls.proofs.Stores.{puts_none, puts_then, puts-same}
use Rattle.faults.specs.Told.{first_told, each_below}
use Rattle.faults.proofs.Lists.{one-more-below}

-- what is put into a list that is another's equal
pub puts-from : {xs before other after : List ℕ} {at next : ℕ} → before ≡ other → Puts xs before after at next → Puts xs other after at next
puts-from {xs} {after = after} {at} {next} e p = rw e at p

-- ---- place by place, each with at most so many numbers

pub record ToldTo (f : ℕ → List ℕ) (most : ℕ) (before after : List ℕ) (at next i : ℕ) : Type 0 where
  pub puts : Puts (each_below i f) before after at next
  pub up_to : next ≤ at + most * i

pub none_told : (f : ℕ → List ℕ) (most : ℕ) (found : List ℕ) (at : ℕ) → ToldTo f most found found at at 0
unfolding flat_map
none_told f most found at = record { puts = puts_none found at; up_to = omega arith }

module _ {f : ℕ → List ℕ} {most : ℕ} {before after : List ℕ} {at next i : ℕ} (s : ToldTo f most before after at next i) where
  pub one_told : {after' : List ℕ} {next' : ℕ} → Puts (f i) after after' next next' → next' ≤ next + most → ToldTo f most before after' at next' (i + 1)
  one_told p m = record { puts = puts-same (one-more-below i f) (puts_then s.puts p); up_to = omega (arith, s.up_to, mul-add most i 1) }

  pub all_told : (n : ℕ) → i ≡ n → Puts (each_below n f) before after at next
  all_told n e = puts-same (ap (λ k. each_below k f) e) s.puts

-- ---- the first that passes

-- none before place i passes: what is left to search is the whole search
pub record Searched (f : ℕ → Bool) (j i : ℕ) : Type 0 where
  pub within : i ≤ j
  pub rest : first_from (j - i) i f ≡ first_from j 0 f

pub none-searched : (f : ℕ → Bool) (j : ℕ) → Searched f j 0
none-searched f j = record { within = omega arith; rest = ap (λ n. first_from n 0 f) (omega arith) }

module _ {f : ℕ → Bool} {j i : ℕ} (s : Searched f j i) where
  one_left : i < j → first_from (j - i) i f ≡ cond (f i) (some i) (first_from (j - (i + 1)) (i + 1) f)
  unfolding first_from
  one_left h =
      let left : j - i ≡ suc (j - (i + 1)) = omega arith in
      ap (λ n. first_from n i f) left ∙ ap (λ k. cond (f i) (some i) (first_from (j - (i + 1)) k f)) (sym (add-one i))

  pub one-searched : i < j → f i ≡ false → Searched f j (i + 1)
  one-searched h e = record {
    within = omega arith;
    rest = sym (one_left h ∙ ap (λ t. cond t (some i) (first_from (j - (i + 1)) (i + 1) f)) e) ∙ s.rest;
  }

  pub first_found : (number : ℕ) → i < j → f i ≡ true → number ∷ i ∷ j ∷ [] ≡ first_told number (first_from j 0 f) j
  first_found number h e = ap (λ o. first_told number o j) (sym (one_left h ∙ ap (λ t. cond t (some i) (first_from (j - (i + 1)) (i + 1) f)) e) ∙ s.rest)

  pub none_found : (number : ℕ) → j ≤ i → [] ≡ first_told number (first_from j 0 f) j
  unfolding first_from
  none_found number h =
      let none_left : j - i ≡ 0 = omega arith in
      ap (λ o. first_told number o j) (sym (ap (λ n. first_from n i f) none_left) ∙ s.rest)
