-- An array whose start is filled, and past it nothing was stored. Assumes nothing.
use Prim.Native.Nat.{ℕ, ◌+◌, ◌≤◌, ◌<◌}
use mathlib.Core.Path.{◌≡◌, sym, ◌∙◌}
use mathlib.Core.List.{List}
use native.Mathlib.Decide.{dec_lt}
use native.Mathlib.Omega.{arith}
use lib.ListN.{get_or, set, replicate, length-replicate, get_or-replicate}
use lib.Seq.{get_or-set_other, ext_get_or}
use Rattle.model.specs.Tables.{table}
use Rattle.model.proofs.Tables.{length-table, get_d-table}
use Rattle.tokens.proofs.Filled.{FilledTo, none_filled, one-filled}

-- the elements before i are those of f, and from i on nothing was stored
pub record StartFilled {A : Type 0} (size : ℕ) (none : A) (f : ℕ → A) (all : List A) (i : ℕ) : Type 0 where
  pub start : FilledTo f none size all i
  pub after : (k : ℕ) → i ≤ k → k < size → get_or all k none ≡ none

pub nothing-filled : {A : Type 0} (size : ℕ) (none : A) (f : ℕ → A) → StartFilled size none f (replicate size none) 0
nothing-filled size none f = record {
  start = none_filled f none size (replicate size none) (length-replicate size none);
  after = λ k l h. get_or-replicate size k none none h;
}

module _ {A : Type 0} {size : ℕ} {none : A} {f : ℕ → A} {all : List A} {i : ℕ} (s : StartFilled size none f all i) where
  pub one-more-filled : {x : A} → i < size → x ≡ f i → StartFilled size none f (set all i x) (i + 1)
  one-more-filled {x} h e = record {
    start = one-filled s.start h e;
    after = λ k l m. get_or-set_other all i k x none (λ z. omega arith) ∙ s.after k (omega arith) m;
  }

  -- where f gives nothing from i on, all of the array is f's
  pub rest-empty : ((k : ℕ) → i ≤ k → k < size → f k ≡ none) → all ≡ table size f
  rest-empty rest = ext_get_or none all (table size f) (s.start.long ∙ sym (length-table size f)) (λ k l. same k (omega (arith, s.start.long)) (dec_lt k i))
    where
      same : (k : ℕ) → k < size → Dec (k < i) → get_or all k none ≡ get_or (table size f) k none
      same k l (yes b) = s.start.at k b ∙ sym (get_d-table size f k none l)
      same k l (no b) = s.after k (omega arith) l ∙ sym (rest k (omega arith) l) ∙ sym (get_d-table size f k none l)
