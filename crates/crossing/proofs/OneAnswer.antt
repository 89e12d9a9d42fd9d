-- What a step of a crossing is said to come to leaves one answer: some crossing is read of any two states. Assumes nothing.
use mathlib.Core.Path.{◌≡◌, refl, sym, ◌∙◌}
use mathlib.Core.List.{List, []}
use mathlib.Core.Bool.{Bool}
use Prim.Native.Nat.{ℕ}
use Rattle.link.specs.Steps.{read_in}
use Rattle.crossings.specs.Crossing as reference
use Rattle.crossing.specs.declared.Crossing.{Crossing}
use Rattle.crossing.specs.Reading.{onward_of, Reads, Comes, Passes}

-- with no calls so far
abbrev read : Crossing → (a b waiting : List ℕ) → reference.Crossing
read x a b waiting = record {
  arriving = record { state = read_in x.arriving a; history = [] };
  leaving = record { state = read_in x.leaving b; history = [] };
  onward = onward_of x;
  waiting = waiting;
}

pub is_read : (x : Crossing) (a b waiting : List ℕ) → Reads (read x a b waiting) x a b waiting
is_read x a b waiting = record { arriving_is = refl; leaving_is = refl; onward_is = refl; waiting_is = refl }

-- two outcomes are read alike
pub record Alike (x : Crossing) (a b k a' b' k' : List ℕ) : Type 0 where
  pub arriving : read_in x.arriving a ≡ read_in x.arriving a'
  pub leaving : read_in x.leaving b ≡ read_in x.leaving b'
  pub waiting : k ≡ k'

alike : {x : Crossing} {p : reference.Crossing} {a b k a' b' k' : List ℕ} → Reads p x a b k → Reads p x a' b' k' → Alike x a b k a' b' k'
alike r s = record {
  arriving = sym r.arriving_is ∙ s.arriving_is;
  leaving = sym r.leaving_is ∙ s.leaving_is;
  waiting = sym r.waiting_is ∙ s.waiting_is;
}

module _ {x : Crossing} {a b k a' b' k' a'' b'' k'' : List ℕ} where
  pub one-outcome : {step : reference.Crossing → reference.Crossing} → Comes x step a b k a' b' k' → Comes x step a b k a'' b'' k'' → Alike x a' b' k' a'' b'' k''
  one-outcome first second = alike (first _ (is_read x a b k)) (second _ (is_read x a b k))

  pub one-pass : {i j : ℕ} {g g' : Bool} → Passes x i j a b k a' b' k' g → Passes x i j a b k a'' b'' k'' g' → Alike x a' b' k' a'' b'' k'' × (g ≡ g')
  one-pass first second =
      let r = first _ (is_read x a b k) in
      let s = second _ (is_read x a b k) in
      (alike r.reads s.reads, r.granted_is ∙ sym s.granted_is)
