use Rattle.std.proofs.Common.{◌≡◌, ℕ, ◌+◌, true, false, List, None, set, refl, add-one, arith, rules}
use borrow.Author.Count.{below_more}
use Rattle.timing.specs.File.{kind_of, is_kind, filled}
use Rattle.timing.proofs.file.split.Goals as goal

filled_none : (f : ℕ → ℕ) (xs : List ℕ) → xs ≡ filled f xs 0
unfolding filled
filled_none f xs = refl

filled_more : (f : ℕ → ℕ) (xs : List ℕ) (i : ℕ) {ys : List ℕ} {x : ℕ} → ys ≡ filled f xs i → x ≡ f i → set ys i x ≡ filled f xs (i + 1)
unfolding filled
filled_more f xs i e d = rw (add-one i, e, d)

is_kind_if : (x : ℕ) → (kind_of x ≡ None → ⊥) → is_kind x ≡ true
unfolding is_kind
is_kind_if x n = search rules

none_if : (x : ℕ) → kind_of x ≡ None → is_kind x ≡ false
unfolding is_kind
none_if x e = search rules

pub loop-i-init : goal.loop-i-init
loop-i-init c = record { most = omega arith; kinds_are = filled_none _ _; words_are = filled_none _ _; known = λ k h. absurd (omega arith) }

pub returns-then-is_none : goal.returns-then-is_none
returns-then-is_none c =
    let s = c.loop-i.invariant in
    record { most = s.most; kinds_are = s.kinds_are; words_are = s.words_are; known = s.known; stops = λ h. none_if _ (search rules) }

pub loop-i-preserved : goal.loop-i-preserved
loop-i-preserved c =
    let s = c.loop-i.invariant in
    record {
      most = omega arith;
      kinds_are = filled_more _ _ _ s.kinds_are refl;
      words_are = filled_more _ _ _ s.words_are c.word_at.ensures;
      known = below_more _ _ s.known (is_kind_if _ (λ none. search rules));
    }
