-- The answers to lines. Assumes nothing.
use Prim.Native.Nat.{ℕ, ◌≤◌, ◌<◌}
use mathlib.Core.Path.{◌≡◌, refl, sym, ap, ◌∙◌}
use mathlib.Core.List.{List, ◌∷◌, []}
use mathlib.Core.Bool.{Bool, cond}
use native.Mathlib.Decide.{dec_le}
use native.Mathlib.Omega.{arith}
use lib.ListN.{length, take}
use lib.Seq.{sets, length-take-le, take_all}
use borrow.Author.Tests.{lt-ltb, le-ltb}
use Rattle.std.proofs.Common.{Ok}
use Rattle.tokens.specs.Pieces.{fields_of, word_of}
use Rattle.tokens.specs.Decimal.{numbers_in, found_in}
use Rattle.tokens.proofs.NumbersCounted as counted
use Rattle.replies.specs.Lines.{cannot, Says}
use Rattle.questions.specs.declared.State.{State}
use Rattle.questions.specs.Answers.{word_for, answer_to, answer_of}
use Rattle.questions.specs.Feeding.{at_end}
use Rattle.questions.specs.Promises.{line_of, Regular}

-- ---- numbers that are kept

module _ (line : List ℕ) {n : ℕ} (e : Ok n ≡ found_in (fields_of line)) where
  pub count_fits : length line ≤ 4000 → n ≤ 2000
  count_fits short = omega (arith, counted.count_most line n e)

  pub numbers-kept : (kept₀ kept : List ℕ) → kept ≡ sets kept₀ 0 (numbers_in (fields_of line)) → n ≤ length kept₀ → take n kept ≡ numbers_in (fields_of line)
  numbers-kept kept₀ kept k fits =
      ap (take n) k ∙ counted.kept-first (numbers_in (fields_of line)) kept₀ n (counted.count_is (fields_of line) n e) fits

-- ---- lines

module _ (line : List ℕ) where
  -- what a line is answered where it is too long, and where not
  abbrev by_length : Bool → List ℕ
  by_length t = cond t (cannot "the line has more than 4,000 bytes") (answer_to (word_for (word_of line)) line)

  pub too_long : 4000 < length line → cannot "the line has more than 4,000 bytes" ≡ answer_of line
  unfolding answer_of
  too_long h = sym (ap by_length (lt-ltb 4000 (length line) h))

  pub short-enough : length line ≤ 4000 → answer_to (word_for (word_of line)) line ≡ answer_of line
  unfolding answer_of
  short-enough h = sym (ap by_length (le-ltb 4000 (length line) h))

-- of a line that is too long one byte too many is enough
pub kept-answer : (line : List ℕ) → answer_of (take 4001 line) ≡ answer_of line
kept-answer line = go (dec_le (length line) 4001)
  where
    go : Dec (length line ≤ 4001) → answer_of (take 4001 line) ≡ answer_of line
    go (yes h) = ap answer_of (take_all 4001 line h)
    go (no h) =
        let kept : length (take 4001 line) ≡ 4001 = length-take-le 4001 line (omega arith) in
        sym (too_long (take 4001 line) (omega arith)) ∙ too_long line (omega arith)

-- ---- the end of the input

-- no byte has begun a line
pub none-begun : (out : List ℕ) (s : State) → s.count ≡ 0 → Says (at_end (line_of s)) out out 0
unfolding at_end
none-begun out s e =
    let none : at_end (line_of s) ≡ [] = ap (λ n. at_end (take n s.bytes)) e in
    record { stored = ap (sets out 0) (sym none); many = ap length (sym none); fits = omega arith }

at_end_of : (line : List ℕ) → 0 < length line → answer_of line ≡ at_end line
unfolding at_end
at_end_of [] h = absurd (omega arith)
at_end_of (b ∷ rest) h = refl

pub some-begun : (s : State) → Regular s → (s.count ≡ 0 → ⊥) → answer_of (line_of s) ≡ at_end (line_of s)
some-begun s r n = at_end_of (line_of s) (omega (arith, length-take-le s.count s.bytes (omega (arith, r.long, r.most)), n))
