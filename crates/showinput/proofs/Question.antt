-- The question of an input, and its answer. Assumes nothing.
use Prim.Native.Nat.{ℕ, ◌+◌, ◌-◌, ◌≤◌, ◌<◌}
use mathlib.Core.Path.{◌≡◌, refl, sym, ap, ◌∙◌}
use mathlib.Core.List.{List, ◌∷◌, []}
use mathlib.Core.Bool.{Bool, true, false, cond, ◌&&◌}
use native.Mathlib.Decide.{dec_le}
use native.Mathlib.Omega.{arith}
use lib.ListN.{length, take, drop, drop_of_length-le}
use lib.Seq.{sets, take_all, take-length, length-take-le, drop-cons}
use lib.Pointwise.{pointwise}
use lib.Dec.{eqb}
use borrow.Author.Tests.{lt-ltb, le-ltb}
use denote.Ref.{Bor}
use Rattle.std.specs.Prelude.{Ok, Option, None, Some, MatchOption, nat_eq}
use Rattle.std.specs.Option.{unwrap_or}
use Rattle.tokens.specs.Pieces.{fields_of}
use Rattle.tokens.specs.Decimal.{numbers_in, found_in}
use Rattle.tokens.proofs.NumbersCounted as counted
use Rattle.replies.specs.Lines.{cannot}
use Rattle.showinput.specs.Input.{last_of, question_of, question_line, answer_to, kept}

-- ---- where the question ends

-- whether a newline ends the input
newline-ends : (input : List ℕ) → pointwise nat_eq (drop (length input - 1) input) (10 ∷ []) ≡ eqb (last_of input) 10
newline-ends [] = refl
newline-ends (b ∷ rest) =
    let input = b ∷ rest in
    let last : drop (length input - 1) input ≡ last_of input ∷ [] =
    drop-cons input (length input - 1) 0 (omega arith) ∙ ap (λ l. last_of input ∷ l) (drop_of_length-le rest (omega arith)) in
    ap (λ l. pointwise nat_eq l (10 ∷ [])) last ∙ go (eqb (last_of input) 10)
  where
    go : (t : Bool) → (t && true) ≡ t
    go true = refl
    go false = refl

-- without a newline at its end, or all of it where it has none
pub stripped : (input : Bor (List ℕ)) (before : Option (Bor (List ℕ)))
    → MatchOption before (pointwise nat_eq (drop (length input.now - 1) input.now) (10 ∷ []) ≡ false)
    (λ x. (pointwise nat_eq (drop (length input.now - 1) input.now) (10 ∷ []) ≡ true) × (x.now ≡ take (length input.now - 1) input.now) × (length x.now + 1 ≡ length input.now))
    → take (length (unwrap_or before input).now) input.now ≡ question_of input.now
unfolding question_of
stripped input None e = take-length input.now ∙ sym (rw (sym (newline-ends input.now) ∙ e))
stripped input (Some x) e =
    let but_one : length x.now ≡ length input.now - 1 = omega (arith, e.2) in
    ap (λ n. take n input.now) but_one ∙ sym (rw (sym (newline-ends input.now) ∙ e.0))

pub end-long : (input : List ℕ) (end : ℕ) → end ≤ length input → take end input ≡ question_of input → length (question_of input) ≡ end
end-long input end h e = sym (ap length e) ∙ length-take-le end input h

module _ (input : List ℕ) where
  -- at most a byte is no part of it
  pub one_less : length input - 1 ≤ length (question_of input)
  unfolding question_of
  one_less = go (eqb (last_of input) 10)
    where
      go : (t : Bool) → length input - 1 ≤ length (cond t (take (length input - 1) input) input)
      go true = omega (arith, length-take-le (length input - 1) input (omega arith))
      go false = omega arith

  -- ---- the answer

  abbrev by_length : Bool → List ℕ
  by_length t = cond t (cannot "the question has more than 4,000 bytes") (question_line (question_of input))

  pub too_long : 4000 < length (question_of input) → cannot "the question has more than 4,000 bytes" ≡ answer_to input
  unfolding answer_to
  too_long h = sym (ap by_length (lt-ltb 4000 (length (question_of input)) h))

  pub short-enough : length (question_of input) ≤ 4000 → question_line (question_of input) ≡ answer_to input
  unfolding answer_to
  short-enough h = sym (ap by_length (le-ltb 4000 (length (question_of input)) h))

-- of an input that is too long the first bytes are enough
pub kept-answer : (input : List ℕ) → answer_to (kept input) ≡ answer_to input
kept-answer input = go (dec_le (length input) 4002)
  where
    go : Dec (length input ≤ 4002) → answer_to (kept input) ≡ answer_to input
    go (yes h) = ap answer_to (take_all 4002 input h)
    go (no h) =
        let long : length (kept input) ≡ 4002 = length-take-le 4002 input (omega arith) in
        sym (too_long (kept input) (omega (arith, long, one_less (kept input)))) ∙ too_long input (omega (arith, one_less input))

-- ---- numbers that are read

module _ (question : List ℕ) {n : ℕ} (e : Ok n ≡ found_in (fields_of question)) where
  pub count_fits : length question ≤ 4000 → n ≤ 2000
  count_fits short = omega (arith, counted.count_most question n e)

  pub numbers-kept : (kept₀ kept : List ℕ) → kept ≡ sets kept₀ 0 (numbers_in (fields_of question)) → n ≤ length kept₀ → take n kept ≡ numbers_in (fields_of question)
  numbers-kept kept₀ kept k fits =
      ap (take n) k ∙ counted.kept-first (numbers_in (fields_of question)) kept₀ n (counted.count_is (fields_of question) n e) fits
