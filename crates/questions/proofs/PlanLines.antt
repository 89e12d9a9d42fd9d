-- The two lines of a file that the reader takes, as whole inputs: each is answered with what the other asks by. RULES 20.1, 20.4, 20.5. Assumes nothing.
use Prim.Native.Nat.{ℕ, ◌≤◌}
use mathlib.Core.Path.{◌≡◌, refl, sym, ap, ◌∙◌}
use mathlib.Core.List.{List, ◌∷◌, [], ◌++◌, flat_map, append-nil}
use mathlib.Core.Bool.{Bool, true, false, not, ◌&&◌}
use native.Mathlib.Omega.{arith}
use lib.ListN.{length}
use Rattle.model.specs.Listing.{text}
use Rattle.model.specs.Plan.{Plan, plan_of, refusal}
use Rattle.model.specs.WrittenPlan.{bytes_of, AllBytes}
use Rattle.model.proofs.WrittenPlan.{written-again}
use Rattle.tokens.specs.Pieces.{before, piece_length, fields_of, word_of, each}
use Rattle.tokens.specs.Decimal.{is_digit, numbers_in}
use Rattle.tokens.specs.Hexadecimal.{hex_digit, is_hex_digit}
use Rattle.replies.specs.Lines.{hex, spaced}
use Rattle.planwords.specs.Reads.{plan_numbers}
use Rattle.planwords.specs.PlanLines.{asking_line, reading_line}
use Rattle.planwords.proofs.DecimalRead.{each_append, each-so, apart}
use Rattle.planwords.proofs.FieldsRead.{each-spaced}
use Rattle.planwords.proofs.PlanLines.{hex-digits, short-numbers, asking-most, reading-most, there_and_back}
use Rattle.questions.specs.declared.keywords.NumberWord.{NumberWord}
use Rattle.questions.specs.declared.keywords.Word.TheVariants.{OfNumbers, Read}
use Rattle.questions.specs.Answers.{same_text, row_named, words, word_for, answer_to_numbers, numbers_line, answer_to, answer_of}
use Rattle.questions.specs.Input.{is_newline, lines_of, answers_to}
use Rattle.questions.proofs.LineAnswers.{short-enough}

-- ---- one line alone

abbrev in_line : ℕ → Bool
in_line b = not (is_newline b)

one_line : (line : List ℕ) → each in_line line ≡ true → lines_of (line ++ text "\n") ≡ line ∷ []
unfolding lines_of
one_line [] all = refl
one_line (b ∷ line) all = go (in_line b) refl all (one_line line)
  where
    go : (t : Bool) → in_line b ≡ t → (t && each in_line line) ≡ true → (each in_line line ≡ true → lines_of (line ++ text "\n") ≡ line ∷ [])
        → lines_of ((b ∷ line) ++ text "\n") ≡ (b ∷ line) ∷ []
    go true passes more on = let no-newline : is_newline b ≡ false = apart in_line 10 refl b passes in rw no-newline (ap (before b) (on more))
    go false fault more on = let z : ◌≡◌ {A = ℕ} 0 1 = cc in absurd (omega arith)

answer-alone : (line : List ℕ) → each in_line line ≡ true → answers_to (line ++ text "\n") ≡ answer_of line
unfolding answers_to flat_map
answer-alone line all = ap (flat_map answer_of) (one_line line all) ∙ append-nil (answer_of line)

-- ---- the two lines

asking-in-line : (P : Plan) → refusal (bytes_of P) ≡ 0 → each in_line (asking_line P) ≡ true
unfolding asking_line
asking-in-line P taken =
    let numbers = each-spaced in_line refl (λ b e. ap not (apart is_digit 10 refl b e)) (plan_numbers P) (short-numbers P taken) in
    each_append in_line (text "plan") (flat_map spaced (plan_numbers P)) refl numbers

no-hex-newline : is_hex_digit 10 ≡ false
unfolding hex_digit
no-hex-newline = refl

reading-in-line : (b : List ℕ) → AllBytes b → each in_line (reading_line b) ≡ true
unfolding reading_line
reading-in-line b bytes =
    let digits = each-so is_hex_digit in_line (λ d e. ap not (apart is_hex_digit 10 no-hex-newline d e)) (hex b) (hex-digits b bytes) in
    each_append in_line (text "read ") (hex b) refl digits

asking-word : (P : Plan) → word_for (word_of (asking_line P)) ≡ OfNumbers NumberWord.Plan
unfolding asking_line plan_numbers flat_map piece_length row_named words same_text
asking-word P = refl

reading-word : (b : List ℕ) → word_for (word_of (reading_line b)) ≡ Read
unfolding reading_line piece_length row_named words same_text
reading-word b = refl

-- ---- both, as whole inputs

pub record PlanThereAndBack (bytes : List ℕ) : Type 0 where
  pub planned : answers_to (asking_line (plan_of bytes) ++ text "\n") ≡ hex bytes ++ text "\n"
  pub read : answers_to (reading_line bytes ++ text "\n") ≡ asking_line (plan_of bytes) ++ text "\n"

module _ (b : List ℕ) (bytes : AllBytes b) (taken : refusal b ≡ 0) where
  abbrev P : Plan
  P = plan_of b

  same : bytes_of P ≡ b
  same = written-again b taken bytes

  again : refusal (bytes_of P) ≡ 0
  again = ap refusal same ∙ taken

  asking-answer : answer_of (asking_line P) ≡ hex b ++ text "\n"
  unfolding answer_to answer_to_numbers
  asking-answer =
      let line = asking_line P in
      let both = there_and_back b bytes taken in
      sym (short-enough line (omega (arith, asking-most P again))) ∙ ap (λ w. answer_to w line) (asking-word P)
      ∙ ap (λ f. numbers_line f NumberWord.Plan (numbers_in (fields_of line))) both.found ∙ both.planned

  reading-answer : answer_of (reading_line b) ≡ asking_line P ++ text "\n"
  unfolding answer_to
  reading-answer =
      let line = reading_line b in
      let most : length line ≤ 157 = omega (arith, reading-most P again, ap (λ l. length (reading_line l)) same) in
      sym (short-enough line (omega arith)) ∙ ap (λ w. answer_to w line) (reading-word b) ∙ (there_and_back b bytes taken).read

  pub plan-there-and-back : PlanThereAndBack b
  plan-there-and-back = record {
    planned = answer-alone (asking_line P) (asking-in-line P again) ∙ asking-answer;
    read = answer-alone (reading_line b) (reading-in-line b bytes) ∙ reading-answer;
  }
