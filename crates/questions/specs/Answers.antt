-- The answer to a line: its word decides who answers. Assumes nothing.
use Rattle.std.specs.Prelude.{ℕ, List, ◌∷◌, [], Bool, true, false, ◌&&◌, cond, length, ltb, eqb, Result, Ok, Err}
use Prim.Native.String.{String}
use Rattle.model.specs.Listing.{text}
use Rattle.tokens.specs.declared.Fault.{Fault}
use Rattle.tokens.specs.Pieces.{fields_of, word_of, after_word}
use Rattle.tokens.specs.Decimal.{numbers_in, found_in}
use Rattle.replies.specs.Lines.{cannot, fault_line}
use Rattle.planwords.specs.Plans.{answer_to_plan, answer_to_room}
use Rattle.planwords.specs.Reads.{digits_line}
use Rattle.meshwords.specs.Answers.{answer_to_mesh, answer_to_over}
use Rattle.sharewords.specs.CountWord.{answer_to_count}
use Rattle.extrawords.specs.ExtrasWord.{answer_to_extras}
use Rattle.programmewords.specs.Programmes.{answer_to_programme}
use Rattle.delaywords.specs.DelayWord.{answer_to_delay}
use Rattle.faultwords.specs.FaultsWord.{answer_to_faults}
use Rattle.weekwords.specs.WeekWord.{answer_to_week_faults}
use Rattle.questions.specs.declared.keywords.NumberWord.{NumberWord}
use Rattle.questions.specs.declared.keywords.Word.{Word}
use Rattle.questions.specs.declared.keywords.Word.TheVariants.{OfNumbers, Read, Unknown}

-- whether two texts are the same
unfoldable pub same_text : List ℕ → List ℕ → Bool
same_text [] [] = true
same_text [] (y ∷ ys) = false
same_text (x ∷ xs) [] = false
same_text (x ∷ xs) (y ∷ ys) = eqb x y && same_text xs ys

-- ---- the words. RULES 20.2: "one of the eleven of 20.4, in small letters"

pub record Row : Type 0 where
  pub name : String
  pub word : Word

abbrev row : String → NumberWord → Row
row name word = record { name = name; word = OfNumbers word }

unfoldable pub words : List Row
words =
    row "plan" NumberWord.Plan
    ∷ row "room" NumberWord.Room
    ∷ record { name = "read"; word = Read }
    ∷ row "mesh" NumberWord.Mesh
    ∷ row "mesh-over" NumberWord.MeshOver
    ∷ row "count" NumberWord.Count
    ∷ row "extras" NumberWord.Extras
    ∷ row "programme" NumberWord.Programme
    ∷ row "delay" NumberWord.Delay
    ∷ row "faults" NumberWord.Faults
    ∷ row "week-faults" NumberWord.WeekFaults
    ∷ []

-- the word of the first row with this name
unfoldable pub row_named : List ℕ → List Row → Word
row_named name [] = Unknown
row_named name (r ∷ rest) = cond (same_text name (text r.name)) r.word (row_named name rest)

abbrev pub word_for : List ℕ → Word
word_for name = row_named name words

-- ---- the answers. RULES 20.4: each word's own definition

unfoldable pub answer_to_numbers : NumberWord → (numbers : List ℕ) → List ℕ
answer_to_numbers NumberWord.Plan numbers = answer_to_plan numbers
answer_to_numbers NumberWord.Room numbers = answer_to_room numbers
answer_to_numbers NumberWord.Mesh numbers = answer_to_mesh numbers
answer_to_numbers NumberWord.MeshOver numbers = answer_to_over numbers
answer_to_numbers NumberWord.Count numbers = answer_to_count numbers
answer_to_numbers NumberWord.Extras numbers = answer_to_extras numbers
answer_to_numbers NumberWord.Programme numbers = answer_to_programme numbers
answer_to_numbers NumberWord.Delay numbers = answer_to_delay numbers
answer_to_numbers NumberWord.Faults numbers = answer_to_faults numbers
answer_to_numbers NumberWord.WeekFaults numbers = answer_to_week_faults numbers

-- RULES 20.6.3: the first field that is no number comes before what the word asks for
abbrev pub numbers_line : Result ℕ Fault → NumberWord → (numbers : List ℕ) → List ℕ
numbers_line (Ok n) word numbers = answer_to_numbers word numbers
numbers_line (Err fault) word numbers = fault_line fault

unfoldable pub answer_to : Word → (line : List ℕ) → List ℕ
answer_to (OfNumbers word) line = numbers_line (found_in (fields_of line)) word (numbers_in (fields_of line))
answer_to Read line = digits_line (after_word line)
answer_to Unknown line = cannot "the first word is none of plan, room, read, mesh, mesh-over, count, extras, programme, delay, faults and week-faults"

-- the answer to a line. RULES 20.6.1
unfoldable pub answer_of : (line : List ℕ) → List ℕ
answer_of line = cond (ltb 4000 (length line)) (cannot "the line has more than 4,000 bytes") (answer_to (word_for (word_of line)) line)
