-- The two lines of a plan's file: the one that asks for it, and the one that asks what it is. RULES 20.4, 20.5. Assumes nothing.
use Rattle.std.specs.Prelude.{ℕ, ◌≡◌, length, Ok}
use mathlib.Core.List.{List, ◌++◌, flat_map}
use Rattle.model.specs.Listing.{text}
use Rattle.model.specs.Plan.{Plan, plan_of}
use Rattle.tokens.specs.Pieces.{fields_of, after_word}
use Rattle.tokens.specs.Decimal.{numbers_in, found_in}
use Rattle.replies.specs.Lines.{hex, spaced}
use Rattle.planwords.specs.Plans.{answer_to_plan}
use Rattle.planwords.specs.Reads.{plan_numbers, digits_line}

-- RULES 20.4: `plan` and the plan's numbers, each after a blank
unfoldable pub asking_line : Plan → List ℕ
asking_line P = text "plan" ++ flat_map spaced (plan_numbers P)

-- RULES 20.5: `read`, a blank and the bytes in digits
unfoldable pub reading_line : (bytes : List ℕ) → List ℕ
reading_line bytes = text "read " ++ hex bytes

-- Each of the two lines is answered with what the other asks by. The first has as many numbers as the plan, and none of its fields is wrong.
pub record ThereAndBack (bytes : List ℕ) : Type 0 where
  pub found : found_in (fields_of (asking_line (plan_of bytes))) ≡ Ok (length (plan_numbers (plan_of bytes)))
  pub planned : answer_to_plan (numbers_in (fields_of (asking_line (plan_of bytes)))) ≡ hex bytes ++ text "\n"
  pub read : digits_line (after_word (reading_line bytes)) ≡ asking_line (plan_of bytes) ++ text "\n"
