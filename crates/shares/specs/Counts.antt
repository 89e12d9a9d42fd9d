-- How many plans fit: numbers of lists, however they are come by. RULES 17.1 and 17.2. Assumes nothing.
use Rattle.std.specs.Prelude.{ℕ, Bool, not, ◌||◌, cond, Option, Some, None}
use Rattle.model.specs.Tables.{within, tally}
use Rattle.model.specs.Refusals.{condition}
use Rattle.model.specs.Calls.{Answer, accepted, refused}
use Rattle.shares.specs.ShareLists.{share_lists, share_test}
use Rattle.shares.specs.declared.Counted.{Counted}

pub record Counts : Type 0 where
  pub accepts : ℕ
  pub refuses : ℕ

-- RULES 17.1: how many lists pass the share test
unfoldable pub accepted_lists : (F n : ℕ) → ℕ
accepted_lists F n = tally (λ shares. not (condition (share_test F shares))) (share_lists F n)

-- RULES 17.1: how many lists fail it, by 6
unfoldable pub refused_lists : (F n : ℕ) → ℕ
refused_lists F n = tally (λ shares. condition (share_test F shares)) (share_lists F n)

-- RULES 17.2: 26, where F is not 1 to 16 or n is not 1 to 8
abbrev pub out_of_range : (F n : ℕ) → Bool
out_of_range F n = not (within 1 16 F) || not (within 1 8 n)

-- RULES 17.1 and 17.2: the answer for F and n, both numbers, or the refusal
unfoldable pub counted : (F n : ℕ) → Answer Counts
counted F n = cond (out_of_range F n) (refused 26) (accepted (record { accepts = accepted_lists F n; refuses = refused_lists F n }))

-- the code's answer as the definition's: none is refusal 26
abbrev pub answer_for : Option Counted → Answer Counts
answer_for (Some c) = accepted (record { accepts = c.accepts; refuses = c.refuses })
answer_for None = refused 26
