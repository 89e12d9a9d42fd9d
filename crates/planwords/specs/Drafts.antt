-- Numbers as the draft of a plan. Assumes nothing.
use Rattle.std.specs.Prelude.{ℕ, ◌+◌, ◌-◌, ◌*◌, ◌%◌, ◌≤◌, ◌≡◌, List, length, get_or}
use Rattle.model.specs.Tables.{table}
use Rattle.limits.specs.declared.Wanted.{Wanted}
use Rattle.limits.specs.declared.Draft.{Draft}
use Rattle.planwords.specs.Plans.{flows_asked}

-- F, W and N, and four numbers for each flow
pub record WholeFlows (numbers : List ℕ) : Type 0 where
  pub header : 3 ≤ length numbers
  pub fours : (length numbers - 3) % 4 ≡ 0

abbrev pub wanted_at : List ℕ → ℕ → Wanted
wanted_at numbers i = record {
  share = get_or numbers (3 + 4 * i) 0;
  cells = get_or numbers (3 + 4 * i + 1) 0;
  source = get_or numbers (3 + 4 * i + 2) 0;
  destination = get_or numbers (3 + 4 * i + 3) 0;
}

-- a draft has sixteen entries, whatever is asked for
unfoldable pub draft_asked : List ℕ → Draft
draft_asked numbers = record {
  slots = get_or numbers 0 0;
  frames = get_or numbers 1 0;
  buffer = get_or numbers 2 0;
  count = flows_asked numbers;
  entries = table 16 (wanted_at numbers);
}
