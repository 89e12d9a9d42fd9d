-- Numbers as what the choice is given. Assumes nothing.
use Rattle.std.specs.Prelude.{ℕ, ◌+◌, ◌*◌, List, get_or}
use Rattle.model.specs.Tables.{table}
use Rattle.extras.specs.declared.Extras.{Extras}
use Rattle.extrawords.specs.ExtrasWord.{layers_asked}

-- there are twelve places, whatever is asked for
unfoldable pub struct_asked : List ℕ → Extras
struct_asked numbers = record {
  slots = get_or numbers 0 0;
  budget = get_or numbers 1 0;
  count = layers_asked numbers;
  shares = table 12 (λ i. get_or numbers (2 + 2 * i) 0);
  worths = table 12 (λ i. get_or numbers (3 + 2 * i) 0);
}
