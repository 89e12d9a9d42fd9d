-- The line that answers the word `extras`. Assumes nothing.
use Prim.Native.Nat.{ℕ, ◌+◌, ◌*◌, ◌-◌, ◌%◌, ◌≤◌, ◌<◌}
use mathlib.Core.Path.{◌≡◌, sym, ap, ◌∙◌}
use mathlib.Core.List.{List}
use native.Mathlib.Decide.{dec_le}
use native.Mathlib.Omega.{arith}
use lib.ListN.{length, get_or}
use borrow.Author.Tests.{lt-ltb, le-ltb, eq-eqb, ne_eqb}
use Rattle.model.specs.Tables.{table}
use Rattle.model.proofs.Tables.{length-table, get_d-table, table_same}
use Rattle.extras.specs.declared.Extras as given
use Rattle.extras.specs.Extras.{layer_count, choose}
use Rattle.extras.specs.Reading.{extras_for, layer_with}
use Rattle.extras.proofs.Promises.{many-refused}
use Rattle.replies.specs.Lines.{cannot}
use Rattle.extrawords.specs.ExtrasWord.{layers_asked, layer_asked, extras_asked, chosen_line, answer_to_extras}
use Rattle.extrawords.specs.Asked.{struct_asked}

-- up to twelve layers what the choice is given is what is asked
few-asked : (numbers : List ℕ) → layers_asked numbers ≤ 12 → extras_for (struct_asked numbers) ≡ extras_asked numbers
unfolding struct_asked
few-asked numbers few =
    let every : (from i : ℕ) → i < layers_asked numbers → get_or (table 12 (λ j. get_or numbers (from + 2 * j) 0)) i 0 ≡ get_or numbers (from + 2 * i) 0
    = λ from i l. get_d-table 12 (λ j. get_or numbers (from + 2 * j) 0) i 0 (omega arith) in
    let layers = table_same (layers_asked numbers) _ (layer_asked numbers) (λ i l k. layer_with (every 2 i l k) (every 3 i l k)) in
    λ k. record { slots = get_or numbers 0 0; budget = get_or numbers 1 0; layers = layers k }

-- and with more of them both are refused
same-choice : (numbers : List ℕ) → choose (extras_for (struct_asked numbers)) ≡ choose (extras_asked numbers)
unfolding struct_asked
same-choice numbers = go (dec_le (layers_asked numbers) 12)
  where
    go : Dec (layers_asked numbers ≤ 12) → choose (extras_for (struct_asked numbers)) ≡ choose (extras_asked numbers)
    go (yes few) = ap choose (few-asked numbers few)
    go (no many) =
        let given : layer_count (extras_for (struct_asked numbers)) ≡ layers_asked numbers = length-table (layers_asked numbers) _ in
        let asked : layer_count (extras_asked numbers) ≡ layers_asked numbers = length-table (layers_asked numbers) (layer_asked numbers) in
        many-refused (extras_for (struct_asked numbers)) (omega arith) ∙ sym (many-refused (extras_asked numbers) (omega arith))

module _ (numbers : List ℕ) where
  pub start-missing : length numbers < 2 → cannot "the slots or the budget is missing" ≡ answer_to_extras numbers
  unfolding answer_to_extras
  start-missing h = rw (lt-ltb (length numbers) 2 h)

  pub no_pairs : 2 ≤ length numbers → ((length numbers - 2) % 2 ≡ 0 → ⊥)
      → cannot "each layer has a share and a worth: the numbers after the budget are no multiple of two" ≡ answer_to_extras numbers
  unfolding answer_to_extras
  no_pairs h n = rw (le-ltb (length numbers) 2 h, ne_eqb ((length numbers - 2) % 2) 0 n)

  pub chosen-line : {x : given.Extras} → 2 ≤ length numbers → (length numbers - 2) % 2 ≡ 0 → x ≡ struct_asked numbers
      → chosen_line (choose (extras_for x)) ≡ answer_to_extras numbers
  unfolding answer_to_extras
  chosen-line {x} h e s =
      ap (λ y. chosen_line (choose (extras_for y))) s ∙ ap chosen_line (same-choice numbers) ∙ rw (le-ltb (length numbers) 2 h, eq-eqb ((length numbers - 2) % 2) 0 e)
