-- The answers to F and streams, by the tests on the way. Assumes nothing.
use Prim.Native.Nat.{ℕ, zero, suc, ◌-◌, ◌%◌}
use mathlib.Core.Path.{◌≡◌, refl, ap, ◌∙◌}
use mathlib.Core.List.{List}
use mathlib.Core.Bool.{Bool}
use native.Mathlib.Omega.{arith}
use lib.ListN.{length, get_or, take, drop, length-drop}
use lib.Seq.{take_all}
use borrow.Author.Tests.{eq-eqb, ne_eqb}
use Rattle.model.specs.Listing.{refusal_line}
use Rattle.replies.specs.Lines.{cannot}
use Rattle.mesh.specs.Reading.{streams_of}
use Rattle.meshwords.specs.Answers.{admission_line, mesh_line, mesh_answer}

-- a refusal's line
pub refused-line : (r n : ℕ) → r ≡ n → (r ≡ 0 → ⊥) → refusal_line r ≡ admission_line n
refused-line zero n e some = absurd (some refl)
refused-line (suc r) n e some = ap admission_line e

module _ (over : Bool) (numbers : List ℕ) where
  pub slots-missing : length numbers ≡ 0 → cannot "F is missing" ≡ mesh_answer over numbers
  unfolding mesh_answer
  slots-missing e = rw (eq-eqb (length numbers) 0 e)

  pub no-threes : (length numbers ≡ 0 → ⊥) → ((length numbers - 1) % 3 ≡ 0 → ⊥)
      → cannot "each stream has a source, a destination and a share: the numbers after F are no multiple of three" ≡ mesh_answer over numbers
  unfolding mesh_answer
  no-threes some odd = rw (ne_eqb (length numbers) 0 some, ne_eqb ((length numbers - 1) % 3) 0 odd)

  -- the streams are the numbers after F
  pub whole-streams : (length numbers ≡ 0 → ⊥) → (length numbers - 1) % 3 ≡ 0
      → mesh_line over (get_or numbers 0 0) (streams_of (take (length numbers - 1) (drop 1 numbers))) ≡ mesh_answer over numbers
  unfolding mesh_answer
  whole-streams some threes =
      ap (λ rest. mesh_line over (get_or numbers 0 0) (streams_of rest)) (take_all (length numbers - 1) (drop 1 numbers) (omega (arith, length-drop 1 numbers)))
      ∙ rw (ne_eqb (length numbers) 0 some, eq-eqb ((length numbers - 1) % 3) 0 threes)
