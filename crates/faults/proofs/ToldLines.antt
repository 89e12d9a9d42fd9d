-- Faults that are stored one after another, and numbers that are put into a line. Assumes nothing.
use Prim.Native.Nat.{ℕ, ◌+◌, ◌-◌, ◌*◌, ◌≤◌, ◌<◌}
use mathlib.Core.Path.{◌≡◌, sym, ap, ◌∙◌}
use mathlib.Core.List.{List, ◌∷◌, [], ◌++◌, flat_map}
use native.Mathlib.Numerals.{add-one}
use native.Mathlib.Omega.{arith}
use lib.ListN.{length, get_or, take, drop}
use lib.Seq.{take-suc, take-length, take_all}
use Rattle.std.proofs.Common.{Some, slice_get}
use Rattle.calls.specs.Lines.{Puts}
use Rattle.calls.proofs.Stores.{puts_none, puts_then, puts-same}
use Rattle.tokens.proofs.NumbersCounted.{kept-first}
use Rattle.replies.specs.Lines.{spaced}
use Rattle.model.specs.Listing.{text, decimal}
use Rattle.faults.specs.Told.{faults_line}
use Rattle.faults.proofs.Lists.{flat-last}

-- numbers that are stored from the start on stand there
pub found-first : {xs before after : List ℕ} {count : ℕ} → Puts xs before after 0 count → count ≤ length before → take count after ≡ xs
found-first {xs} {before} {count = count} p room = ap (take count) p.stored ∙ kept-first xs before count (omega (arith, p.up_to)) room

-- the numbers before number i are put
pub record PutTo (numbers before after : List ℕ) (at next i : ℕ) : Type 0 where
  pub within : i ≤ length numbers
  pub puts : Puts (flat_map spaced (take i numbers)) before after at next
  pub most : next ≤ at + 21 * i

pub none-put : (numbers out : List ℕ) (at : ℕ) → PutTo numbers out out at at 0
unfolding flat_map
none-put numbers out at = record { within = omega arith; puts = puts_none out at; most = omega arith }

module _ {numbers before after : List ℕ} {at next i : ℕ} (s : PutTo numbers before after at next i) where
  one_more : i < length numbers → flat_map spaced (take i numbers) ++ spaced (get_or numbers i 0) ≡ flat_map spaced (take (i + 1) numbers)
  one_more h =
      sym (flat-last spaced (take i numbers) (get_or numbers i 0))
      ∙ ap (flat_map spaced) (sym (take-suc numbers i 0 h) ∙ ap (λ k. take k numbers) (sym (add-one i)))

  pub one-put : {after' : List ℕ} {next' : ℕ} → i < length numbers → Puts (spaced (get_or numbers i 0)) after after' next next' → next' ≤ next + 21
      → PutTo numbers before after' at next' (i + 1)
  one-put h p m = record { within = omega arith; puts = puts-same (one_more h) (puts_then s.puts p); most = omega (arith, s.most) }

  pub all-put : length numbers ≤ i → Puts (flat_map spaced numbers) before after at next
  all-put h =
      let all : i ≡ length numbers = omega (arith, s.within) in
      puts-same (ap (λ k. flat_map spaced (take k numbers)) all ∙ ap (flat_map spaced) (take-length numbers)) s.puts

-- ---- the line

-- a line that begins with the first of some numbers
pub some-line : (found : List ℕ) (number : ℕ) → Some number ≡ slice_get found 0
    → decimal number ++ flat_map spaced (take (length found - 1) (drop 1 found)) ++ text "\n" ≡ faults_line found
some-line [] number e = cc
some-line (n ∷ rest) number e =
    let same : number ≡ n = cc in
    (λ i. decimal (same i) ++ flat_map spaced (take_all (length (n ∷ rest) - 1) rest (omega arith) i) ++ text "\n")
