-- Numbers, each after a blank, are fields that are read as these numbers. RULES 20.2, 20.3. Assumes nothing.
use Prim.Native.Nat.{ℕ, zero, suc, ◌+◌, ◌*◌, ◌≤◌, ◌<◌}
use mathlib.Core.Path.{◌≡◌, refl, ap, ◌∙◌}
use mathlib.Core.List.{List, ◌∷◌, [], ◌++◌, map, flat_map}
use mathlib.Core.Bool.{Bool, true, false, ◌&&◌}
use native.Mathlib.Omega.{arith}
use lib.ListN.{length, get_or, length-append}
use Rattle.model.specs.Listing.{decimal}
use Rattle.std.specs.Prelude.{Ok}
use Rattle.tokens.specs.Pieces.{is_space, before, pieces, each}
use Rattle.tokens.specs.Decimal.{is_digit, number_then, numbers_in, found_then, found_in}
use Rattle.replies.specs.Lines.{spaced}
use Rattle.planwords.proofs.DecimalRead.{each_append, each-so, apart, nine-digits, decimal-read}

-- ---- numbers of nine digits at most

pub record AllShort (numbers : List ℕ) : Type 0 where
  pub short : (i : ℕ) → get_or numbers i 0 < 1000000000

pub one-short : {x : ℕ} {rest : List ℕ} → x < 1000000000 → AllShort rest → AllShort (x ∷ rest)
one-short {x} {rest} h s = record { short = go }
  where
    go : (i : ℕ) → get_or (x ∷ rest) i 0 < 1000000000
    go zero = h
    go (suc i) = s.short i

others : {x : ℕ} {rest : List ℕ} → AllShort (x ∷ rest) → AllShort rest
others s = record { short = λ i. s.short (suc i) }

-- ---- the pieces of a line

-- a piece that begins a line: no blank is in it
pub one_piece : (f : ℕ → Bool) → f 32 ≡ false → (w rest : List ℕ) (ps : List (List ℕ)) → each f w ≡ true → pieces rest ≡ [] ∷ ps → pieces (w ++ rest) ≡ w ∷ ps
unfolding pieces
one_piece f fails [] rest ps all e = e
one_piece f fails (b ∷ w) rest ps all e = go (f b) refl all (λ more. one_piece f fails w rest ps more e)
  where
    go : (t : Bool) → f b ≡ t → (t && each f w) ≡ true → (each f w ≡ true → pieces (w ++ rest) ≡ w ∷ ps) → pieces ((b ∷ w) ++ rest) ≡ (b ∷ w) ∷ ps
    go true passes more on = let no-blank : is_space b ≡ false = apart f 32 fails b passes in rw no-blank (ap (before b) (on more))
    go false fault more on = let z : ◌≡◌ {A = ℕ} 0 1 = cc in absurd (omega arith)

pub fields_are : (numbers : List ℕ) → AllShort numbers → pieces (flat_map spaced numbers) ≡ [] ∷ map decimal numbers
unfolding flat_map pieces
fields_are [] s = refl
fields_are (n ∷ rest) s =
    ap ([] ∷◌)
    (one_piece is_digit refl (decimal n) (flat_map spaced rest) (map decimal rest) (nine-digits n (s.short 0)).all (fields_are rest (others s)))

-- ---- the numbers of the fields

pub record ReadAs (fields : List (List ℕ)) (numbers : List ℕ) : Type 0 where
  pub found : found_in fields ≡ Ok (length numbers)
  pub are : numbers_in fields ≡ numbers

pub decimals-read : (numbers : List ℕ) → AllShort numbers → ReadAs (map decimal numbers) numbers
unfolding found_in numbers_in
decimals-read [] s = record { found = refl; are = refl }
decimals-read (n ∷ rest) s =
    let first = decimal-read n (s.short 0) in
    let on = decimals-read rest (others s) in
    let one_more : 1 + length rest ≡ suc (length rest) = omega arith in
    record {
      found = (λ k. found_then (first k) (on.found k)) ∙ ap Ok one_more;
      are = λ k. number_then (first k) (on.are k);
    }

-- where a test passes blanks and digits, it passes such numbers
pub each-spaced : (f : ℕ → Bool) → f 32 ≡ true → ((b : ℕ) → is_digit b ≡ true → f b ≡ true) → (numbers : List ℕ) → AllShort numbers
    → each f (flat_map spaced numbers) ≡ true
unfolding flat_map
each-spaced f blank digits [] s = refl
each-spaced f blank digits (n ∷ rest) s =
    let number = each-so is_digit f digits (decimal n) (nine-digits n (s.short 0)).all in
    each_append f (spaced n) (flat_map spaced rest) (λ k. blank k && number k) (each-spaced f blank digits rest (others s))

-- a number has ten bytes with its blank, or fewer
pub spaced-most : (numbers : List ℕ) → AllShort numbers → length (flat_map spaced numbers) ≤ 10 * length numbers
unfolding flat_map
spaced-most [] s = omega arith
spaced-most (n ∷ rest) s =
    omega (arith, length-append (spaced n) (flat_map spaced rest), (nine-digits n (s.short 0)).few, spaced-most rest (others s))
