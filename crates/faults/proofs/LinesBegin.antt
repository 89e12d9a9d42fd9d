-- How a line of faults begins. Assumes nothing.
use Prim.Native.Nat.{ℕ, ◌≤◌, ◌<◌}
use mathlib.Core.Path.{◌≡◌, ap, ◌∙◌}
use mathlib.Core.List.{List, ◌∷◌, ◌++◌, flat_map, append_assoc}
use native.Mathlib.Decide.{dec_lt}
use native.Mathlib.Omega.{arith}
use lib.ListN.{length, length-append}
use Rattle.model.specs.Listing.{text, decimal}
use Rattle.replies.specs.Lines.{spaced}
use Rattle.replies.proofs.DecimalLength.{length-one, length_more}
use Rattle.faults.specs.Told.{faults_line, Begins}

regroup : (d s p m n : List ℕ) → d ++ ((s ++ p) ++ m) ++ n ≡ d ++ s ++ (p ++ (m ++ n))
regroup d s p m n = simp append_assoc

pub begins-line : {r : ℕ} {faults : List ℕ} → (b : Begins r faults)
    → faults_line faults ≡ decimal r ++ text " " ++ (decimal b.place ++ (flat_map spaced (b.which ∷ b.others) ++ text "\n"))
unfolding flat_map
begins-line {r} b = ap faults_line b.is ∙ regroup (decimal r) (text " ") (decimal b.place) (flat_map spaced (b.which ∷ b.others)) (text "\n")

some-digit : (n : ℕ) → 1 ≤ length (decimal n)
some-digit n = go (dec_lt n 10)
  where
    go : Dec (n < 10) → 1 ≤ length (decimal n)
    go (yes h) = omega (arith, length-one n h)
    go (no h) = omega (arith, length_more n (omega arith))

-- a line of faults is longer than the word for none
pub not-ok : (r place which : ℕ) (others : List ℕ) → faults_line (r ∷ place ∷ which ∷ others) ≡ text "ok\n" → ⊥
unfolding flat_map
not-ok r place which others e =
    let rest = spaced which ++ flat_map spaced others in
    let long = ap length e in
    omega (
      arith,
      long,
      length-append (decimal r ++ (spaced place ++ rest)) (text "\n"),
      length-append (decimal r) (spaced place ++ rest),
      length-append (spaced place) rest,
      length-append (text " ") (decimal place),
      length-append (spaced which) (flat_map spaced others),
      length-append (text " ") (decimal which),
      some-digit r,
      some-digit place,
      some-digit which,
    )
