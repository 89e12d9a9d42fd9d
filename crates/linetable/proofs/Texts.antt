-- The text of a line from its two parts. Assumes nothing.
use Prim.Native.Nat.{ℕ, ◌+◌, ◌-◌, ◌*◌, ◌/◌, ◌%◌, ◌≤◌, ◌<◌}
use mathlib.Core.Path.{◌≡◌, refl, ap, ◌∙◌}
use mathlib.Core.List.{List, ◌∷◌, [], ◌++◌}
use native.Mathlib.Nat.{mod-eq_of_lt}
use native.Mathlib.Omega.{arith}
use lib.ListN.{length, drop, length-append, length-drop, take-append-drop}
use lib.Seq.{drop-drop}
use Rattle.model.specs.Listing.{digit, decimal}
use Rattle.model.proofs.Decimal.{decimal-one, decimal-more}
use Rattle.calls.specs.Lines.{number_line}
use Rattle.linetable.specs.declared.Line.{Line}
use Rattle.linetable.specs.Lines.{four, text_of, Kept}

-- ---- four bytes

module _ (a b c d : ℕ) (ha : a < 256) (hb : b < 256) (hc : c < 256) (hd : d < 256) where
  abbrev packed : ℕ
  packed = a + 256 * b + 65536 * c + 16777216 * d

  pub four-packed : four packed ≡ a ∷ b ∷ c ∷ d ∷ []
  unfolding four
  four-packed =
      let from_second : packed / 256 ≡ b + 256 * c + 65536 * d = omega arith in
      let from-third : packed / 65536 ≡ c + 256 * d = omega arith in
      let first : packed % 256 ≡ a = omega arith in
      let second : (b + 256 * c + 65536 * d) % 256 ≡ b = omega arith in
      let third : (c + 256 * d) % 256 ≡ c = omega arith in
      let fourth : packed / 16777216 ≡ d = omega arith in
      λ j. first j ∷ (ap (◌% 256) from_second ∙ second) j ∷ (ap (◌% 256) from-third ∙ third) j ∷ fourth j ∷ []

pub length-four : (x : ℕ) → length (four x) ≡ 4
unfolding four
length-four x = refl

pub length-text : (l : Line) → length (text_of l) ≡ 4 + l.past % 4
unfolding text_of
length-text l =
    let a = length-append (four l.first) (drop (4 - l.past % 4) (four l.last)) in
    let b = length-drop (4 - l.past % 4) (four l.last) in
    let c = length-four l.first in
    let d = length-four l.last in
    omega arith

-- what is kept in a line is its text
pub kept-text : (text : List ℕ) (l : Line) → Kept text l → text_of l ≡ text
unfolding text_of
kept-text text l v =
    let few : l.past % 4 ≡ l.past = omega (arith, v.short) in
    let left : l.past + (4 - l.past) ≡ 4 = omega (arith, v.short) in
    rw (few, v.first_four, v.last_four, drop-drop (4 - l.past) l.past text, left) (take-append-drop 4 text)

-- ---- digits

decimal-two : (n : ℕ) → 10 ≤ n → n < 100 → decimal n ≡ digit (n / 10 % 10) ∷ digit (n % 10) ∷ []
decimal-two n h l =
    let tens : n / 10 < 10 = omega arith in
    decimal-more n h ∙ rw (decimal-one (n / 10) tens, mod-eq_of_lt tens)

decimal-three : (n : ℕ) → 100 ≤ n → n < 1000 → decimal n ≡ digit (n / 100) ∷ digit (n / 10 % 10) ∷ digit (n % 10) ∷ []
decimal-three n h l =
    let hundreds : n / 10 / 10 ≡ n / 100 = omega arith in
    let first = ap decimal hundreds ∙ decimal-one (n / 100) (omega arith) in
    let front = decimal-more (n / 10) (omega arith) ∙ ap (λ (s : List ℕ). s ++ (digit (n / 10 % 10) ∷ [])) first in
    decimal-more n (omega arith) ∙ ap (λ (s : List ℕ). s ++ (digit (n % 10) ∷ [])) front

-- ---- lines

module _ (letter n first : ℕ) where
  pub one-digit : n < 10 → four first ≡ letter ∷ 32 ∷ digit (n % 10) ∷ 10 ∷ []
      → Kept (number_line letter n) (record { first = first; last = first; past = 0 })
  one-digit h e =
      let is = rw (mod-eq_of_lt h) at e in
      rw (decimal-one n h) (record { first_four = is; last_four = is; long = refl; short = omega arith })

  pub two_digits : (last : ℕ) → 10 ≤ n → n < 100 → four first ≡ letter ∷ 32 ∷ digit (n / 10 % 10) ∷ digit (n % 10) ∷ []
      → four last ≡ 32 ∷ digit (n / 10 % 10) ∷ digit (n % 10) ∷ 10 ∷ []
      → Kept (number_line letter n) (record { first = first; last = last; past = 1 })
  two_digits last h l e f = rw (decimal-two n h l) (record { first_four = e; last_four = f; long = refl; short = omega arith })

  pub three-digits : (last : ℕ) → 100 ≤ n → n < 1000 → four first ≡ letter ∷ 32 ∷ digit (n / 100) ∷ digit (n / 10 % 10) ∷ []
      → four last ≡ digit (n / 100) ∷ digit (n / 10 % 10) ∷ digit (n % 10) ∷ 10 ∷ []
      → Kept (number_line letter n) (record { first = first; last = last; past = 2 })
  three-digits last h l e f = rw (decimal-three n h l) (record { first_four = e; last_four = f; long = refl; short = omega arith })
