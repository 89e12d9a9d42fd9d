-- A number's decimal digits are read as this number. RULES 20.3. Assumes nothing.
use Prim.Native.Nat.{ℕ, zero, suc, ◌+◌, ◌-◌, ◌*◌, ◌/◌, ◌%◌, ◌^◌, ◌≤◌, ◌<◌}
use mathlib.Core.Path.{◌≡◌, refl, sym, ap, ◌∙◌}
use mathlib.Core.List.{List, ◌∷◌, [], ◌++◌}
use mathlib.Core.Bool.{Bool, true, false, ◌&&◌}
use native.Mathlib.Decide.{dec_lt}
use native.Mathlib.Nat.{pow-suc}
use native.Mathlib.Omega.{arith}
use lib.ListN.{length}
use lib.Dec.{eqb}
use borrow.Author.Tests.{eqb-true, le-ltb, le-leb, ne_eqb}
use Rattle.model.specs.Listing.{digit, decimal}
use Rattle.model.proofs.Decimal.{decimal-one, decimal-more, value, decimal-read-back}
use Rattle.std.specs.Prelude.{Ok}
use Rattle.tokens.specs.Pieces.{each}
use Rattle.tokens.specs.Decimal.{is_digit, value_from, number_of}
use Rattle.replies.proofs.DecimalLength.{length-one, length_more}

-- ---- a test of each byte

pub each_append : (f : ℕ → Bool) (xs ys : List ℕ) → each f xs ≡ true → each f ys ≡ true → each f (xs ++ ys) ≡ true
each_append f [] ys all more = more
each_append f (x ∷ xs) ys all more = go (f x) refl all (λ rest. each_append f xs ys rest more)
  where
    go : (t : Bool) → f x ≡ t → (t && each f xs) ≡ true → (each f xs ≡ true → each f (xs ++ ys) ≡ true) → each f ((x ∷ xs) ++ ys) ≡ true
    go true e rest on = rw e (on rest)
    go false e rest on = let z : ◌≡◌ {A = ℕ} 0 1 = cc in absurd (omega arith)

-- where one test passes another does
pub each-so : (f g : ℕ → Bool) → ((b : ℕ) → f b ≡ true → g b ≡ true) → (l : List ℕ) → each f l ≡ true → each g l ≡ true
each-so f g so [] all = refl
each-so f g so (b ∷ l) all = go (f b) refl all (each-so f g so l)
  where
    go : (t : Bool) → f b ≡ t → (t && each f l) ≡ true → (each f l ≡ true → each g l ≡ true) → each g (b ∷ l) ≡ true
    go true e rest on = rw (so b e) (on rest)
    go false e rest on = let z : ◌≡◌ {A = ℕ} 0 1 = cc in absurd (omega arith)

-- a byte that fails a test is none of those that pass it
pub apart : (f : ℕ → Bool) (c : ℕ) → f c ≡ false → (b : ℕ) → f b ≡ true → eqb b c ≡ false
apart f c fails b passes = go (eqb b c) refl
  where
    go : (t : Bool) → eqb b c ≡ t → eqb b c ≡ false
    go true e =
        let z : ◌≡◌ {A = Bool} false true = sym fails ∙ ap f (sym (eqb-true b c e)) ∙ passes in
        let y : ◌≡◌ {A = ℕ} 0 1 = cc in
        absurd (omega arith)
    go false e = e

-- ---- the digits of a number

digit-passes : (d : ℕ) → d < 10 → is_digit (digit d) ≡ true
digit-passes d h =
    let low = le-leb 48 (48 + d) (omega arith) in
    let high = le-leb (48 + d) 57 (omega arith) in
    λ k. low k && high k

-- some digits, not too many, and no other byte
pub record Digits (most n : ℕ) : Type 0 where
  pub some : 1 ≤ length (decimal n)
  pub few : length (decimal n) ≤ most
  pub all : each is_digit (decimal n) ≡ true

one-digit : (k n : ℕ) → n < 10 → Digits (suc k) n
one-digit k n h = record {
  some = omega (arith, length-one n h);
  few = omega (arith, length-one n h);
  all = ap (each is_digit) (decimal-one n h) ∙ ap (◌&& true) (digit-passes n h);
}

digits_of : (k n : ℕ) → n < 10 ^ suc k → Digits (suc k) n
digits_of zero n h = one-digit zero n (omega arith)
digits_of (suc k) n h = go (dec_lt n 10) (digits_of k (n / 10))
  where
    go : Dec (n < 10) → (n / 10 < 10 ^ suc k → Digits (suc k) (n / 10)) → Digits (suc (suc k)) n
    go (yes l) fewer = one-digit (suc k) n l
    go (no l) fewer =
        let less : n / 10 < 10 ^ suc k = omega (arith, pow-suc 10 (suc k)) in
        let first = fewer less in
        let long = length_more n (omega arith) in
        let last = ap (◌&& true) (digit-passes (n % 10) (omega arith)) in
        record {
          some = omega (arith, long);
          few = omega (arith, long, first.few);
          all = ap (each is_digit) (decimal-more n (omega arith)) ∙ each_append is_digit (decimal (n / 10)) (digit (n % 10) ∷ []) first.all last;
        }

pub nine-digits : (n : ℕ) → n < 1000000000 → Digits 9 n
nine-digits n h = digits_of 8 n (omega arith)

-- ---- the number of the digits

same-value : (v : ℕ) (l : List ℕ) → value_from v l ≡ value v l
unfolding value_from
same-value v [] = refl
same-value v (b ∷ l) = same-value (v * 10 + (b - 48)) l

pub decimal-read : (n : ℕ) → n < 1000000000 → number_of (decimal n) ≡ Ok n
unfolding number_of
decimal-read n h =
    let d = nine-digits n h in
    let many = ne_eqb (length (decimal n)) 0 (λ e. absurd (omega (arith, d.some))) in
    rw (many, d.all, le-ltb 9 (length (decimal n)) d.few) (ap Ok (same-value 0 (decimal n) ∙ decimal-read-back n))
