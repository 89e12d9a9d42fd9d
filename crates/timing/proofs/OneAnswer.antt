-- What contracts say of a file that is taken apart leaves one answer. Assumes nothing.
use Rattle.std.proofs.Common.{◌≡◌, ℕ, ◌<◌, List, sym, ap, ◌∙◌, true≢false, arith}
use native.Mathlib.Decide.{dec_lt}
use Rattle.timing.specs.File.{kind_at, word_at, filled, Split, Streak}

-- two numbers, of which neither is below the other
neither : (r s : ℕ) → (r < s → ⊥) → (s < r → ⊥) → r ≡ s
neither r s a b = go (dec_lt r s) (dec_lt s r)
  where
    go : Dec (r < s) → Dec (s < r) → r ≡ s
    go (yes d) f = absurd (a d)
    go (no d) (yes f) = absurd (b f)
    go (no d) (no f) = omega arith

module _ {kinds : List ℕ} {from count : ℕ} where
  streak-apart : {r s : ℕ} → Streak kinds from count r → Streak kinds from count s → r < s → ⊥
  streak-apart {r} x y h = x.stops (omega (arith, y.most)) (y.same r (omega (arith, x.more)) h)

  pub one-streak : {r s : ℕ} → Streak kinds from count r → Streak kinds from count s → r ≡ s
  one-streak {r} {s} x y = neither r s (streak-apart x y) (streak-apart y x)

-- two splits of the same records end in the same lists, and with the same number
pub record SameSplit (kinds₁ kinds₂ words₁ words₂ : List ℕ) (r s : ℕ) : Type 0 where
  pub number : r ≡ s
  pub kinds : kinds₁ ≡ kinds₂
  pub words : words₁ ≡ words₂

module _ {records kinds words : List ℕ} where
  split-apart : {kinds₁ words₁ kinds₂ words₂ : List ℕ} {r s : ℕ} → Split records kinds words kinds₁ words₁ r → Split records kinds words kinds₂ words₂ s
      → r < s → ⊥
  split-apart {r = r} x y h = true≢false (sym (y.known r h) ∙ x.stops (omega (arith, y.most)))

  pub one_split : {kinds₁ words₁ kinds₂ words₂ : List ℕ} {r s : ℕ} → Split records kinds words kinds₁ words₁ r → Split records kinds words kinds₂ words₂ s
      → SameSplit kinds₁ kinds₂ words₁ words₂ r s
  one_split {r = r} {s = s} x y =
      let same = neither r s (split-apart x y) (split-apart y x) in
      record {
        number = same;
        kinds = x.kinds_are ∙ ap (filled (kind_at records) kinds) same ∙ sym y.kinds_are;
        words = x.words_are ∙ ap (filled (word_at records) words) same ∙ sym y.words_are;
      }
