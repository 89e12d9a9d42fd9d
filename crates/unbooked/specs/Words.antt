-- The words of a link: one for each frame, of its unbooked slots. Assumes nothing.
use Rattle.std.specs.Prelude.{ℕ, zero, suc, ◌+◌, ◌-◌, ◌*◌, ◌≤◌, ◌<◌, ◌≡◌, List, Bool, not, ◌&&◌, ltb, eqb, length, get_or, set}
use Rattle.model.specs.Tables.{table, bit}
use Rattle.window.specs.declared.Window.{Window}
use Rattle.window.specs.Window.{Proper}
use Rattle.unbooked.specs.Bits.{bit_at, Bits}

-- slot i of frame j is one of W frames of F slots, and its position passes t
abbrev pub slot_in : (F W : ℕ) (t : ℕ → Bool) (j i : ℕ) → Bool
slot_in F W t j i = ltb j W && ltb i F && t (j * F + i)

-- Eight words, and bit i of word j is 1 exactly when slot i of frame j is there and its position passes t. Words past the W frames and
-- bits past the F slots are 0, so that there is one list of words for each t (`one_list`).
pub record Words (F W : ℕ) (t : ℕ → Bool) (words : List ℕ) : Type 0 where
  pub long : length words ≡ 8
  pub word : (j : ℕ) → Bits (slot_in F W t j) (get_or words j 0)

-- word j is replaced by the one with the bits t, and the others stay
pub record WithWord (j : ℕ) (t : ℕ → Bool) (before after : List ℕ) : Type 0 where
  pub word : ℕ
  pub bits : Bits t word
  pub is : after ≡ set before j word

-- position p of frame j is booked
abbrev pub Booked : (F j p : ℕ) (before after : List ℕ) → Type 0
Booked F j p before after = WithWord j (λ i. not (eqb i (p - j * F)) && bit_at (get_or before j 0) i) before after

-- nobody owns a slot of frame j
abbrev pub Recycled : (F j : ℕ) (before after : List ℕ) → Type 0
Recycled F j = WithWord j (λ i. ltb i F)

-- position p lies in frame j of a window
pub record InFrame (w : Window) (j p : ℕ) : Type 0 where
  pub proper : Proper w
  pub frame : j < w.frames
  pub low : j * w.slots ≤ p
  pub high : p < j * w.slots + w.slots

-- ---- the words themselves

-- the word with the bits below n that pass t
unfoldable pub word_of : ℕ → (ℕ → Bool) → ℕ
word_of zero t = 0
word_of (suc n) t = bit (t 0) + 2 * word_of n (λ i. t (suc i))

abbrev pub words_of : (F W : ℕ) (t : ℕ → Bool) → List ℕ
words_of F W t = table 8 (λ j. word_of F (slot_in F W t j))
