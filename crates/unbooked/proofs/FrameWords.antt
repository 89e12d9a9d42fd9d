-- The words of a link: made, with one replaced, and determined by their test. Assumes nothing.
use Prim.Native.Nat.{ℕ, zero, suc, ◌+◌, ◌-◌, ◌*◌, ◌/◌, ◌≤◌, ◌<◌}
use mathlib.Core.Path.{◌≡◌, sym, ap, ◌∙◌}
use mathlib.Core.List.{List}
use mathlib.Core.Bool.{Bool, true, false, not, ◌&&◌, and-false, and-true, true≢false}
use native.Mathlib.Decide.{dec_lt, ℕ_discrete}
use native.Mathlib.Omega.{arith}
use lib.Arith.{digits_div}
use lib.Dec.{ltb, eqb, leb-suc-suc}
use lib.ListN.{length, get_or, replicate, take, drop, length-set}
use borrow.Author.Rules.{rules}
use mathlib.Core.List.{◌++◌}
use Rattle.std.proofs.lemmas.List.{places}
use lib.Seq.{get_or-set_same, get_or-set_other, ext_get_or}
use borrow.Author.Tests.{lt-ltb, le-ltb, eq-eqb, ne_eqb}
use Rattle.model.specs.Tables.{bit}
use Rattle.window.specs.declared.Window.{Window}
use Rattle.window.specs.Ranges.{in_range}
use Rattle.window.specs.Window.{size_of}
use Rattle.window.proofs.Ranges.{in-range, before-range, past-range}
use Rattle.window.proofs.Tabulated.{get_d-table, table-past, length-table}
use Rattle.window.proofs.Windows.{frame-fits}
use Rattle.unbooked.specs.Bits.{bit_at, Bits}
use Rattle.unbooked.specs.Words.{slot_in, Words, WithWord, Booked, Recycled, InFrame, word_of, words_of}
use Rattle.unbooked.proofs.WordBits.{odd, even, rest-is, no-bit, one_word}

-- ---- the slots of a frame, by their positions

-- a position of a frame is one of the window
pub in_window : {w : Window} {j p : ℕ} → InFrame w j p → p < size_of w
in_window {w} {j} v = omega (arith, v.high, frame-fits w.slots w.frames j v.frame)

module _ (F W : ℕ) where
  -- slots of two frames have two positions
  two_frames : (j k s i : ℕ) → s < F → i < F → k * F + i ≡ j * F + s → k ≡ j
  two_frames j k s i hs hi e = sym (digits_div k hi) ∙ ap (◌/ F) e ∙ digits_div j hs

  in_frame : (t : ℕ → Bool) (j i : ℕ) → j < W → slot_in F W t j i ≡ ltb i F && t (j * F + i)
  in_frame t j i h = rw (lt-ltb j W h)

  no-frame : (t : ℕ → Bool) (j i : ℕ) → W ≤ j → slot_in F W t j i ≡ false
  no-frame t j i h = rw (le-ltb j W h)

  -- two tests that agree at the slots of a frame
  same-slots : (t u : ℕ → Bool) (j : ℕ) → ((i : ℕ) → j < W → i < F → t (j * F + i) ≡ u (j * F + i))
      → (i : ℕ) → slot_in F W t j i ≡ slot_in F W u j i
  same-slots t u j e i = go (dec_lt j W) (dec_lt i F)
    where
      go : Dec (j < W) → Dec (i < F) → slot_in F W t j i ≡ slot_in F W u j i
      go (yes h) (yes l) = ap (ltb j W && ltb i F &&◌) (e i h l)
      go (yes h) (no l) = rw (le-ltb i F (omega arith), and-false)
      go (no h) l = rw (le-ltb j W (omega arith))

  -- ---- the words of a test

  pub words_same : {t u : ℕ → Bool} {words : List ℕ} → Words F W t words → ((p : ℕ) → p < F * W → t p ≡ u p) → Words F W u words
  words_same {t} {u} v e = record {
    long = v.long;
    word = λ j. record {
      is = λ i. (v.word j).is i ∙ same-slots t u j (λ k h l. e (j * F + k) (omega (arith, frame-fits F W j h))) i;
    };
  }

  pub one_list : {t : ℕ → Bool} {a b : List ℕ} → Words F W t a → Words F W t b → a ≡ b
  one_list x y = ext_get_or 0 _ _ (x.long ∙ sym y.long) (λ j h. one_word (x.word j) (y.word j))

  -- ---- word j replaced

  -- the slots of another frame lie out of frame j
  outside : (j k i : ℕ) → (k ≡ j → ⊥) → i < F → in_range (j * F) (j * F + F) (k * F + i) ≡ false
  outside j k i n l = go (dec_lt (k * F + i) (j * F)) (dec_lt (k * F + i) (j * F + F))
    where
      go : Dec (k * F + i < j * F) → Dec (k * F + i < j * F + F) → in_range (j * F) (j * F + F) (k * F + i) ≡ false
      go (yes d) e = before-range _ _ _ d
      go (no d) (yes e) = absurd (n (two_frames j k (k * F + i - j * F) i (omega arith) l (omega arith)))
      go (no d) (no e) = past-range _ _ _ (omega arith)

  module _ (few : W ≤ 8) {t : ℕ → Bool} {before : List ℕ} (v : Words F W t before) {j : ℕ} (h : j < W) {after : List ℕ} where
    -- the test changes in frame j alone
    word-replaced : {b : ℕ → Bool} → WithWord j b before after → (u : ℕ → Bool) → ((i : ℕ) → b i ≡ ltb i F && u (j * F + i))
        → ((q : ℕ) → in_range (j * F) (j * F + F) q ≡ false → t q ≡ u q) → Words F W u after
    word-replaced x u here elsewhere = record {
      long = ap length x.is ∙ length-set before j x.word ∙ v.long;
      word = λ k. record { is = λ i. go k i (ℕ_discrete k j) };
    }
      where
        go : (k i : ℕ) → Dec (k ≡ j) → bit_at (get_or after k 0) i ≡ slot_in F W u k i
        go k i (yes d) =
            rw (d, x.is, get_or-set_same before j x.word 0 (omega (arith, v.long)))
            (x.bits.is i ∙ here i ∙ sym (in_frame u j i h))
        go k i (no d) =
            rw (x.is, get_or-set_other before j k x.word 0 d) ((v.word k).is i)
            ∙ same-slots t u k (λ s _ l. elsewhere (k * F + s) (outside j k s d l)) i

    -- a position of the frame no longer passes
    pub words-booked : {p : ℕ} → j * F ≤ p → p < j * F + F → Booked F j p before after
        → Words F W (λ q. not (eqb q p) && t q) after
    words-booked {p} low high x = word-replaced x _ (λ i. here i (ℕ_discrete i (p - j * F))) elsewhere
      where
        here : (i : ℕ) → Dec (i ≡ p - j * F)
            → not (eqb i (p - j * F)) && bit_at (get_or before j 0) i ≡ ltb i F && (not (eqb (j * F + i) p) && t (j * F + i))
        here i (yes d) = rw (eq-eqb i (p - j * F) d, eq-eqb (j * F + i) p (omega arith), and-false)
        here i (no d) =
            rw (ne_eqb i (p - j * F) d, ne_eqb (j * F + i) p (λ e. d (omega arith)))
            ((v.word j).is i ∙ in_frame t j i h)

        elsewhere : (q : ℕ) → in_range (j * F) (j * F + F) q ≡ false → t q ≡ not (eqb q p) && t q
        elsewhere q out = rw (ne_eqb q p (λ e. true≢false (sym (in-range (j * F) (j * F + F) q (omega arith) (omega arith)) ∙ out)))

    -- every position of the frame passes
    pub words-whole : (u : ℕ → Bool) → Recycled F j before after → ((i : ℕ) → i < F → u (j * F + i) ≡ true)
        → ((q : ℕ) → in_range (j * F) (j * F + F) q ≡ false → t q ≡ u q) → Words F W u after
    words-whole u x all = word-replaced x u (λ i. here i (dec_lt i F))
      where
        here : (i : ℕ) → Dec (i < F) → ltb i F ≡ ltb i F && u (j * F + i)
        here i (yes d) = rw (all i d, and-true)
        here i (no d) = rw (le-ltb i F (omega arith))

-- ---- one word for each of W frames whose slots all pass, and no bit past them

pub whole_words : (F W : ℕ) {words : List ℕ} {word : ℕ} → W ≤ 8 → words ≡ replicate (length {A = ℕ} (take W (replicate 8 0))) word → Bits (λ i. ltb i F) word
    → Words F W (λ p. true) (words ++ drop W (replicate 8 0))
whole_words F W {words} {word} few e b = rw (e, taken) (record {
  long = search (rules, places);
  word = λ j. record { is = λ i. go j i (dec_lt j W) };
})
  where
    zeros : List ℕ
    zeros = replicate 8 0

    taken : length (take W zeros) ≡ W
    taken = search (rules, places)

    all : List ℕ
    all = replicate W word ++ drop W zeros

    there : (j : ℕ) → j < W → get_or all j 0 ≡ word
    there j h = search (rules, places)

    past : (j : ℕ) → W ≤ j → get_or all j 0 ≡ 0
    past j h = grind (arith, places)

    go : (j i : ℕ) → Dec (j < W) → bit_at (get_or all j 0) i ≡ slot_in F W (λ p. true) j i
    go j i (yes h) = rw (there j h, lt-ltb j W h, and-true) (b.is i)
    go j i (no h) = rw (past j (omega arith)) (no-bit i ∙ sym (no-frame F W (λ p. true) j i (omega arith)))

-- ---- the words of a test, made

word-of-bit : (n : ℕ) (t : ℕ → Bool) (i : ℕ) → bit_at (word_of n t) i ≡ ltb i n && t i
unfolding word_of
word-of-bit zero t i = no-bit i ∙ ap (◌&& t i) (sym (le-ltb i 0 (omega arith)))
word-of-bit (suc n) t zero = go (t 0) ∙ ap (◌&& t 0) (sym (lt-ltb 0 (suc n) (omega arith)))
  where
    go : (b : Bool) → bit_at (bit b + 2 * word_of n (λ i. t (suc i))) 0 ≡ b
    go true = odd (1 + 2 * word_of n (λ i. t (suc i))) (omega arith)
    go false = even (0 + 2 * word_of n (λ i. t (suc i))) (omega arith)
word-of-bit (suc n) t (suc i) =
    rest-is (bit (t 0) + 2 * word_of n (λ k. t (suc k))) (word_of n (λ k. t (suc k))) i (go (t 0))
    (word-of-bit n (λ k. t (suc k)) i ∙ ap (◌&& t (suc i)) (sym (leb-suc-suc (suc i) n)))
  where
    go : (b : Bool) → (bit b + 2 * word_of n (λ k. t (suc k))) / 2 ≡ word_of n (λ k. t (suc k))
    go true = omega arith
    go false = omega arith

pub words-of : (F W : ℕ) (t : ℕ → Bool) → W ≤ 8 → Words F W t (words_of F W t)
words-of F W t few = record {
  long = length-table 8 (λ j. word_of F (slot_in F W t j));
  word = λ j. record { is = λ i. go j i (dec_lt j 8) };
}
  where
    below : (j i : ℕ) → Dec (i < F) → ltb i F && slot_in F W t j i ≡ slot_in F W t j i
    below j i (yes h) = rw (lt-ltb i F h)
    below j i (no h) = rw (le-ltb i F (omega arith), and-false)

    go : (j i : ℕ) → Dec (j < 8) → bit_at (get_or (words_of F W t) j 0) i ≡ slot_in F W t j i
    go j i (yes h) =
        ap (λ (w : ℕ). bit_at w i) (get_d-table 8 (λ k. word_of F (slot_in F W t k)) j 0 h)
        ∙ word-of-bit F (slot_in F W t j) i
        ∙ below j i (dec_lt i F)
    go j i (no h) =
        ap (λ (w : ℕ). bit_at w i) (table-past 8 (λ k. word_of F (slot_in F W t k)) j 0 (omega arith))
        ∙ no-bit i
        ∙ sym (no-frame F W t j i (omega arith))
