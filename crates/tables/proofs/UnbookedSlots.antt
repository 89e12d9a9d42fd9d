-- The words of unbooked slots go with the owners: nobody owns a position, one is booked, and a frame is recycled. Assumes nothing.
use Prim.Native.Nat.{ℕ, ◌+◌, ◌*◌, ◌≤◌, ◌<◌}
use mathlib.Core.Path.{◌≡◌}
use mathlib.Core.List.{List}
use mathlib.Core.Bool.{true, false, not, ◌&&◌}
use native.Mathlib.Decide.{ℕ_discrete}
use native.Mathlib.Omega.{arith}
use lib.Dec.{eqb}
use lib.ListN.{length, set}
use lib.Seq.{get_or-set_same, get_or-set_other}
use borrow.Author.Tests.{eq-eqb, ne_eqb}
use Rattle.window.specs.declared.Window.{Window}
use Rattle.window.specs.Window.{base_of, head_range, Proper}
use Rattle.window.proofs.Ranges.{in-range, replaced-at, replaced-off}
use Rattle.unbooked.specs.Words.{Words, Booked, Recycled}
use Rattle.unbooked.proofs.FrameWords.{words_same, words-booked, words-whole}
use Rattle.tables.specs.Owners.{nobody, unbooked_at, WordsOf, everywhere, emptied}
use Rattle.tables.proofs.FreshTables.{everywhere-at}

-- nobody owns a position
pub words-unowned : (F W : ℕ) {words : List ℕ} → F * W ≤ 256 → Words F W (λ p. true) words → WordsOf F W (everywhere nobody) words
words-unowned F W most v = words_same F W v (λ p h. rw (everywhere-at nobody p (omega arith)))

module _ (F W : ℕ) (few : W ≤ 8) (owners : List ℕ) {words : List ℕ} (v : WordsOf F W owners words) (j : ℕ) (hj : j < W) {after : List ℕ} where
  -- a flow books position p of frame j
  pub words-owned : (p i : ℕ) → p < length owners → (i ≡ nobody → ⊥) → j * F ≤ p → p < j * F + F → Booked F j p words after
      → WordsOf F W (set owners p i) after
  words-owned p i there flow low high x = words_same F W (words-booked F W few v hj low high x) (λ q h. go q (ℕ_discrete q p))
    where
      go : (q : ℕ) → Dec (q ≡ p) → not (eqb q p) && unbooked_at owners q ≡ unbooked_at (set owners p i) q
      go q (yes d) = rw (eq-eqb q p d, d, get_or-set_same owners p i 0 there, ne_eqb i nobody flow)
      go q (no d) = rw (ne_eqb q p d, get_or-set_other owners p q i 0 d)

-- the head frame is recycled
pub words-emptied : (w : Window) → Proper w → (owners : List ℕ) {words after : List ℕ} → length owners ≡ 256
    → WordsOf w.slots w.frames owners words → Recycled w.slots w.head words after → WordsOf w.slots w.frames (emptied w owners) after
words-emptied w p owners long v x =
    words-whole w.slots w.frames p.measures.frames_most v p.head_below (unbooked_at (emptied w owners)) x inside outside
  where
    inside : (i : ℕ) → i < w.slots → unbooked_at (emptied w owners) (base_of w + i) ≡ true
    inside i h =
        let m = p.measures.positions_most in
        let there : base_of w + i < length owners = omega (arith, long, p.base_fits) in
        rw (
          replaced-at (head_range w) (λ q x. nobody) owners (base_of w + i) 0 there,
          in-range (base_of w) (base_of w + w.slots) (base_of w + i) (omega arith) (omega arith),
        )

    outside : (q : ℕ) → head_range w q ≡ false → unbooked_at owners q ≡ unbooked_at (emptied w owners) q
    outside q e = rw (replaced-off (head_range w) (λ q x. nobody) owners q 0 e)
