-- The valid slots of a frame in one word: how it is gathered, and that its lowest bit is the earliest valid position. Assumes nothing.
use Prim.Native.Nat.{ℕ, zero, suc, ◌+◌, ◌-◌, ◌*◌, ◌≤◌, ◌<◌}
use mathlib.Core.Path.{◌≡◌, refl, sym, ap, ◌∙◌}
use mathlib.Core.List.{List}
use mathlib.Core.Option.{some, none}
use mathlib.Core.Bool.{Bool, true, false, ◌&&◌, and-false, and_comm, true≢false}
use native.Mathlib.Decide.{dec_le, dec_lt}
use native.Mathlib.Omega.{arith}
use lib.ListN.{get_or}
use lib.Dec.{leb, ltb}
use borrow.Author.Tests.{le-leb, lt-leb, lt-ltb, le-ltb}
use Rattle.model.specs.Tables.{any, first_from}
use Rattle.model.specs.Window as model
use Rattle.model.proofs.Tests.{any_none, any-of-none}
use Rattle.window.specs.declared.Window.{Window}
use Rattle.window.specs.Window.{window_of, ranks_from}
use Rattle.state.specs.State.{owners_of, masks_of}
use Rattle.window.proofs.Ranks.{rank_in, rank-slot}
use Rattle.unbooked.specs.Bits.{bit_at, Bits, Lowest}
use Rattle.unbooked.proofs.WordBits.{no-bit, one_word}
use Rattle.tables.specs.Owners.{unbooked_at}
use Rattle.tables.specs.Asked.{MasksIn}
use Rattle.tables.specs.Search.{valid_at, ValidSlots}

-- ---- gathered: the unbooked slots of frame j without those of a rank below `low`

leb-over : (low r i : ℕ) → leb (low - r) i ≡ leb low (r + i)
leb-over low r i = go (dec_le low (r + i))
  where
    go : Dec (low ≤ r + i) → leb (low - r) i ≡ leb low (r + i)
    go (yes h) = le-leb (low - r) i (omega arith) ∙ sym (le-leb low (r + i) h)
    go (no h) = lt-leb (low - r) i (omega arith) ∙ sym (lt-leb low (r + i) (omega arith))

module _ {w : Window} {s : List ℕ} (m : MasksIn w s) (low j : ℕ) (hj : j < w.frames) where
  abbrev owners : List ℕ
  owners = owners_of s

  abbrev late : ℕ → Bool
  late = ranks_from w low

  pub gathered : {word : ℕ} → Bits (λ i. leb (low - rank_in w (j * w.slots)) i && bit_at (get_or (masks_of s) j 0) i) word
      → ValidSlots (window_of w) (valid_at owners late) j word
  unfolding valid_at
  gathered b = record { is = λ i. b.is i ∙ rw ((m.agree.word j).is i, lt-ltb j w.frames hj) (go i (dec_lt i w.slots)) }
    where
      late_slot : (i : ℕ) → i < w.slots → leb (low - rank_in w (j * w.slots)) i ≡ late (j * w.slots + i)
      late_slot i h = leb-over low (rank_in w (j * w.slots)) i ∙ ap (leb low) (sym (rank-slot w m.proper j i hj h))

      go : (i : ℕ) → Dec (i < w.slots)
          → leb (low - rank_in w (j * w.slots)) i && (ltb i w.slots && unbooked_at owners (j * w.slots + i))
          ≡ ltb i w.slots && (unbooked_at owners (j * w.slots + i) && late (j * w.slots + i))
      go i (yes h) = rw (lt-ltb i w.slots h, late_slot i h) (and_comm (late (j * w.slots + i)) (unbooked_at owners (j * w.slots + i)))
      go i (no h) = rw (le-ltb i w.slots (omega arith), and-false)

-- ---- the earliest of n positions from a on

first-none : (ok : ℕ → Bool) (n a : ℕ) → ((k : ℕ) → k < n → ok (a + k) ≡ false) → first_from n a ok ≡ none
unfolding first_from
first-none ok zero a fails = refl
first-none ok (suc n) a fails =
    let here : a + 0 ≡ a = omega arith in
    let on : (k : ℕ) → suc a + k ≡ a + suc k = λ k. omega arith in
    rw (rw here at (fails 0 (omega arith))) (first-none ok n (suc a) (λ k h. rw (on k) (fails (suc k) (omega arith))))

first-hit : (ok : ℕ → Bool) (n a s : ℕ) → s < n → ((k : ℕ) → k < s → ok (a + k) ≡ false) → ok (a + s) ≡ true → first_from n a ok ≡ some (a + s)
unfolding first_from
first-hit ok zero a s h fails hit = absurd (omega arith)
first-hit ok (suc n) a zero h fails hit = let here : a + 0 ≡ a = omega arith in rw here (rw (rw here at hit))
first-hit ok (suc n) a (suc s) h fails hit =
    let here : a + 0 ≡ a = omega arith in
    let on : (k : ℕ) → suc a + k ≡ a + suc k = λ k. omega arith in
    rw (rw here at (fails 0 (omega arith)))
    (first-hit ok n (suc a) s (omega arith) (λ k l. rw (on k) (fails (suc k) (omega arith))) (rw (on s) hit) ∙ ap some (on s))

-- ---- the word's lowest bit is the earliest valid position of the frame

module _ {w : model.Window} {ok : ℕ → Bool} {j word : ℕ} (v : ValidSlots w ok j word) where
  -- a slot that isn't in the word
  fails-at : (i : ℕ) → i < w.slots → bit_at word i ≡ false → ok (j * w.slots + i) ≡ false
  fails-at i h e = sym (rw (lt-ltb i w.slots h) at (v.is i)) ∙ e

  -- a slot that is in the word
  slot_at : (i : ℕ) → bit_at word i ≡ true → (i < w.slots) × (ok (j * w.slots + i) ≡ true)
  slot_at i e = go (dec_lt i w.slots)
    where
      both : ltb i w.slots && ok (j * w.slots + i) ≡ true
      both = sym (v.is i) ∙ e

      go : Dec (i < w.slots) → (i < w.slots) × (ok (j * w.slots + i) ≡ true)
      go (yes h) = (h, rw (lt-ltb i w.slots h) at both)
      go (no h) = absurd (true≢false (sym (rw (le-ltb i w.slots (omega arith)) at both)))

  pub no_slot : word ≡ 0 → first_from w.slots (model.start w j) ok ≡ none
  no_slot z = first-none ok w.slots (j * w.slots) (λ i h. fails-at i h (ap (λ (x : ℕ). bit_at x i) z ∙ no-bit i))

  pub lowest-slot : {s : ℕ} → Lowest word s → (word ≡ 0 → ⊥) → first_from w.slots (model.start w j) ok ≡ some (model.start w j + s)
  lowest-slot {s} low some_slot =
      let (h, hit) = slot_at s (low.there some_slot) in
      first-hit ok w.slots (j * w.slots) s h (λ i l. fails-at i (omega arith) (low.none_before i l)) hit

  -- no bit is 1 exactly when no position of the frame is valid
  pub none-valid : word ≡ 0 → any w.slots (λ i. ok (model.start w j + i)) ≡ false
  none-valid z = any-of-none w.slots (λ i. ok (j * w.slots + i)) (λ i h. fails-at i h (ap (λ (x : ℕ). bit_at x i) z ∙ no-bit i))

  pub some-valid : (word ≡ 0 → ⊥) → any w.slots (λ i. ok (model.start w j + i)) ≡ true
  some-valid some_slot = go (any w.slots (λ i. ok (j * w.slots + i))) refl
    where
      no-slots : any w.slots (λ i. ok (j * w.slots + i)) ≡ false → (i : ℕ) → bit_at word i ≡ false
      no-slots e i = case-slot (dec_lt i w.slots)
        where
          case-slot : Dec (i < w.slots) → bit_at word i ≡ false
          case-slot (yes h) = v.is i ∙ rw (lt-ltb i w.slots h) (any_none w.slots (λ x. ok (j * w.slots + x)) e i h)
          case-slot (no h) = v.is i ∙ rw (le-ltb i w.slots (omega arith))

      go : (b : Bool) → any w.slots (λ i. ok (j * w.slots + i)) ≡ b → any w.slots (λ i. ok (j * w.slots + i)) ≡ true
      go true e = e
      go false e = absurd (some_slot (one_word (record { is = no-slots e }) (record { is = no-bit })))
