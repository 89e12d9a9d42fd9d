-- One pass over a list that moves each element modulo 256 by a pad, with a byte that counts its places; and a list filled with one value.
-- Assumes nothing.
use Rattle.std.proofs.Common.{◌≡◌, ℕ, ◌+◌, ◌-◌, ◌%◌, ◌≤◌, ◌<◌, List, length, get_or, set, replicate, cond, ltb, sym, ap, ◌∙◌, rules, arith}
use borrow.Rule.Slice.PartMut.{put_mid, mid_of}
use Rattle.std.proofs.lemmas.List.{places}
use Rattle.window.specs.Bytes.{wrapped}
use Rattle.window.specs.Ranges.{in_range, replaced}
use Rattle.window.proofs.Bytes.{wrapped-is}
use Rattle.window.proofs.Ranges.{past-range, replaced-off, replaced-mid, length-mid, mid-at}
use Rattle.window.proofs.RangeLoops.{Replacing, replacing-none, replacing-more}
use Rattle.tables.specs.Padded.{pad}
use Rattle.tables.proofs.Padded.{Counting, counting-first, counting-on, counted-pad}

-- the elements of a list are bytes
pub record AllBytes (h : List ℕ) : Type 0 where
  pub below : (k : ℕ) → k < length h → get_or h k 0 < 256

pub bytes-mid : (s : List ℕ) (a e : ℕ) → e ≤ length s → ((i : ℕ) → get_or s i 0 < 256) → AllBytes (mid_of a (e - a) s)
bytes-mid s a e l fits = record { below = λ k b. rw (mid-at a e s k 0 (omega (arith, length-mid a e s l))) (fits (a + k)) }

-- the places up to k are moved by 0 where they are early, and by `late` where they are not
pub record Shifting (base from late : ℕ) (before after : List ℕ) (k x : ℕ) : Type 0 where
  pub counting : Counting base k x
  pub replaced : Replacing (λ q y. wrapped (pad base from 0 late q) y) 0 (length before) before after k

module _ {base from late : ℕ} (low : base < 256) {before : List ℕ} where
  pub shifting-none : {x : ℕ} → x < 256 → (x + base) % 256 ≡ 0 → Shifting base from late before before 0 x
  shifting-none b z = record { counting = counting-first base _ low b z; replaced = replacing-none 0 (omega arith) }

  module _ (bytes : AllBytes before) {after : List ℕ} {k x : ℕ} (v : Shifting base from late before after k x) (more : k < length before)
      {by : ℕ} (fits : by < 256) (is : by ≡ cond (ltb x from) 0 late) where
    -- the next place is still as it was
    as_before : get_or after k 0 ≡ get_or before k 0
    as_before = ap (λ (h : List ℕ). get_or h k 0) v.replaced.is ∙ replaced-off _ _ before k 0 (past-range 0 k k (omega arith))

    -- what is put there
    pub shifted-put : (get_or after k 0 + by) % 256 ≡ wrapped (pad base from 0 late k) (get_or before k 0)
    shifted-put =
        rw as_before (wrapped-is by (get_or before k 0) fits (bytes.below k more)
        ∙ ap (λ m. wrapped m (get_or before k 0)) (is ∙ counted-pad v.counting from 0 late))

    pub shifting-more : Shifting base from late before (set after k ((get_or after k 0 + by) % 256)) (k + 1) ((x + 1) % 256)
    shifting-more = record {
      counting = counting-on v.counting low;
      replaced = replacing-more 0 v.replaced more (shifted-put ∙ ap (wrapped (pad base from 0 late k)) (sym as_before));
    }

-- the elements from a up to e filled with one value
pub filled : (a e : ℕ) (s ys : List ℕ) (value : ℕ) → a ≤ e → e ≤ length s → ys ≡ replicate (length (mid_of a (e - a) s)) value
    → put_mid a (e - a) s ys ≡ replaced (in_range a e) (λ q x. value) s
filled a e s ys value h l is =
    let last : a + (e - a) ≡ e = omega arith in
    rw last at (replaced-mid a (e - a) (λ q x. value) s ys 0 (rw (is, length-mid a e s l) (search (rules, places))) (omega arith)
    (λ k b. rw (is, length-mid a e s l) (search (rules, places))))
