-- Valid positions: what a valid position has, a search by one test for another, and one by ranks. Assumes nothing.
use Prim.Native.Nat.{ℕ, zero, suc, ◌+◌, ◌*◌, ◌≤◌, ◌<◌, max}
use mathlib.Core.Path.{◌≡◌, refl, ap, ◌∙◌}
use mathlib.Core.List.{List}
use mathlib.Core.Bool.{Bool, true, false, not, ◌&&◌}
use native.Mathlib.Nat.{mod-lt}
use native.Mathlib.Omega.{arith}
use Rattle.model.specs.Tables.{first_from}
use Rattle.model.specs.Window as model
use Rattle.model.specs.Window.{passed, every_from}
use Rattle.model.specs.Request.{can_leave, earliest, search, some_in_newest}
use Rattle.model.proofs.Tests.{any_same}
use Rattle.window.specs.declared.Window.{Window}
use Rattle.window.specs.Window.{window_of, size_of, Proper, ranks_from, FromRank}
use Rattle.window.proofs.Ranks.{ranks-both}
use Rattle.window.proofs.Windows.{frame-fits}
use Rattle.tables.specs.Owners.{unbooked_at}
use Rattle.tables.specs.Holdings.{room_at}
use Rattle.tables.specs.Search.{late_at, late_after, valid_at, search_from}

-- ---- what a valid position has

and_left : (a b : Bool) → a && b ≡ true → a ≡ true
and_left true b e = refl
and_left false b e = cc

and_right : (a b : Bool) → a && b ≡ true → b ≡ true
and_right true b e = e
and_right false b e = cc

-- room from it on, also where a departure counts
pub valid-room : (w : model.Window) (d : ℕ) (owners held : List ℕ) (cells p : ℕ) → valid_at owners (late_after w d (late_at w held cells)) p ≡ true
    → every_from w p (room_at held cells) ≡ true
unfolding valid_at
valid-room w d owners held cells p e =
    and_right (not (passed w p)) _ (and_left (late_at w held cells p) (can_leave w d p) (and_right (unbooked_at owners p) _ e))

-- ---- a search by two tests that agree at every position

first_from-same : (n a : ℕ) (f g : ℕ → Bool) → ((k : ℕ) → a ≤ k → k < a + n → f k ≡ g k) → first_from n a f ≡ first_from n a g
unfolding first_from
first_from-same zero a f g e = refl
first_from-same (suc n) a f g e =
    rw (e a (omega arith) (omega arith), first_from-same n (suc a) f g (λ k h₁ h₂. e k (omega arith) (omega arith)))

module _ (w : model.Window) (two : 2 ≤ w.frames) (ok ok' : ℕ → Bool) (same : (p : ℕ) → p < model.size w → ok p ≡ ok' p) (share : ℕ) where
  earliest-same : (j : ℕ) → j < w.frames → earliest w ok share j ≡ earliest w ok' share j
  earliest-same j h =
      first_from-same w.slots (j * w.slots) ok ok' (λ k h₁ h₂. same k (omega (arith, frame-fits w.slots w.frames j h)))

  pub search-same : (more j c : ℕ) → j < w.frames → search w ok share more j c ≡ search w ok' share more j c
  unfolding search
  search-same zero j zero h = refl
  search-same zero j (suc c) h = rw (earliest-same j h)
  search-same (suc more) j zero h = search-same more (model.next w j) share (mod-lt _ (omega arith))
  search-same (suc more) j (suc c) h =
      rw (earliest-same j h, search-same more (model.next w j) share (mod-lt _ (omega arith)))

-- ---- late positions by their rank

module _ {w : Window} (v : Proper w) (owners : List ℕ) where
  two : 2 ≤ w.frames
  two = v.measures.two_frames

  -- of two tests that agree at every position
  searched-same : (t u : ℕ → Bool) → ((p : ℕ) → p < size_of w → t p ≡ u p) → (share j c : ℕ) → j < w.frames
      → search_from (window_of w) (valid_at owners t) share j c ≡ search_from (window_of w) (valid_at owners u) share j c
  unfolding valid_at
  searched-same t u same share j c h =
      search-same (window_of w) two _ _ (λ p l. ap (unbooked_at owners p &&◌) (same p l)) share _ j c h

  -- a rank from which on a tile with departure d can leave, and one from which on a position is late enough
  pub search-after : (late d : ℕ) {a low : ℕ} → FromRank w (can_leave (window_of w) d) a → low ≡ max a late → (share j c : ℕ) → j < w.frames
      → search_from (window_of w) (valid_at owners (ranks_from w low)) share j c
      ≡ search_from (window_of w) (valid_at owners (late_after (window_of w) d (ranks_from w late))) share j c
  search-after late d {a} x e share j c h =
      ap (λ (r : ℕ). search_from (window_of w) (valid_at owners (ranks_from w r)) share j c) e
      ∙ searched-same (ranks_from w (max a late)) (late_after (window_of w) d (ranks_from w late))
      (λ p l. ranks-both w a late p ∙ ap (ranks_from w late p &&◌) (x.is p l)) share j c h

  module _ {t : ℕ → Bool} {late : ℕ} (x : FromRank w t late) where
    -- a search by the rank is one by the test
    pub search-by-rank : (d share j c : ℕ) → j < w.frames
        → search_from (window_of w) (valid_at owners (late_after (window_of w) d (ranks_from w late))) share j c
        ≡ search_from (window_of w) (valid_at owners (late_after (window_of w) d t)) share j c
    search-by-rank d share j c h =
        searched-same (late_after (window_of w) d (ranks_from w late)) (late_after (window_of w) d t) (λ p l. ap (◌&& can_leave (window_of w) d p) (x.is p l)) share j c h

    pub newest-by-rank : some_in_newest (window_of w) (valid_at owners (ranks_from w late)) ≡ some_in_newest (window_of w) (valid_at owners t)
    unfolding valid_at
    newest-by-rank =
        let first = model.newest (window_of w) in
        any_same w.slots _ _
        (λ k h. ap (unbooked_at owners (first * w.slots + k) &&◌) (x.is _ (omega (arith, frame-fits w.slots w.frames first (mod-lt _ (omega (arith, two)))))))
