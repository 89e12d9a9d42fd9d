-- The walk over the frames: what is left to search comes to what the whole search does. Assumes nothing.
use Prim.Native.Nat.{ℕ, zero, suc, ◌-◌, ◌≤◌, ◌<◌}
use mathlib.Core.Path.{◌≡◌, refl, sym, ap, ◌∙◌}
use mathlib.Core.Option.{some, none}
use mathlib.Core.Bool.{Bool}
use native.Mathlib.Nat.{mod-lt}
use native.Mathlib.Omega.{arith}
use Rattle.model.specs.Tables.{ahead}
use Rattle.model.specs.Window as model
use Rattle.model.specs.Request.{found, nowhere, earliest, search}
use Rattle.window.proofs.GoingRound.{ahead-here, ahead-next}
use Rattle.tables.specs.Search.{search_from}

-- how many frames come after frame j up to the newest
abbrev pub more_frames : model.Window → ℕ → ℕ
more_frames w j = ahead w.frames j (model.newest w)

pub one-frame-on : (w : model.Window) {j : ℕ} → j < w.frames → (j ≡ model.newest w → ⊥) → more_frames w j ≡ suc (more_frames w (model.next w j))
one-frame-on w {j} h n = ahead-next w.frames j (model.newest w) h (mod-lt _ (omega arith)) n

-- frame j, with the remainder c, has no position to book
pub record NoneIn (w : model.Window) (ok : ℕ → Bool) (share j c : ℕ) : Type 0 where
  pub none_there : 0 < c → earliest w ok share j ≡ none

-- from frame j with the remainder c the search comes to what the whole search does
pub record Walked (w : model.Window) (ok : ℕ → Bool) (share j₀ c₀ j c : ℕ) : Type 0 where
  pub same : search_from w ok share j c ≡ search_from w ok share j₀ c₀

search-hit : (w : model.Window) (ok : ℕ → Bool) (share more j c p : ℕ) → 0 < c → earliest w ok share j ≡ some p
    → search w ok share more j c ≡ found j (c - 1) p
unfolding search
search-hit w ok share more j zero p h e = absurd (omega arith)
search-hit w ok share zero j (suc c) p h e = let q : suc c - 1 ≡ c = omega arith in rw (e, q)
search-hit w ok share (suc more) j (suc c) p h e = let q : suc c - 1 ≡ c = omega arith in rw (e, q)

module _ {w : model.Window} {ok : ℕ → Bool} {share : ℕ} where
  -- nothing is left of the share
  pub none-spent : {j c : ℕ} → c ≤ 0 → NoneIn w ok share j c
  none-spent h = record { none_there = λ b. absurd (omega arith) }

  -- it has no valid position
  pub none-valid : {j c : ℕ} → earliest w ok share j ≡ none → NoneIn w ok share j c
  none-valid e = record { none_there = λ _. e }

  search-on : (more j c : ℕ) → NoneIn w ok share j c → search w ok share (suc more) j c ≡ search w ok share more (model.next w j) share
  unfolding search
  search-on more j zero e = refl
  search-on more j (suc c) e = rw (e.none_there (omega arith))

  search-last : (j c : ℕ) → NoneIn w ok share j c → search w ok share 0 j c ≡ nowhere c
  unfolding search
  search-last j zero e = refl
  search-last j (suc c) e = rw (e.none_there (omega arith))

  module _ {j₀ c₀ j c : ℕ} (v : Walked w ok share j₀ c₀ j c) where
    -- p is its earliest valid position
    pub walked-hit : {p : ℕ} → 0 < c → earliest w ok share j ≡ some p → found j (c - 1) p ≡ search_from w ok share j₀ c₀
    walked-hit {p} h e = sym (search-hit w ok share (more_frames w j) j c p h e) ∙ v.same

    module _ (e : NoneIn w ok share j c) (h : j < w.frames) where
      -- to the next frame
      pub walked_on : (j ≡ model.newest w → ⊥) → Walked w ok share j₀ c₀ (model.next w j) share
      walked_on n = record { same = sym (ap (λ (m : ℕ). search w ok share m j c) (one-frame-on w h n) ∙ search-on _ j c e) ∙ v.same }

      -- the newest frame fails
      pub walked-out : j ≡ model.newest w → nowhere c ≡ search_from w ok share j₀ c₀
      walked-out z = sym (ap (λ (m : ℕ). search w ok share m j c) none_left ∙ search-last j c e) ∙ v.same
        where
          none_left : more_frames w j ≡ 0
          none_left = ap (ahead w.frames j) (sym z) ∙ ahead-here w.frames j h
