-- What a search leaves of the share: no more than the share, or than what was left before; and nothing only where nothing was left in the
-- newest frame. Assumes nothing.
use Prim.Native.Nat.{ℕ, zero, suc, ◌≤◌, ◌<◌}
use mathlib.Core.Path.{◌≡◌, refl, ap}
use mathlib.Core.Bool.{Bool}
use mathlib.Core.Option.{Option, some, none}
use native.Mathlib.Nat.{mod-lt}
use native.Mathlib.Decide.{dec_le}
use native.Mathlib.Omega.{arith}
use Rattle.model.specs.Tables.{ahead}
use Rattle.model.specs.Window.{Window, next, newest}
use Rattle.model.specs.Link as model
use Rattle.model.specs.Request.{Found, found, nowhere, or_else, earliest, search, sought}
use Rattle.window.proofs.GoingRound.{ahead-on, ahead-over}

abbrev pub left_of : Found → ℕ
left_of (found j c p) = c
left_of (nowhere c) = c

same_left : {a b : ℕ} → nowhere a ≡ nowhere b → a ≡ b
same_left e = ap left_of e

module _ (w : Window) (ok : ℕ → Bool) (share n : ℕ) (few : share ≤ n) where
  or_left : (j c : ℕ) (o : Option ℕ) (rest : Found) → c ≤ n → left_of rest ≤ n → left_of (or_else j c o rest) ≤ n
  or_left j c (some p) rest h l = h
  or_left j c none rest h l = l

  search-left : (more j c : ℕ) → c ≤ n → left_of (search w ok share more j c) ≤ n
  unfolding search
  search-left zero j zero h = h
  search-left zero j (suc c) h = or_left j c (earliest w ok share j) (nowhere (suc c)) (omega arith) h
  search-left (suc more) j zero h = search-left more (next w j) share few
  search-left (suc more) j (suc c) h =
      or_left j c (earliest w ok share j) (search w ok share more (next w j) share) (omega arith) (search-left more (next w j) share few)

pub sought-left : (l : model.Link) (i d n : ℕ) → model.share l i ≤ n → (model.flow l i).remainder ≤ n → left_of (sought l i d) ≤ n
unfolding sought
sought-left l i d n few h = search-left (model.window l) _ (model.share l i) n few _ _ _ h

-- ---- nothing is left

module _ (w : Window) (ok : ℕ → Bool) (share : ℕ) (some_share : 1 ≤ share) where
  -- a frame in which the search finds nothing
  or-nowhere : (j c : ℕ) (o : Option ℕ) (rest : Found) → nowhere 0 ≡ or_else j c o rest → nowhere 0 ≡ rest
  or-nowhere j c (some p) rest e = let z : ◌≡◌ {A = ℕ} 0 1 = cc in absurd (omega arith)
  or-nowhere j c none rest e = e

  search-spent : (more j c : ℕ) → nowhere 0 ≡ search w ok share more j c → (more ≡ 0) × (c ≡ 0)
  unfolding search
  search-spent zero j zero e = (refl, refl)
  search-spent zero j (suc c) e = let z : 0 ≡ suc c = same_left (or-nowhere j c (earliest w ok share j) (nowhere (suc c)) e) in absurd (omega arith)
  search-spent (suc more) j zero e = let z = (search-spent more (next w j) share e).1 in absurd (omega arith)
  search-spent (suc more) j (suc c) e =
      let z = (search-spent more (next w j) share (or-nowhere j c (earliest w ok share j) (search w ok share more (next w j) share) e)).1 in
      absurd (omega arith)

-- no frame comes after j up to k: they are one
none_ahead : (m j k : ℕ) → j < m → k < m → ahead m j k ≡ 0 → j ≡ k
none_ahead m j k hj hk e = go (dec_le j k)
  where
    go : Dec (j ≤ k) → j ≡ k
    go (yes h) = let z = ahead-on m j k h hk in omega arith
    go (no h) = let z = ahead-over m j k (omega arith) (omega arith) in absurd (omega arith)

pub sought-spent : (l : model.Link) (i d : ℕ) → 1 ≤ model.share l i → (model.flow l i).injection < l.plan.frames
    → nowhere 0 ≡ sought l i d → ((model.flow l i).injection ≡ newest (model.window l)) × ((model.flow l i).remainder ≡ 0)
unfolding sought
sought-spent l i d some_share below e =
    let (last, spent) = search-spent (model.window l) _ (model.share l i) some_share _ _ _ e in
    (none_ahead l.plan.frames _ _ below (mod-lt _ (omega arith)) last, spent)
