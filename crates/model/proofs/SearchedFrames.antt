-- The search, by what holds of each frame that it comes to; and the frame that it ends with. Assumes nothing.
use Prim.Native.Nat.{ℕ, zero, suc, ◌+◌, ◌-◌, ◌*◌, ◌%◌, ◌≤◌, ◌<◌}
use mathlib.Core.Path.{◌≡◌, refl, sym, ap, ap₂, ◌∙◌, subst}
use mathlib.Core.Option.{Option, some, none}
use mathlib.Core.Bool.{Bool}
use native.Mathlib.Nat.{mod-lt, mod-eq_of_lt, mod-add-mod, mul-le-mul_right}
use native.Mathlib.Numerals.{add-one}
use native.Mathlib.Omega.{arith}
use Rattle.model.specs.Tables.{ahead}
use Rattle.model.specs.Window.{Window, size, start, next, newest}
use Rattle.model.specs.Request.{Found, found, nowhere, earliest, or_else, search}
use Rattle.model.proofs.Round.{first_with, first_with-mod}
use Rattle.model.proofs.Tables.{Hit, first_from-some, first_from-same}

-- the next frame, where frames are numbered on without end
next-is : (w : Window) (a : ℕ) → next w (a % w.frames) ≡ suc a % w.frames
next-is w a = mod-add-mod a w.frames 1 ∙ ap (◌% w.frames) (add-one a)

-- ---- the search finds a position, or fails in the last frame

module _ (w : Window) (ok : ℕ → Bool) (share : ℕ) where
  -- With remainder c the rule finds no position in frame j.
  abbrev pub Fails : ℕ → ℕ → Type 0
  Fails j zero = Unit {0}
  Fails j (suc c) = earliest w ok share j ≡ none

-- Frames are numbered on without end, up to the last. Q a c holds where the search comes to frame a with remainder c.
module _ (w : Window) (ok : ℕ → Bool) (share last : ℕ) (Q : ℕ → ℕ → Type 0) where
  pub record FoundIn (j c p : ℕ) : Type 0 where
    pub frame : ℕ
    pub frame_le : frame ≤ last
    pub frame_is : j ≡ frame % w.frames
    pub reached : Q frame (suc c)
    pub hit : Hit w.slots (start w (frame % w.frames)) p ok

  pub record FoundNowhere (c : ℕ) : Type 0 where
    pub reached : Q last c
    pub fails : Fails w ok share (last % w.frames) c

  abbrev pub Ends : Found → Type 0
  Ends (found j c p) = FoundIn j c p
  Ends (nowhere c) = FoundNowhere c

  in_frame : (a c : ℕ) → a ≤ last → Q a (suc c) → (rest : Found) → (Fails w ok share (a % w.frames) (suc c) → Ends rest)
      → Ends (or_else (a % w.frames) c (earliest w ok share (a % w.frames)) rest)
  in_frame a c h q rest otherwise = go (earliest w ok share (a % w.frames)) refl
    where
      go : (o : Option ℕ) → earliest w ok share (a % w.frames) ≡ o → Ends (or_else (a % w.frames) c o rest)
      go (some p) e = record {
        frame = a;
        frame_le = h;
        frame_is = refl;
        reached = q;
        hit = first_from-some w.slots (start w (a % w.frames)) ok p e;
      }
      go none e = otherwise e

  pub search-ends : ((a c : ℕ) → a < last → Q a c → Fails w ok share (a % w.frames) c → Q (suc a) share)
      → (more a c : ℕ) → a + more ≡ last → Q a c → Ends (search w ok share more (a % w.frames) c)
  unfolding search
  search-ends goes_on zero a zero e q = let z : a ≡ last = omega arith in record { reached = subst (λ x. Q x 0) z q; fails = tt }
  search-ends goes_on zero a (suc c) e q =
      in_frame a c (omega arith) q (nowhere (suc c)) λ fails.
      let z : a ≡ last = omega arith in
      record { reached = subst (λ x. Q x (suc c)) z q; fails = subst (λ x. Fails w ok share (x % w.frames) (suc c)) z fails }
  search-ends goes_on (suc more) a zero e q = rw (next-is w a) (search-ends goes_on more (suc a) share (omega arith) (goes_on a 0 (omega arith) q tt))
  search-ends goes_on (suc more) a (suc c) e q =
      in_frame a c (omega arith) q (search w ok share more (next w (a % w.frames)) share) λ fails.
      rw (next-is w a) (search-ends goes_on more (suc a) share (omega arith) (goes_on a (suc c) (omega arith) q fails))

-- ---- the last frame

-- the frame that comes `more` frames after j
unfoldable pub last_frame : Window → ℕ → ℕ → ℕ
last_frame w zero j = j
last_frame w (suc more) j = last_frame w more (next w j)

last_frame-is : (w : Window) (more a : ℕ) → last_frame w more (a % w.frames) ≡ (a + more) % w.frames
unfolding last_frame
last_frame-is w zero a = let z : a ≡ a + 0 = omega arith in ap (◌% w.frames) z
last_frame-is w (suc more) a =
    let z : suc a + more ≡ a + suc more = omega arith in
    ap (last_frame w more) (next-is w a) ∙ last_frame-is w more (suc a) ∙ ap (◌% w.frames) z

-- A search from frame j that goes on for as many frames as the newest is ahead ends with the newest.
pub ends-with-newest : (w : Window) (j : ℕ) → j < w.frames → last_frame w (ahead w.frames j (newest w)) j ≡ newest w
unfolding first_with
ends-with-newest w j h =
    let some : 0 < w.frames = omega arith in
    let z = mod-eq_of_lt h in
    ap (last_frame w (ahead w.frames j (newest w))) (sym z)
    ∙ last_frame-is w (ahead w.frames j (newest w)) j
    ∙ ap (λ x. (j + ahead w.frames x (newest w)) % w.frames) (sym z)
    ∙ first_with-mod some j (newest w) (mod-lt _ some)

-- ---- the positions and the frames that a search looks at lie in the window

module _ (w : Window) where
  pub in_window : (j x : ℕ) → j < w.frames → x < w.slots → start w j + x < size w
  in_window j x below h = let ends : suc j * w.slots ≤ w.frames * w.slots = mul-le-mul_right w.slots below in omega arith

  next-below : (j : ℕ) → j < w.frames → next w j < w.frames
  next-below j below = mod-lt (j + 1) (omega arith)

module _ (w : Window) (share : ℕ) where
  module _ (test test' : ℕ → Bool) (same : (p : ℕ) → p < size w → test p ≡ test' p) where
    earliest-same : (j : ℕ) → j < w.frames → earliest w test share j ≡ earliest w test' share j
    earliest-same j below =
        first_from-same w.slots (start w j) test test' λ p low high.
        same p (let z = in_window w j (p - start w j) below (omega arith) in omega arith)

    -- tests that agree in the window
    pub search-same : (more j c : ℕ) → j < w.frames → search w test share more j c ≡ search w test' share more j c
    unfolding search
    search-same zero j zero below = refl
    search-same zero j (suc c) below = ap (λ o. or_else j c o (nowhere (suc c))) (earliest-same j below)
    search-same (suc more) j zero below = search-same more (next w j) share (next-below w j below)
    search-same (suc more) j (suc c) below = ap₂ (or_else j c) (earliest-same j below) (search-same more (next w j) share (next-below w j below))

  module _ (test : ℕ → Bool) {f r p : ℕ} where
    or-else-below : (j c : ℕ) → j < w.frames → (o : Option ℕ) (rest : Found) → (rest ≡ found f r p → f < w.frames)
        → or_else j c o rest ≡ found f r p → f < w.frames
    or-else-below j c below (some q) rest later e = let z : j ≡ f = cc in omega arith
    or-else-below j c below none rest later e = later e

    -- the frame in which a position is found
    pub found_below : (more j c : ℕ) → j < w.frames → search w test share more j c ≡ found f r p → f < w.frames
    unfolding search
    found_below zero j zero below e = let z : ◌≡◌ {A = ℕ} 0 1 = cc in absurd (omega arith)
    found_below zero j (suc c) below e =
        or-else-below j c below (earliest w test share j) (nowhere (suc c)) (λ e. let z : ◌≡◌ {A = ℕ} 0 1 = cc in absurd (omega arith)) e
    found_below (suc more) j zero below e = found_below more (next w j) share (next-below w j below) e
    found_below (suc more) j (suc c) below e =
        or-else-below j c below (earliest w test share j) (search w test share more (next w j) share)
        (found_below more (next w j) share (next-below w j below)) e
