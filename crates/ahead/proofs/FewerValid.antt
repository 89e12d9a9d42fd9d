-- The search where fewer positions are valid: it fails where it failed, and finds what it found if that is still valid. Assumes nothing.
use Prim.Native.Nat.{ℕ, zero, suc, ◌+◌, ◌-◌, ◌≤◌, ◌<◌}
use mathlib.Core.Path.{◌≡◌, refl, sym, ap, ◌∙◌, subst}
use mathlib.Core.Option.{Option, some, none}
use mathlib.Core.Bool.{Bool, true, false, cond}
use native.Mathlib.Nat.{mod-lt}
use native.Mathlib.Omega.{arith}
use Rattle.model.specs.Tables.{first_from}
use Rattle.model.specs.Window.{Window, size, start, next}
use Rattle.model.specs.Request.{Found, found, nowhere, earliest, or_else, search}
use Rattle.model.proofs.Tables.{first_from-some}
use Rattle.model.proofs.SearchedFrames.{in_window}

-- What g says of the first number that passes f: it is the first that passes g, if it passes g; and where none passes f, none passes g.
abbrev pub Still : (g : ℕ → Bool) → Option ℕ → Option ℕ → Type 0
Still g (some p) o = g p ≡ true → o ≡ some p
Still g none o = o ≡ none

first-still : (n k : ℕ) (f g : ℕ → Bool) → ((p : ℕ) → k ≤ p → p < k + n → g p ≡ true → f p ≡ true) → Still g (first_from n k f) (first_from n k g)
unfolding first_from
first-still zero k f g less = refl
first-still (suc n) k f g less =
    go (f k) refl (g k) refl (less k (omega arith) (omega arith)) (first-still n (suc k) f g (λ p l h. less p (omega arith) (omega arith)))
  where
    go : (a : Bool) → f k ≡ a → (b : Bool) → g k ≡ b → (g k ≡ true → f k ≡ true) → Still g (first_from n (suc k) f) (first_from n (suc k) g)
        → Still g (cond a (some k) (first_from n (suc k) f)) (cond b (some k) (first_from n (suc k) g))
    go true e true e' both rest = λ passes. refl
    go true e false e' both rest = λ passes. let z : ◌≡◌ {A = Bool} false true = sym e' ∙ passes in let no : ◌≡◌ {A = ℕ} 0 1 = cc in absurd (omega arith)
    go false e true e' both rest = let z : ◌≡◌ {A = Bool} false true = sym e ∙ both e' in let no : ◌≡◌ {A = ℕ} 0 1 = cc in absurd (omega arith)
    go false e false e' both rest = rest

-- the same of a search
abbrev pub Follows : (g : ℕ → Bool) → Found → Found → Type 0
Follows g (found j c p) o = g p ≡ true → o ≡ found j c p
Follows g (nowhere c) o = o ≡ nowhere c

module _ (w : Window) (share : ℕ) where
  module _ (f g : ℕ → Bool) (less : (p : ℕ) → p < size w → g p ≡ true → f p ≡ true) where
    earliest-still : (j : ℕ) → j < w.frames → Still g (earliest w f share j) (earliest w g share j)
    earliest-still j below =
        first-still w.slots (start w j) f g λ p low high.
        less p (let z = in_window w j (p - start w j) below (omega arith) in omega arith)

    or-else-follows : (j c : ℕ) (o o' : Option ℕ) (rest rest' : Found) → Still g o o' → Follows g rest rest'
        → Follows g (or_else j c o rest) (or_else j c o' rest')
    or-else-follows j c (some p) o' rest rest' still follows = λ passes. ap (λ o. or_else j c o rest') (still passes)
    or-else-follows j c none o' rest rest' still follows = subst (λ o. Follows g rest (or_else j c o rest')) (sym still) follows

    next-below : (j : ℕ) → j < w.frames → next w j < w.frames
    next-below j below = mod-lt (j + 1) (omega arith)

    pub search-follows : (more j c : ℕ) → j < w.frames → Follows g (search w f share more j c) (search w g share more j c)
    unfolding search
    search-follows zero j zero below = refl
    search-follows zero j (suc c) below =
        or-else-follows j c (earliest w f share j) (earliest w g share j) (nowhere (suc c)) (nowhere (suc c)) (earliest-still j below) refl
    search-follows (suc more) j zero below = search-follows more (next w j) share (next-below j below)
    search-follows (suc more) j (suc c) below =
        or-else-follows j c (earliest w f share j) (earliest w g share j) (search w f share more (next w j) share) (search w g share more (next w j) share)
        (earliest-still j below) (search-follows more (next w j) share (next-below j below))

  -- what is found is valid, and lies in the window
  module _ (f : ℕ → Bool) where
    abbrev pub FoundValid : Found → Type 0
    FoundValid (found j c p) = (p < size w) × (f p ≡ true)
    FoundValid (nowhere c) = Unit {0}

    or-else-valid : (j c : ℕ) → j < w.frames → (rest : Found) → FoundValid rest → FoundValid (or_else j c (earliest w f share j) rest)
    or-else-valid j c below rest later = go (earliest w f share j) refl
      where
        go : (o : Option ℕ) → earliest w f share j ≡ o → FoundValid (or_else j c o rest)
        go none e = later
        go (some p) e =
            let hit = first_from-some w.slots (start w j) f p e in
            (let z = in_window w j (p - start w j) below (omega (arith, hit.low, hit.high)) in omega (arith, hit.low), hit.passes)

    pub search-valid : (more j c : ℕ) → j < w.frames → FoundValid (search w f share more j c)
    unfolding search
    search-valid zero j zero below = tt
    search-valid zero j (suc c) below = or-else-valid j c below (nowhere (suc c)) tt
    search-valid (suc more) j zero below = search-valid more (next w j) share (mod-lt (j + 1) (omega arith))
    search-valid (suc more) j (suc c) below =
        or-else-valid j c below (search w f share more (next w j) share) (search-valid more (next w j) share (mod-lt (j + 1) (omega arith)))
