-- A set of streams is given no refusal exactly when it is admitted. Assumes nothing.
use Prim.Native.Nat.{ℕ, ◌+◌, ◌*◌, ◌/◌, ◌%◌, ◌≤◌, ◌<◌}
use mathlib.Core.Path.{◌≡◌, refl, sym, ap, ap₂, ◌∙◌}
use mathlib.Core.List.{List, ◌∷◌, []}
use mathlib.Core.Bool.{Bool, true, false, not, ◌||◌, cond}
use native.Mathlib.Decide.{ℕ_discrete}
use native.Mathlib.Omega.{arith}
use lib.ListN.{length}
use borrow.Author.Tests.{ltb-false, le-ltb, le-leb, ne_eqb}
use Rattle.model.specs.Tables.{table}
use Rattle.model.specs.Refusals.{first_of}
use Rattle.model.proofs.Tests.{any_none, any-of-none}
use Rattle.mesh.specs.Mesh.{Side, north, west, east, south, Link, link, in_mesh, keep, some_of, links}
use Rattle.mesh.specs.Streams.{Stream, stream, load}
use Rattle.mesh.specs.Admission.{stream_fits, over, refusal_before_links, refusal, over_links, FittingStream, Admitted}
use Rattle.mesh.specs.Reading.{side_at, link_at}
use Rattle.mesh.proofs.OnWay.{mesh-parts}
use Rattle.mesh.proofs.Links.{links-are, some-over}
use Rattle.mesh.proofs.Admission.{Asked, well-asked, refused_before, refused-by-links}

-- ---- a link's place in the table

pub number : Side → ℕ
number north = 0
number west = 1
number east = 2
number south = 3

side-of : (s : Side) → side_at (number s) ≡ s
unfolding number
side-of north = refl
side-of west = refl
side-of east = refl
side-of south = refl

pub number-most : (s : Side) → number s < 4
unfolding number
number-most north = omega arith
number-most west = omega arith
number-most east = omega arith
number-most south = omega arith

module _ (l : Link) where
  abbrev pub place : ℕ
  place = 4 * l.from + number l.side

  pub link-there : link_at place ≡ l
  link-there =
      let side : place % 4 ≡ number l.side = omega (arith, number-most l.side) in
      let node : place / 4 ≡ l.from = omega (arith, number-most l.side) in
      ap₂ link (ap side_at side ∙ side-of l.side) node

-- ---- tests of lists

some-none : {A : Type 0} (p q : A → Bool) (xs : List A) → ((x : A) → q x ≡ true → p x ≡ false) → some_of p (keep q xs) ≡ false
unfolding keep some_of
some-none p q [] none = refl
some-none p q (x ∷ xs) none = go (some-none p q xs none) (q x) refl
  where
    go : some_of p (keep q xs) ≡ false → (b : Bool) → q x ≡ b → some_of p (cond b (x ∷ keep q xs) (keep q xs)) ≡ false
    go rest true e = rw (none x e) rest
    go rest false e = rest

-- what is kept of a list is nothing exactly when no entry passes
pub none_kept : {A : Type 0} (p : A → Bool) (xs : List A) → some_of p xs ≡ false → keep p xs ≡ []
unfolding keep some_of
none_kept p [] e = refl
none_kept p (x ∷ xs) e = go (none_kept p xs) (p x) e
  where
    go : (some_of p xs ≡ false → keep p xs ≡ []) → (b : Bool) → b || some_of p xs ≡ false → cond b (x ∷ keep p xs) (keep p xs) ≡ []
    go rest true f = absurd (let z : ◌≡◌ {A = ℕ} 0 1 = cc in omega arith)
    go rest false f = rest f

pub nothing-kept : {A : Type 0} (p : A → Bool) (xs : List A) → keep p xs ≡ [] → some_of p xs ≡ false
unfolding keep some_of
nothing-kept p [] e = refl
nothing-kept p (x ∷ xs) e = go (nothing-kept p xs) (p x) e
  where
    go : (keep p xs ≡ [] → some_of p xs ≡ false) → (b : Bool) → cond b (x ∷ keep p xs) (keep p xs) ≡ [] → b || some_of p xs ≡ false
    go rest true f = absurd (let z : ◌≡◌ {A = ℕ} 0 1 = cc in omega arith)
    go rest false f = rest f

-- ---- the two directions

fits : (F : ℕ) (s : Stream) → FittingStream F s → stream_fits F s ≡ true
unfolding stream_fits
fits F s f =
    rw (
      le-leb 1 s.share f.some_share,
      le-leb s.share F f.share_most,
      le-leb s.source 63 f.source_most,
      le-leb s.destination 63 f.destination_most,
      ne_eqb s.source s.destination f.ends_differ,
    )

asked-well : (F : ℕ) (streams : List Stream) → Asked F streams → refusal_before_links F streams ≡ 0
unfolding refusal_before_links first_of
asked-well F streams a =
    let fit = any-of-none (length streams) (λ i. not (stream_fits F (stream streams i))) (λ i l. ap not (fits F (stream streams i) (a.streams_fit i l))) in
    rw (le-ltb 64 (length streams) a.few, le-leb 1 F a.some_slot, le-leb F 64 a.slots_most, fit)

module _ (F : ℕ) (streams : List Stream) where
  -- no refusal: the set is admitted
  pub admitted : refusal F streams ≡ 0 → Admitted F streams
  admitted e = go (ℕ_discrete (refusal_before_links F streams) 0)
    where
      none : refusal_before_links F streams ≡ 0 → some_of (over F streams) links ≡ false
      none z = off (some_of (over F streams) links) (refused-by-links F streams z ∙ e)
        where
          off : (b : Bool) → ◌≡◌ {A = ℕ} (cond b 25 0) 0 → b ≡ false
          off true f = absurd (omega arith)
          off false f = refl

      go : Dec (refusal_before_links F streams ≡ 0) → Admitted F streams
      go (no some) = absurd (some (refused_before F streams some ∙ e))
      go (yes z) =
          let asked = well-asked F streams z in
          record {
            few = asked.few;
            some_slot = asked.some_slot;
            slots_most = asked.slots_most;
            streams_fit = asked.streams_fit;
            none_over = λ l there. at_most asked l there;
          }
        where
          at_most : Asked F streams → (l : Link) → in_mesh l ≡ true → load streams l ≤ F
          at_most asked l there =
              let node = (mesh-parts l there).0 in
              let below : place l < 256 = omega (arith, number-most l.side) in
              let none-at = any_none 256 _ (sym (some-over F streams asked.streams_fit) ∙ none z) (place l) below in
              let same = ap (load streams) (link-there l) in
              omega (arith, ltb-false F (load streams (link_at (place l))) none-at)

  none-over-links : Admitted F streams → some_of (over F streams) links ≡ false
  none-over-links a =
      ap (some_of (over F streams)) links-are
      ∙ some-none (over F streams) in_mesh (table 256 link_at) (λ l there. le-ltb F (load streams l) (a.none_over l there))

  -- an admitted set gets no refusal
  pub admits : Admitted F streams → refusal F streams ≡ 0
  admits a = sym (refused-by-links F streams passed) ∙ ap (λ b. cond b 25 0) (none-over-links a)
    where
      passed : refusal_before_links F streams ≡ 0
      passed = asked-well F streams (record { few = a.few; some_slot = a.some_slot; slots_most = a.slots_most; streams_fit = a.streams_fit })

  -- the links that are over: none in an admitted set
  pub none-listed : refusal F streams ≡ 0 → over_links F streams ≡ []
  unfolding over_links
  none-listed e = none_kept (over F streams) links (none-over-links (admitted e))

  -- a set that passes the tests before the links is admitted where none is listed
  pub listed-none : refusal_before_links F streams ≡ 0 → over_links F streams ≡ [] → refusal F streams ≡ 0
  unfolding over_links
  listed-none z e = sym (refused-by-links F streams z) ∙ ap (λ b. cond b 25 0) (nothing-kept (over F streams) links e)
