-- The links of the mesh and the places of the table: what a place that is no link carries is nothing. Assumes nothing.
use Prim.Native.Nat.{ℕ, zero, suc, ◌/◌, ◌<◌}
use mathlib.Core.Path.{◌≡◌, refl, sym, ap, ◌∙◌}
use mathlib.Core.List.{List, ◌∷◌, [], flat_map}
use mathlib.Core.Bool.{Bool, true, false, ◌&&◌, ◌||◌, cond}
use native.Mathlib.Omega.{arith}
use lib.ListN.{length}
use borrow.Author.Tests.{lt-ltb, le-ltb}
use Rattle.model.specs.Tables.{table, any, sum}
use Rattle.model.proofs.Tests.{any_same}
use Rattle.mesh.specs.Mesh.{Link, joined, in_mesh, keep, some_of, links}
use Rattle.mesh.specs.Streams.{Stream, stream, uses, load}
use Rattle.mesh.specs.Admission.{over, FittingStream, over_links}
use Rattle.mesh.specs.Reading.{link_at}
use Rattle.mesh.proofs.OnWay.{on-way, on-way-joined}

-- ---- lists that are tested

module _ {A : Type 0} where
  keep-and : (p q : A → Bool) (xs : List A) → keep p (keep q xs) ≡ keep (λ x. q x && p x) xs
  unfolding keep
  keep-and p q [] = refl
  keep-and p q (x ∷ xs) = go (keep-and p q xs) (q x)
    where
      go : keep p (keep q xs) ≡ keep (λ x. q x && p x) xs → (b : Bool)
          → keep p (cond b (x ∷ keep q xs) (keep q xs)) ≡ cond (b && p x) (x ∷ keep (λ x. q x && p x) xs) (keep (λ x. q x && p x) xs)
      go rest true = ap (λ l. cond (p x) (x ∷ l) l) rest
      go rest false = rest

  some-and : (p q : A → Bool) (xs : List A) → some_of p (keep q xs) ≡ some_of (λ x. q x && p x) xs
  unfolding keep some_of
  some-and p q [] = refl
  some-and p q (x ∷ xs) = go (some-and p q xs) (q x)
    where
      go : some_of p (keep q xs) ≡ some_of (λ x. q x && p x) xs → (b : Bool)
          → some_of p (cond b (x ∷ keep q xs) (keep q xs)) ≡ (b && p x) || some_of (λ x. q x && p x) xs
      go rest true = ap (p x ||◌) rest
      go rest false = rest

  keep-table-same : (n : ℕ) (f : ℕ → A) (p q : A → Bool) → ((k : ℕ) → k < n → p (f k) ≡ q (f k)) → keep p (table n f) ≡ keep q (table n f)
  unfolding keep
  keep-table-same zero f p q same = refl
  keep-table-same (suc n) f p q same =
      rw (same 0 (omega arith)) (ap (λ l. cond (q (f 0)) (f 0 ∷ l) l) (keep-table-same n (λ k. f (suc k)) p q (λ k l. same (suc k) (omega arith))))

or_swap : (a b c : Bool) → a || (b || c) ≡ b || (a || c)
or_swap true true c = refl
or_swap true false c = refl
or_swap false b c = refl

any-first : (n : ℕ) (g : ℕ → Bool) → g 0 || any n (λ k. g (suc k)) ≡ any (suc n) g
unfolding any
any-first zero g = refl
any-first (suc n) g = or_swap (g 0) (g (suc n)) (any n (λ k. g (suc k))) ∙ ap (g (suc n) ||◌) (any-first n g)

some-table : {A : Type 0} (n : ℕ) (f : ℕ → A) (p : A → Bool) → some_of p (table n f) ≡ any n (λ k. p (f k))
unfolding some_of any
some-table zero f p = refl
some-table (suc n) f p = ap (p (f 0) ||◌) (some-table n (λ k. f (suc k)) p) ∙ any-first n (λ k. p (f k))

-- ---- the places of the table

-- the links of the mesh are the places of the table that are links
pub links-are : links ≡ keep in_mesh (table 256 link_at)
unfolding links flat_map
links-are = refl

-- ---- a stream uses links of the mesh only

sum-zero : (n : ℕ) (f : ℕ → ℕ) → ((i : ℕ) → i < n → f i ≡ 0) → sum n f ≡ 0
unfolding sum
sum-zero zero f none = refl
sum-zero (suc n) f none = omega (arith, none n (omega arith), sum-zero n f (λ i l. none i (omega arith)))

module _ (F : ℕ) (streams : List Stream) (fit : (i : ℕ) → i < length streams → FittingStream F (stream streams i)) where
  -- no stream uses what is no link
  unused : (l : Link) → joined l.side l.from ≡ false → load streams l ≡ 0
  unfolding load uses
  unused l off = sum-zero (length streams) _ (λ i h. go i h (uses (stream streams i) l) refl)
    where
      go : (i : ℕ) → i < length streams → (b : Bool) → uses (stream streams i) l ≡ b → cond b (stream streams i).share 0 ≡ 0
      go i h false e = refl
      go i h true e =
          let s = stream streams i in
          let way = on-way s.source s.destination l.side l.from e in
          let on = on-way-joined s.source s.destination (fit i h).destination_most l.side l.from way in
          let z : ◌≡◌ {A = ℕ} 0 1 = cc in
          absurd (omega arith)

  -- a place that is over is a link of the mesh
  over-in-mesh : (k : ℕ) → k < 256 → in_mesh (link_at k) && over F streams (link_at k) ≡ over F streams (link_at k)
  over-in-mesh k h = rw (lt-ltb (k / 4) 64 (omega arith)) (go (joined (link_at k).side (k / 4)) refl)
    where
      go : (b : Bool) → joined (link_at k).side (k / 4) ≡ b → b && over F streams (link_at k) ≡ over F streams (link_at k)
      go true e = refl
      go false e = sym (le-ltb F (load streams (link_at k)) (omega (arith, unused (link_at k) e)))

  pub some-over : some_of (over F streams) links ≡ any 256 (λ k. over F streams (link_at k))
  some-over =
      ap (some_of (over F streams)) links-are ∙ some-and (over F streams) in_mesh (table 256 link_at)
      ∙ some-table 256 link_at (λ l. in_mesh l && over F streams l) ∙ any_same 256 _ _ over-in-mesh

  pub over-links-are : over_links F streams ≡ keep (over F streams) (table 256 link_at)
  unfolding over_links
  over-links-are =
      ap (keep (over F streams)) links-are ∙ keep-and (over F streams) in_mesh (table 256 link_at)
      ∙ keep-table-same 256 link_at (λ l. in_mesh l && over F streams l) (over F streams) over-in-mesh
