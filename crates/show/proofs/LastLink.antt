-- The last link of a stream's way is the one that leads to its destination. Assumes nothing.
use Prim.Native.Nat.{ℕ, zero, suc, ◌<◌}
use mathlib.Core.Path.{◌≡◌, refl, sym, ap, ◌∙◌}
use mathlib.Core.List.{List, ◌∷◌, []}
use mathlib.Core.Bool.{cond}
use native.Mathlib.Omega.{arith}
use lib.ListN.{length, get_or}
use borrow.Author.Tests.{eq-eqb, ne_eqb}
use Rattle.mesh.specs.Mesh.{Side, north, west, east, south, Link, to}
use Rattle.mesh.specs.Streams.{Stream, uses}
use Rattle.mesh.specs.Way.{Walk, arrived, hop, In, RightWay}
use Rattle.mesh.proofs.OnWay.{OnWay, on-way}
use Rattle.show.specs.Show.{ShowStream, entry_on}

-- ---- walks

no-link : {a b : ℕ} {ls : List Link} → Walk a ls b → length ls ≡ 0 → a ≡ b
no-link arrived e = refl
no-link (hop l w) e = absurd (omega arith)

first-link : {a b : ℕ} {ls : List Link} → Walk a ls b → 0 < length ls → (d : Link) → a ≡ (get_or ls 0 d).from
first-link arrived h d = absurd (omega arith)
first-link (hop l w) h d = refl

-- the last link leads to the walk's end
last-to : {a b : ℕ} {ls : List Link} → Walk a ls b → (p : ℕ) → suc p ≡ length ls → (d : Link) → to (get_or ls p d) ≡ b
last-to arrived p e d = absurd (omega arith)
last-to (hop l w) zero e d = no-link w (omega arith)
last-to (hop l w) (suc p) e d = last-to w p (omega arith) d

-- each other link leads to the next one's start
next-from : {a b : ℕ} {ls : List Link} → Walk a ls b → (p : ℕ) → suc p < length ls → (d : Link) → to (get_or ls p d) ≡ (get_or ls (suc p) d).from
next-from arrived p h d = absurd (omega arith)
next-from (hop l w) zero h d = first-link w (omega arith) d
next-from (hop l w) (suc p) h d = next-from w p (omega arith) d

any-default : {A : Type 0} (xs : List A) (i : ℕ) (d e : A) → i < length xs → get_or xs i d ≡ get_or xs i e
any-default [] i d e h = absurd (omega arith)
any-default (x ∷ xs) zero d e h = refl
any-default (x ∷ xs) (suc i) d e h = any-default xs i d e (omega arith)

-- ---- ways

-- no link of a way leaves the destination
not-from-end : (s d : ℕ) (side : Side) (node : ℕ) → node ≡ d → OnWay s d side node → ⊥
not-from-end s d north node e h = omega (arith, h.1.0)
not-from-end s d west node e h = omega (arith, h.1.0)
not-from-end s d east node e h = omega (arith, h.1.1)
not-from-end s d south node e h = omega (arith, h.1.1)

module _ {s : Stream} {ls : List Link} (right : RightWay s ls) {l : Link} (on : In l ls) where
  pub is_last : suc on.place ≡ length ls → to l ≡ s.destination
  is_last e = ap to (sym on.there) ∙ last-to right.walk on.place e l

  pub not_last : suc on.place < length ls → to l ≡ s.destination → ⊥
  unfolding uses
  not_last h e =
      let next = get_or ls (suc on.place) l in
      let there : In next ls = record { place = suc on.place; within = h; there = any-default ls (suc on.place) next l h } in
      let starts : next.from ≡ s.destination = sym (next-from right.walk on.place h l) ∙ ap to on.there ∙ e in
      not-from-end s.source s.destination next.side next.from starts (on-way s.source s.destination next.side next.from (right.all_used next there))

-- ---- cells

pub last-cells : (l : Link) (s : ShowStream) → to l ≡ s.stream.destination → (entry_on l s).cells ≡ s.last_cells
last-cells l s e = ap (λ b. cond b s.last_cells s.cells) (eq-eqb (to l) s.stream.destination e)

pub usual-cells : (l : Link) (s : ShowStream) → (to l ≡ s.stream.destination → ⊥) → (entry_on l s).cells ≡ s.cells
usual-cells l s d = ap (λ b. cond b s.last_cells s.cells) (ne_eqb (to l) s.stream.destination d)
