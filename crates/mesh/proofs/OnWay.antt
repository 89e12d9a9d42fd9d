-- The links of a way as facts about numbers. Assumes nothing.
use Prim.Native.Nat.{ℕ, ◌≤◌, ◌<◌}
use mathlib.Core.Path.{◌≡◌}
use mathlib.Core.Bool.{true, ◌&&◌}
use native.Mathlib.Omega.{arith}
use lib.Dec.{leb, ltb, eqb}
use borrow.Author.Tests.{ltb-true, leb-true, eqb-true, lt-ltb, le-leb, eq-eqb}
use Rattle.model.proofs.Tests.{and-true}
use Rattle.mesh.specs.Mesh.{Side, north, west, east, south, Link, column, row, joined, in_mesh}
use Rattle.mesh.specs.Streams.{on_way}

module _ (line line' a b c d : ℕ) where
  parts : eqb line line' && (leb a b && ltb c d) ≡ true → (line ≡ line') × ((a ≤ b) × (c < d))
  parts e =
      let first = and-true (eqb line line') (leb a b && ltb c d) e in
      let second = and-true (leb a b) (ltb c d) first.1 in
      (eqb-true line line' first.0, (leb-true a b second.0, ltb-true c d second.1))

  parts-back : eqb line line' && (ltb a b && leb c d) ≡ true → (line ≡ line') × ((a < b) × (c ≤ d))
  parts-back e =
      let first = and-true (eqb line line') (ltb a b && leb c d) e in
      let second = and-true (ltb a b) (leb c d) first.1 in
      (eqb-true line line' first.0, (ltb-true a b second.0, leb-true c d second.1))

  whole : line ≡ line' → a ≤ b → c < d → eqb line line' && (leb a b && ltb c d) ≡ true
  whole e f g = rw (eq-eqb line line' e, le-leb a b f, lt-ltb c d g)

  whole_back : line ≡ line' → a < b → c ≤ d → eqb line line' && (ltb a b && leb c d) ≡ true
  whole_back e f g = rw (eq-eqb line line' e, lt-ltb a b f, le-leb c d g)

-- which links lie on the way, in numbers
abbrev pub OnWay : (source destination : ℕ) → Side → (node : ℕ) → Type 0
OnWay s d east node = (row node ≡ row s) × ((column s ≤ column node) × (column node < column d))
OnWay s d west node = (row node ≡ row s) × ((column d < column node) × (column node ≤ column s))
OnWay s d south node = (column node ≡ column d) × ((row s ≤ row node) × (row node < row d))
OnWay s d north node = (column node ≡ column d) × ((row d < row node) × (row node ≤ row s))

module _ (s d : ℕ) where
  pub on-way : (side : Side) (node : ℕ) → on_way s d side node ≡ true → OnWay s d side node
  on-way north node e = parts-back (column node) (column d) (row d) (row node) (row node) (row s) e
  on-way west node e = parts-back (row node) (row s) (column d) (column node) (column node) (column s) e
  on-way east node e = parts (row node) (row s) (column s) (column node) (column node) (column d) e
  on-way south node e = parts (column node) (column d) (row s) (row node) (row node) (row d) e

  pub way_on : (side : Side) (node : ℕ) → OnWay s d side node → on_way s d side node ≡ true
  way_on north node h = whole_back (column node) (column d) (row d) (row node) (row node) (row s) h.0 h.1.0 h.1.1
  way_on west node h = whole_back (row node) (row s) (column d) (column node) (column node) (column s) h.0 h.1.0 h.1.1
  way_on east node h = whole (row node) (row s) (column s) (column node) (column node) (column d) h.0 h.1.0 h.1.1
  way_on south node h = whole (column node) (column d) (row s) (row node) (row node) (row d) h.0 h.1.0 h.1.1

  -- a way has links of the mesh only
  pub on-way-joined : d ≤ 63 → (side : Side) (node : ℕ) → OnWay s d side node → joined side node ≡ true
  on-way-joined most north node h = lt-ltb 0 (row node) (omega (arith, h.1.0))
  on-way-joined most west node h = lt-ltb 0 (column node) (omega (arith, h.1.0))
  on-way-joined most east node h = lt-ltb (column node) 7 (omega (arith, h.1.1))
  on-way-joined most south node h = lt-ltb (row node) 7 (omega (arith, h.1.1))

-- a link of the mesh leaves one of the 64 boards, and leads to one
pub mesh-parts : (l : Link) → in_mesh l ≡ true → (l.from < 64) × (joined l.side l.from ≡ true)
mesh-parts l there = let p = and-true (ltb l.from 64) (joined l.side l.from) there in (ltb-true l.from 64 p.0, p.1)

pub mesh-whole : (l : Link) → l.from < 64 → joined l.side l.from ≡ true → in_mesh l ≡ true
mesh-whole l h j = rw (lt-ltb l.from 64 h) j
