-- The way of a stream has the links that the stream uses, leads from its source to its destination, and is as long as they lie apart. Assumes nothing.
use Prim.Native.Nat.{ℕ, ◌+◌, ◌-◌, ◌*◌, ◌≤◌, ◌<◌}
use mathlib.Core.Path.{◌≡◌, refl, sym, ap, ◌∙◌}
use mathlib.Core.List.{List}
use mathlib.Core.Bool.{Bool, true, false, cond}
use mathlib.Core.Logic.{⊎_elim}
use native.Mathlib.Omega.{arith}
use lib.ListN.{length, length-append}
use lib.Dec.{ltb}
use borrow.Author.Tests.{ltb-true, ltb-false, lt-ltb, le-ltb}
use Rattle.model.proofs.Tables.{length-table}
use Rattle.mesh.specs.Mesh.{Side, north, west, east, south, Link, link, column, row}
use Rattle.mesh.specs.Streams.{Stream, uses}
use Rattle.mesh.specs.Way.{eastward, westward, southward, northward, along_row, along_column, corner, way, apart, distance, Walk, In, RightWay}
use Rattle.mesh.proofs.OnWay.{OnWay, on-way, way_on, on-way-joined, mesh-whole}
use Rattle.mesh.proofs.Walks.{walk-on, chain, walk-between, in_table, of-table, in-first, in-second, in_either}

-- ---- in one direction

module _ (n node : ℕ) where
  east-walk : Walk node (eastward n node) (node + n)
  east-walk = walk-between (omega arith) refl (chain n (λ k. link east (node + k)) (λ k. omega arith))

  west-walk : Walk node (westward n node) (node - n)
  west-walk = walk-between (omega arith) refl (chain n (λ k. link west (node - k)) (λ k. omega arith))

  south-walk : Walk node (southward n node) (node + 8 * n)
  south-walk = walk-between (omega arith) refl (chain n (λ k. link south (node + 8 * k)) (λ k. omega arith))

  north-walk : Walk node (northward n node) (node - 8 * n)
  north-walk = walk-between (omega arith) refl (chain n (λ k. link north (node - 8 * k)) (λ k. omega arith))

-- ---- along a row, and along a column

module _ (node target : ℕ) where
  row-walk : target < 8 → Walk node (along_row node target) (target + 8 * row node)
  row-walk h = go (ltb (column node) target) refl
    where
      go : (b : Bool) → ltb (column node) target ≡ b
          → Walk node (cond b (eastward (target - column node) node) (westward (column node - target) node)) (target + 8 * row node)
      go true e = walk-between refl (omega (arith, ltb-true (column node) target e)) (east-walk (target - column node) node)
      go false e = walk-between refl (omega (arith, ltb-false (column node) target e)) (west-walk (column node - target) node)

  column-walk : Walk node (along_column node target) (column node + 8 * target)
  column-walk = go (ltb (row node) target) refl
    where
      go : (b : Bool) → ltb (row node) target ≡ b
          → Walk node (cond b (southward (target - row node) node) (northward (row node - target) node)) (column node + 8 * target)
      go true e = walk-between refl (omega (arith, ltb-true (row node) target e)) (south-walk (target - row node) node)
      go false e = walk-between refl (omega (arith, ltb-false (row node) target e)) (north-walk (row node - target) node)

  row-length : length (along_row node target) ≡ apart (column node) target
  row-length = go (ltb (column node) target) refl
    where
      go : (b : Bool) → ltb (column node) target ≡ b
          → length (cond b (eastward (target - column node) node) (westward (column node - target) node)) ≡ apart (column node) target
      go true e = omega (arith, ltb-true (column node) target e, length-table (target - column node) (λ k. link east (node + k)))
      go false e = omega (arith, ltb-false (column node) target e, length-table (column node - target) (λ k. link west (node - k)))

  column-length : length (along_column node target) ≡ apart (row node) target
  column-length = go (ltb (row node) target) refl
    where
      go : (b : Bool) → ltb (row node) target ≡ b
          → length (cond b (southward (target - row node) node) (northward (row node - target) node)) ≡ apart (row node) target
      go true e = omega (arith, ltb-true (row node) target e, length-table (target - row node) (λ k. link south (node + 8 * k)))
      go false e = omega (arith, ltb-false (row node) target e, length-table (row node - target) (λ k. link north (node - 8 * k)))

-- ---- the way

module _ (s : Stream) where
  abbrev from-node : ℕ
  from-node = s.source

  abbrev to-node : ℕ
  to-node = s.destination

  abbrev first : List Link
  first = along_row from-node (column to-node)

  abbrev second : List Link
  second = along_column (corner s) (row to-node)

  way-walk : Walk from-node (way s) to-node
  unfolding way
  way-walk =
      walk-on (row-walk from-node (column to-node) (omega arith))
      (walk-between refl (omega arith) (column-walk (corner s) (row to-node)))

  way-length : length (way s) ≡ distance s
  unfolding way
  way-length = omega (arith, length-append first second, row-length from-node (column to-node), column-length (corner s) (row to-node))

  -- a link that is used stands in the way
  used-east : (node : ℕ) → OnWay from-node to-node east node → In (link east node) first
  used-east node h =
      rw (lt-ltb (column from-node) (column to-node) (omega (arith, h.1.0, h.1.1)))
      (in_table (column to-node - column from-node) (λ k. link east (from-node + k)) (column node - column from-node) (link east node) (omega (arith, h.1.0, h.1.1))
      (ap (link east) (omega (arith, h.0, h.1.0))))

  used-west : (node : ℕ) → OnWay from-node to-node west node → In (link west node) first
  used-west node h =
      rw (le-ltb (column from-node) (column to-node) (omega (arith, h.1.0, h.1.1)))
      (in_table (column from-node - column to-node) (λ k. link west (from-node - k)) (column from-node - column node) (link west node) (omega (arith, h.1.0, h.1.1))
      (ap (link west) (omega (arith, h.0, h.1.1))))

  used-south : (node : ℕ) → OnWay from-node to-node south node → In (link south node) second
  used-south node h =
      rw (lt-ltb (row (corner s)) (row to-node) (omega (arith, h.1.0, h.1.1)))
      (in_table (row to-node - row (corner s)) (λ k. link south (corner s + 8 * k)) (row node - row from-node) (link south node) (omega (arith, h.1.0, h.1.1))
      (ap (link south) (omega (arith, h.0, h.1.0))))

  used-north : (node : ℕ) → OnWay from-node to-node north node → In (link north node) second
  used-north node h =
      rw (le-ltb (row (corner s)) (row to-node) (omega (arith, h.1.0, h.1.1)))
      (in_table (row (corner s) - row to-node) (λ k. link north (corner s - 8 * k)) (row from-node - row node) (link north node) (omega (arith, h.1.0, h.1.1))
      (ap (link north) (omega (arith, h.0, h.1.1))))

  used-in-way : (side : Side) (node : ℕ) → OnWay from-node to-node side node → In (link side node) (way s)
  unfolding way
  used-in-way north node h = in-second first second (used-north node h)
  used-in-way west node h = in-first first second (used-west node h)
  used-in-way east node h = in-first first second (used-east node h)
  used-in-way south node h = in-second first second (used-south node h)

  -- a link that stands in the way is used
  same-use : {l : Link} {side : Side} {node : ℕ} → link side node ≡ l → OnWay from-node to-node side node → uses s l ≡ true
  unfolding uses
  same-use {l} {side} {node} e h = ap (uses s) (sym e) ∙ way_on from-node to-node side node h

  row-used : (l : Link) → In l first → uses s l ≡ true
  row-used l i = go (ltb (column from-node) (column to-node)) refl i
    where
      go : (b : Bool) → ltb (column from-node) (column to-node) ≡ b
          → In l (cond b (eastward (column to-node - column from-node) from-node) (westward (column from-node - column to-node) from-node)) → uses s l ≡ true
      go true e i =
          let m = of-table (column to-node - column from-node) (λ k. link east (from-node + k)) l i in
          same-use {side = east} m.is (omega (arith, m.below), (omega (arith, m.below), omega (arith, m.below)))
      go false e i =
          let m = of-table (column from-node - column to-node) (λ k. link west (from-node - k)) l i in
          same-use {side = west} m.is (omega (arith, m.below), (omega (arith, m.below), omega (arith, m.below)))

  column-used : (l : Link) → In l second → uses s l ≡ true
  column-used l i = go (ltb (row (corner s)) (row to-node)) refl i
    where
      go : (b : Bool) → ltb (row (corner s)) (row to-node) ≡ b
          → In l (cond b (southward (row to-node - row (corner s)) (corner s)) (northward (row (corner s) - row to-node) (corner s))) → uses s l ≡ true
      go true e i =
          let m = of-table (row to-node - row (corner s)) (λ k. link south (corner s + 8 * k)) l i in
          same-use {side = south} m.is (omega (arith, m.below), (omega (arith, m.below), omega (arith, m.below)))
      go false e i =
          let m = of-table (row (corner s) - row to-node) (λ k. link north (corner s - 8 * k)) l i in
          same-use {side = north} m.is (omega (arith, m.below), (omega (arith, m.below), omega (arith, m.below)))

  way-used : (l : Link) → In l (way s) → uses s l ≡ true
  unfolding way
  way-used l i = ⊎_elim (row-used l) (column-used l) (in_either first second i)

  -- ---- within the mesh

  node-most : from-node ≤ 63 → to-node ≤ 63 → (side : Side) (node : ℕ) → OnWay from-node to-node side node → node < 64
  node-most f t north node h = omega (arith, h.1.1)
  node-most f t west node h = omega (arith, h.0)
  node-most f t east node h = omega (arith, h.0)
  node-most f t south node h = omega (arith, h.1.1)

  pub right-way : from-node ≤ 63 → to-node ≤ 63 → RightWay s (way s)
  unfolding uses
  right-way f t = record {
    walk = way-walk;
    as_long = way-length;
    all_used = way-used;
    none_else = λ l e. used-in-way l.side l.from (on-way from-node to-node l.side l.from e);
    in_mesh = λ l i.
        let h = on-way from-node to-node l.side l.from (way-used l i) in
        mesh-whole l (node-most f t l.side l.from h) (on-way-joined from-node to-node t l.side l.from h);
  }
