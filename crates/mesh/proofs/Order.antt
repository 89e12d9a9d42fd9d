-- The links of the mesh: how many, their order, and that each is told by its two ends. Assumes nothing.
use Prim.Native.Nat.{ℕ, ◌+◌, ◌*◌}
use mathlib.Core.Path.{◌≡◌, refl, sym, ap, ap₂, ◌∙◌}
use mathlib.Core.List.{map, flat_map}
use mathlib.Core.Bool.{true}
use native.Mathlib.Omega.{arith}
use lib.ListN.{length}
use borrow.Author.Tests.{ltb-true}
use Rattle.mesh.specs.Mesh.{Side, north, west, east, south, Link, link, to, beside, column, row, joined, in_mesh, keep, links, ascending}
use Rattle.mesh.proofs.OnWay.{mesh-parts}

-- the number of a board, by where it stands
pub node-is : (node : ℕ) → node ≡ column node + 8 * row node
node-is node = omega arith

-- 8 rows and 8 columns of 7 pairs of boards, each with a link in either direction
pub links-count : length links ≡ 224
unfolding links keep flat_map
links-count = refl

-- by from and then to node
pub links-ascend : ascending (map (λ l. 64 * l.from + to l) links) ≡ true
unfolding links keep flat_map ascending
links-ascend = refl

-- no board is beside itself
not-beside-itself : (side : Side) (node : ℕ) → joined side node ≡ true → beside side node ≡ node → ⊥
not-beside-itself north node j e = omega (arith, ltb-true 0 (row node) j)
not-beside-itself west node j e = omega (arith, ltb-true 0 (column node) j)
not-beside-itself east node j e = omega arith
not-beside-itself south node j e = omega arith

-- RULES 16.1: the link from a to b and the link from b to a are two
pub two-directions : (l m : Link) → in_mesh l ≡ true → m.from ≡ to l → to m ≡ l.from → l ≡ m → ⊥
two-directions l m there starts ends same =
    let joins = (mesh-parts l there).1 in
    let back : beside l.side l.from ≡ l.from = cc in
    not-beside-itself l.side l.from joins back

same-side : (s t : Side) (node : ℕ) → joined s node ≡ true → joined t node ≡ true → beside s node ≡ beside t node → s ≡ t
same-side north north node j k e = refl
same-side north west node j k e = absurd (omega (arith, ltb-true 0 (row node) j))
same-side north east node j k e = absurd (omega (arith, ltb-true 0 (row node) j))
same-side north south node j k e = absurd (omega (arith, ltb-true 0 (row node) j))
same-side west north node j k e = absurd (omega (arith, ltb-true 0 (row node) k))
same-side west west node j k e = refl
same-side west east node j k e = absurd (omega (arith, ltb-true 0 (column node) j))
same-side west south node j k e = absurd (omega (arith, ltb-true 0 (column node) j))
same-side east north node j k e = absurd (omega (arith, ltb-true 0 (row node) k))
same-side east west node j k e = absurd (omega (arith, ltb-true 0 (column node) k))
same-side east east node j k e = refl
same-side east south node j k e = absurd (omega arith)
same-side south north node j k e = absurd (omega (arith, ltb-true 0 (row node) k))
same-side south west node j k e = absurd (omega (arith, ltb-true 0 (column node) k))
same-side south east node j k e = absurd (omega arith)
same-side south south node j k e = refl

-- a link is told by the boards that it joins
pub one_link : (l m : Link) → in_mesh l ≡ true → in_mesh m ≡ true → l.from ≡ m.from → to l ≡ to m → l ≡ m
one_link l m there here e f = go e f (mesh-parts l there).1 (mesh-parts m here).1
  where
    go : l.from ≡ m.from → beside l.side l.from ≡ beside m.side m.from → joined l.side l.from ≡ true → joined m.side m.from ≡ true → l ≡ m
    go e f j k =
        let j' : joined l.side m.from ≡ true = ap (joined l.side) (sym e) ∙ j in
        let f' : beside l.side m.from ≡ beside m.side m.from = ap (beside l.side) (sym e) ∙ f in
        ap₂ link (same-side l.side m.side m.from j' k f') e
