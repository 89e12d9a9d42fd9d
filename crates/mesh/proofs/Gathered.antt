-- Loads to which one stream after another is added. Assumes nothing.
use Prim.Native.Nat.{ℕ, zero, suc, ◌+◌, ◌/◌, ◌%◌, ◌≤◌, ◌<◌}
use mathlib.Core.Path.{◌≡◌, refl, ap, ◌∙◌}
use mathlib.Core.List.{List, ◌∷◌}
use mathlib.Core.Bool.{Bool, cond}
use native.Mathlib.Omega.{arith}
use lib.ListN.{get_or, replicate}
use lib.Dec.{leb, ltb}
use borrow.Author.Tests.{ltb-true, leb-true, lt-ltb, le-leb, eq-eqb}
use Rattle.model.specs.Tables.{table, sum}
use Rattle.model.proofs.Tests.{same_truth}
use Rattle.model.proofs.Tables.{get_d-table, table_same}
use Rattle.model.proofs.Tallies.{sum-le, sum-const}
use Rattle.limits.proofs.Tests.{sum_more}
use Rattle.mesh.specs.Mesh.{north, west, east, south, column, row}
use Rattle.mesh.specs.Streams.{stream_with, on_way, uses, share_on}
use Rattle.mesh.specs.Reading.{stream_at, side_at, link_at}
use Rattle.mesh.specs.Loads.{Small, SmallStreams, in_line, raised, gathered_loads}
use Rattle.mesh.proofs.Raised.{small-table, get_d-raised, raised-table, at_most}
use Rattle.mesh.proofs.Lines.{off-side}

-- ---- one stream

above-is : (a b : ℕ) → leb (a + 1) b ≡ ltb a b
above-is a b = same_truth _ _ (λ e. lt-ltb a b (omega (arith, leb-true (a + 1) b e))) (λ e. le-leb (a + 1) b (omega (arith, ltb-true a b e)))

up-to-is : (a b : ℕ) → ltb a (b + 1) ≡ leb a b
up-to-is a b = same_truth _ _ (λ e. le-leb a b (omega (arith, ltb-true a (b + 1) e))) (λ e. lt-ltb a (b + 1) (omega (arith, leb-true a b e)))

module _ (s d : ℕ) where
  -- the places of the links that a stream uses, by their side
  abbrev pub to-north : ℕ → Bool
  to-north = in_line 0 (column d) (row d + 1) (row s + 1)

  abbrev pub to-west : ℕ → Bool
  to-west = in_line 1 (row s) (column d + 1) (column s + 1)

  abbrev pub to-east : ℕ → Bool
  to-east = in_line 2 (row s) (column s) (column d)

  abbrev pub to-south : ℕ → Bool
  to-south = in_line 3 (column d) (row s) (row d)

  module _ (k : ℕ) where
    north-is : k % 4 ≡ 0 → to-north k ≡ on_way s d north (k / 4)
    unfolding in_line
    north-is e = rw (eq-eqb (k % 4) 0 e, above-is, up-to-is)

    west-is : k % 4 ≡ 1 → to-west k ≡ on_way s d west (k / 4)
    unfolding in_line
    west-is e = rw (eq-eqb (k % 4) 1 e, above-is, up-to-is)

    east-is : k % 4 ≡ 2 → to-east k ≡ on_way s d east (k / 4)
    unfolding in_line
    east-is e = rw (eq-eqb (k % 4) 2 e)

    south-is : k % 4 ≡ 3 → to-south k ≡ on_way s d south (k / 4)
    unfolding in_line
    south-is e = rw (eq-eqb (k % 4) 3 e)

  abbrev part : ℕ → Bool → ℕ
  part share b = cond b share 0

  abbrev parts : (share k : ℕ) → ℕ
  parts share k = part share (to-north k) + part share (to-west k) + part share (to-east k) + part share (to-south k)

  -- at each place one of the four at the most is raised
  pub parts_are : (share k : ℕ) → parts share k ≡ share_on (link_at k) (stream_with s d share)
  unfolding uses
  parts_are share k = go (k % 4) refl (omega arith)
    where
      off : (side line low high : ℕ) → (k % 4 ≡ side → ⊥) → part share (in_line side line low high k) ≡ 0
      off side line low high other = ap (part share) (off-side side line low high k other)

      no-north : (k % 4 ≡ 0 → ⊥) → part share (to-north k) ≡ 0
      no-north = off 0 (column d) (row d + 1) (row s + 1)

      no-west : (k % 4 ≡ 1 → ⊥) → part share (to-west k) ≡ 0
      no-west = off 1 (row s) (column d + 1) (column s + 1)

      no-east : (k % 4 ≡ 2 → ⊥) → part share (to-east k) ≡ 0
      no-east = off 2 (row s) (column s) (column d)

      no-south : (k % 4 ≡ 3 → ⊥) → part share (to-south k) ≡ 0
      no-south = off 3 (column d) (row s) (row d)

      go : (r : ℕ) → k % 4 ≡ r → r < 4 → parts share k ≡ part share (on_way s d (side_at r) (k / 4))
      go zero e l = omega (arith, ap (part share) (north-is k e), no-west (λ q. omega arith), no-east (λ q. omega arith), no-south (λ q. omega arith))
      go (suc zero) e l = omega (arith, no-north (λ q. omega arith), ap (part share) (west-is k e), no-east (λ q. omega arith), no-south (λ q. omega arith))
      go (suc (suc zero)) e l = omega (arith, no-north (λ q. omega arith), no-west (λ q. omega arith), ap (part share) (east-is k e), no-south (λ q. omega arith))
      go (suc (suc (suc zero))) e l = omega (arith, no-north (λ q. omega arith), no-west (λ q. omega arith), no-east (λ q. omega arith), ap (part share) (south-is k e))
      go (suc (suc (suc (suc r)))) e l = absurd (omega arith)

-- four lines raised one after another add the stream's share
pub stream-added : (s d share : ℕ) (loads : List ℕ)
    → raised (to-south s d) share (raised (to-east s d) share (raised (to-west s d) share (raised (to-north s d) share loads)))
    ≡ table 256 (λ k. get_or loads k 0 + share_on (link_at k) (stream_with s d share))
stream-added s d share loads =
    let north = raised (to-north s d) share loads in
    let west = raised (to-west s d) share north in
    let east = raised (to-east s d) share west in
    let after : ℕ → ℕ = λ k. get_or loads k 0 + share_on (link_at k) (stream_with s d share) in
    let same : (k : ℕ) → k < 256 → get_or east k 0 + cond (to-south s d k) share 0 ≡ after k =
    λ k l. omega (
      arith,
      get_d-raised share west (to-east s d) k l,
      get_d-raised share north (to-west s d) k l,
      get_d-raised share loads (to-north s d) k l,
      parts_are s d share k,
    )
    in
    raised-table share east (to-south s d) after same

-- ---- all streams

pub record GatheredTo (numbers : List ℕ) (count : ℕ) (loads : List ℕ) (i : ℕ) : Type 0 where
  pub within : i ≤ count
  pub loads_are : loads ≡ gathered_loads numbers i

none_yet : (n : ℕ) (f : ℕ → ℕ → ℕ) → replicate n 0 ≡ table n (λ k. sum 0 (f k))
unfolding sum
none_yet zero f = refl
none_yet (suc n) f = ap (0 ∷◌) (none_yet n (λ k. f (suc k)))

one_more : (n : ℕ) (f : ℕ → ℕ → ℕ) (i : ℕ) (xs : List ℕ) → xs ≡ table n (λ k. sum i (f k)) → table n (λ k. get_or xs k 0 + f k i) ≡ table n (λ k. sum (i + 1) (f k))
one_more n f i xs e =
    table_same n _ _ (λ k l. omega (arith, ap (λ l. get_or l k 0) e, get_d-table n (λ k. sum i (f k)) k 0 l, sum_more (f k) i))

pub none-gathered : {loads : List ℕ} (numbers : List ℕ) (count : ℕ) → loads ≡ replicate 256 0 → GatheredTo numbers count loads 0
none-gathered numbers count e = record { within = omega arith; loads_are = e ∙ none_yet 256 (λ k i. share_on (link_at k) (stream_at numbers i)) }

module _ {numbers loads : List ℕ} {count i : ℕ} (g : GatheredTo numbers count loads i) where
  pub one-gathered : {after : List ℕ} → i < count → after ≡ table 256 (λ k. get_or loads k 0 + share_on (link_at k) (stream_at numbers i)) → GatheredTo numbers count after (i + 1)
  one-gathered l e = record { within = omega arith; loads_are = e ∙ one_more 256 (λ k i. share_on (link_at k) (stream_at numbers i)) i loads g.loads_are }

  pub all-gathered : count ≤ i → loads ≡ gathered_loads numbers count
  all-gathered l = let z : i ≡ count = omega (arith, g.within) in g.loads_are ∙ ap (gathered_loads numbers) z

  -- no load is above 64 for each stream
  pub gathered-small : SmallStreams numbers count → Small loads 4096
  gathered-small s = rw g.loads_are (small-table _ 4096 (λ k l. most k))
    where
      share_most : (k j : ℕ) → j < i → share_on (link_at k) (stream_at numbers j) ≤ 64
      share_most k j l = omega (arith, at_most (uses (stream_at numbers j) (link_at k)) (stream_at numbers j).share, s.shares j (omega (arith, g.within)))

      most : (k : ℕ) → sum i (λ j. share_on (link_at k) (stream_at numbers j)) ≤ 4096
      most k = omega (arith, sum-le i _ (λ j. 64) (share_most k), sum-const i 64, g.within, s.few)
