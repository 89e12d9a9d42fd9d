-- Bytes that are kept. Assumes nothing.
use Prim.Native.Nat.{ℕ, ◌+◌, ◌-◌, ◌*◌, ◌≤◌, ◌<◌, min, max}
use mathlib.Core.Path.{◌≡◌, refl, sym, ap, ◌∙◌, subst}
use mathlib.Core.List.{List, ◌++◌, [], append-nil}
use native.Mathlib.Omega.{arith}
use lib.ListN.{length, get_or, take, drop, length-take, length-drop, length-append}
use lib.Seq.{sets, sets-eq, length-sets}
use borrow.Author.Rules.{rules}
use borrow.Rule.Slice.PartMut.{put_mid}
use Rattle.std.proofs.lemmas.Slice.{overwrites}
use Rattle.model.specs.Listing.{plan_length}
use Rattle.program.specs.declared.Kept.{Kept}
use Rattle.program.specs.State.{bytes_in, zeros, Keeps}
use Rattle.program.proofs.Lists.{part-behind, taken-and-rest, taken-all, take_min, stored-after, stored_back, stored_at}

zeros-long : length zeros ≡ 76
unfolding zeros
zeros-long = refl

module _ {k : Kept} {bytes : List ℕ} (h : Keeps k bytes) where
  fits : length bytes ≤ length zeros
  fits = omega (arith, zeros-long, h.most)

  -- they are read back
  pub bytes_back : bytes_in k ≡ bytes
  bytes_back = (λ i. take (h.count_is i) (h.bytes_are i)) ∙ stored_back zeros bytes fits

  pub byte-back : (i : ℕ) → i < length bytes → get_or k.bytes i 0 ≡ get_or bytes i 0
  byte-back i l = ap (λ x. get_or x i 0) h.bytes_are ∙ stored_at zeros bytes fits i l

  pub length_back : 2 ≤ length bytes → plan_length k.bytes ≡ plan_length bytes
  length_back two = λ i. byte-back 0 (omega arith) i + 256 * byte-back (0 + 1) (omega arith) i

  -- k keeps what it keeps
  pub kept-itself : Keeps k (bytes_in k)
  kept-itself = subst (Keeps k) (sym bytes_back) h

  pub array_long : length k.bytes ≡ 76
  array_long = ap length h.bytes_are ∙ length-sets zeros 0 bytes ∙ zeros-long

-- a part of a list that is written whole: its elements are stored there
pub stored : (out bytes : List ℕ) (at n : ℕ) → n ≡ length bytes → at + n ≤ length out → put_mid at n out bytes ≡ sets out at bytes
stored out bytes at n long fits = rw (sets-eq bytes out at (omega (arith, fits, long))) (search (rules, overwrites))

pub nothing-kept : Keeps (record { bytes = zeros; count = 0 }) []
nothing-kept = record { count_is = refl; bytes_are = refl; most = omega arith }

-- enough is kept already
pub none_more : {k : Kept} {bytes : List ℕ} → Keeps k bytes → (to : ℕ) (piece : List ℕ) → to ≤ k.count
    → Keeps k (bytes ++ take (to - k.count) piece)
none_more {k} {bytes} h to piece le =
    let z : to - k.count ≡ 0 = omega arith in
    subst (Keeps k) (sym (ap (λ n. bytes ++ take n piece) z ∙ append-nil bytes)) h

-- bytes are taken until there are `to`, or the piece ends
pub more-kept : {k : Kept} {bytes : List ℕ} → Keeps k bytes → (to : ℕ) (piece : List ℕ) → to ≤ 76 → k.count ≤ to → {next : Kept}
    → next.bytes ≡ sets k.bytes k.count (take (min (to - k.count) (length piece)) piece)
    → next.count ≡ k.count + min (to - k.count) (length piece)
    → Keeps next (bytes ++ take (to - k.count) piece)
more-kept {k} {bytes} h to piece most room {next} stored counted =
    let front = take (to - k.count) piece in
    let long = length-append bytes front in
    let long' = length-take (to - k.count) piece in
    record {
      count_is = omega (arith, counted, h.count_is);
      bytes_are =
          stored ∙ ap (sets k.bytes k.count) (take_min (to - k.count) piece) ∙ (λ i. sets (h.bytes_are i) (h.count_is i) front)
          ∙ stored-after zeros bytes front;
      most = omega (arith, h.count_is);
    }

-- ---- a piece from whose start bytes were taken

-- what is left of the piece
abbrev pub behind : (k next : Kept) → List ℕ → List ℕ
behind k next piece = take (length piece - (next.count - k.count)) (drop (next.count - k.count) piece)

-- to the bytes of k, bytes were taken from the start of a piece until there are `to`, or the piece ended
pub record Taken (k : Kept) (to : ℕ) (piece : List ℕ) (next : Kept) : Type 0 where
  pub kept : Keeps next (bytes_in next)
  pub bytes_are : bytes_in next ≡ bytes_in k ++ take (to - k.count) piece
  pub grows : k.count ≤ next.count
  pub most : next.count ≤ max to k.count
  pub in_piece : next.count - k.count ≤ length piece
  pub behind_long : length (behind k next piece) ≡ length piece - (next.count - k.count)
  -- with what is left they are all there
  pub seam : bytes_in next ++ behind k next piece ≡ bytes_in k ++ piece
  pub piece_ended : next.count < to → bytes_in next ≡ bytes_in k ++ piece

pub taken : {k next : Kept} → Keeps k (bytes_in k) → (to : ℕ) (piece : List ℕ) → Keeps next (bytes_in k ++ take (to - k.count) piece)
    → Taken k to piece next
taken {k} {next} h to piece g =
    let front = take (to - k.count) piece in
    let before = h.count_is in
    let after = g.count_is in
    let long = length-append (bytes_in k) front in
    let long' = length-take (to - k.count) piece in
    let back = bytes_back g in
    record {
      kept = kept-itself g;
      bytes_are = back;
      grows = omega arith;
      most = omega arith;
      in_piece = omega arith;
      behind_long = ap length (part-behind (next.count - k.count) piece) ∙ length-drop (next.count - k.count) piece;
      seam = ap (◌++ behind k next piece) back ∙ taken-and-rest (bytes_in k) piece (to - k.count) (next.count - k.count) (omega arith);
      piece_ended = λ few. back ∙ taken-all (bytes_in k) piece (to - k.count) (omega arith);
    }
