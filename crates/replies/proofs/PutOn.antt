-- Bytes put one after another, and answers that are put. Assumes nothing.
use Prim.Native.Nat.{ℕ, ◌+◌, ◌*◌, ◌/◌, ◌%◌, ◌≤◌, ◌<◌}
use mathlib.Core.Path.{◌≡◌, refl, sym, ap, ◌∙◌}
use mathlib.Core.List.{List, ◌∷◌, [], ◌++◌, flat_map, append_assoc}
use native.Mathlib.Numerals.{add-one}
use native.Mathlib.Omega.{arith}
use lib.ListN.{length, get_or, take, drop, set}
use lib.Seq.{sets, sets-eq, length-sets, take-suc, drop-drop}
use borrow.Rule.Slice.PartMut.{put_mid}
use Rattle.model.specs.Listing.{refusal_line}
use Rattle.calls.specs.Lines.{Puts, out_with, next_after}
use Rattle.calls.proofs.Stores.{puts_none, puts-two, puts_then, puts-same, out-in-room, next-in-room}
use Rattle.replies.specs.Lines.{hex_glyph, hex, Says}

-- the place after what was put, said in another way
pub puts-to : {xs before after : List ℕ} {at next next' : ℕ} → next ≡ next' → Puts xs before after at next → Puts xs before after at next'
puts-to {xs} {before} {after} {at} e p = rw e at p

one_more : (bytes : List ℕ) (i : ℕ) → i < length bytes → take i bytes ++ (get_or bytes i 0 ∷ []) ≡ take (i + 1) bytes
one_more bytes i h = sym (take-suc bytes i 0 h) ∙ ap (λ k. take k bytes) (sym (add-one i))

-- ---- bytes as they are

-- a part of a slice is overwritten
pub puts-part : (bytes out part : List ℕ) (at k : ℕ) → k ≡ length bytes → part ≡ bytes → at + length bytes ≤ length out
    → Puts bytes out (put_mid at k out part) at (at + length bytes)
puts-part bytes out part at k many same room =
    let stored : put_mid at k out part ≡ sets out at bytes =
    (λ j. take at out ++ (same j ++ drop (many j) (drop at out))) ∙ ap (λ l. take at out ++ (bytes ++ l)) (drop-drop (length bytes) at out ∙ ap (λ n. drop n out) (omega arith))
    ∙ sym (append_assoc (take at out) bytes (drop (at + length bytes) out)) ∙ sym (sets-eq bytes out at room) in
    record { stored = stored; up_to = refl; length_stays = ap length stored ∙ length-sets out at bytes }

-- ---- two hexadecimal digits for each byte

hex-more : (xs : List ℕ) (b : ℕ) → hex xs ++ (hex_glyph (b / 16) ∷ hex_glyph (b % 16) ∷ []) ≡ hex (xs ++ (b ∷ []))
unfolding hex flat_map
hex-more [] b = refl
hex-more (x ∷ xs) b = ap (λ l. hex_glyph (x / 16) ∷ hex_glyph (x % 16) ∷ l) (hex-more xs b)

pub hex-length : (bytes : List ℕ) → length (hex bytes) ≡ 2 * length bytes
unfolding hex flat_map
hex-length [] = refl
hex-length (b ∷ bytes) = let rest = hex-length bytes in omega arith

pub record HexTo (bytes before after : List ℕ) (at i : ℕ) : Type 0 where
  pub most : i ≤ length bytes
  pub puts : Puts (hex (take i bytes)) before after at (at + 2 * i)

pub no-hex : (bytes out : List ℕ) (at : ℕ) → HexTo bytes out out at 0
unfolding hex flat_map
no-hex bytes out at = record { most = omega arith; puts = puts-to (omega arith) (puts_none out at) }

module _ {bytes before after : List ℕ} {at i : ℕ} (s : HexTo bytes before after at i) where
  pub one-hex : {high low : ℕ} → i < length bytes → high ≡ hex_glyph (get_or bytes i 0 / 16) → low ≡ hex_glyph (get_or bytes i 0 % 16)
      → HexTo bytes before (set (set after (at + 2 * i) high) (at + 2 * i + 1) low) at (i + 1)
  one-hex {high} {low} h e f =
      let two = puts-same (λ j. e j ∷ f j ∷ []) (puts-two high low after (at + 2 * i)) in
      record {
        most = omega arith;
        puts = puts-to (omega arith) (puts-same (hex-more (take i bytes) (get_or bytes i 0) ∙ ap hex (one_more bytes i h)) (puts_then s.puts two));
      }

-- ---- answers

-- what is put at the start of a slice, where it has room, is an answer
pub says : {answer before after : List ℕ} {count : ℕ} → Puts answer before after 0 count → count ≤ length before → Says answer before after count
says p room = record { stored = p.stored; many = p.up_to ∙ omega arith; fits = room }

pub says_same : {answer other before after : List ℕ} {count : ℕ} → answer ≡ other → Says answer before after count → Says other before after count
says_same {before} {after} {count} e s = rw e at s

-- a refusal's line, as it is written where there is room for the longest
pub says-refusal : (number : ℕ) {before after : List ℕ} {count : ℕ} → 7 ≤ length before → after ≡ out_with (refusal_line number) before 0
    → count ≡ next_after (refusal_line number) before 0 → count ≤ 7 → Says (refusal_line number) before after count
says-refusal number {before} {after} {count} room e f most = record {
  stored = e ∙ out-in-room (refusal_line number) before 0 (omega arith);
  many = f ∙ next-in-room (refusal_line number) before 0 (omega arith) ∙ omega arith;
  fits = omega arith;
}
