-- A stream's lines and last link: in two pieces, and record by record. Assumes nothing.
use Prim.Native.Nat.{ℕ, ◌+◌, ◌%◌, ◌≤◌, ◌<◌}
use mathlib.Core.Path.{◌≡◌, refl, sym, ap, ◌∙◌}
use mathlib.Core.List.{List, [], ◌∷◌, ◌++◌, map, flat_map, append-nil, append_assoc, map-append}
use mathlib.Core.Option.{Option}
use native.Mathlib.Omega.{arith}
use lib.ListN.{length, take, drop, length-take, length-drop}
use lib.Seq.{take-add, length-take-le}
use Rattle.model.specs.Link.{Link}
use Rattle.model.specs.Record.{RecordCall, records, call_of}
use Rattle.model.specs.Listing.{line_of, calls_of, made, outcomes, link_after_calls, listing, link_after}

-- ---- a stream in two pieces

records-append : (a b : List ℕ) → length a % 5 ≡ 0 → records (a ++ b) ≡ records a ++ records b
unfolding records
records-append [] b h = refl
records-append (v ∷ []) b h = absurd (omega arith)
records-append (v ∷ w ∷ []) b h = absurd (omega arith)
records-append (v ∷ w ∷ x ∷ []) b h = absurd (omega arith)
records-append (v ∷ w ∷ x ∷ y ∷ []) b h = absurd (omega arith)
records-append (v ∷ w ∷ x ∷ y ∷ z ∷ a) b h = ap ((v ∷ w ∷ x ∷ y ∷ z ∷ []) ∷◌) (records-append a b (omega arith))

calls-append : (a b : List ℕ) → length a % 5 ≡ 0 → calls_of (a ++ b) ≡ calls_of a ++ calls_of b
calls-append a b h = ap (map call_of) (records-append a b h) ∙ map-append call_of (records a) (records b)

lines-append : (l : Link) (cs ds : List (Option RecordCall))
    → flat_map line_of (outcomes l (cs ++ ds)) ≡ flat_map line_of (outcomes l cs) ++ flat_map line_of (outcomes (link_after_calls l cs) ds)
unfolding flat_map outcomes link_after_calls
lines-append l [] ds = refl
lines-append l (c ∷ cs) ds =
    ap (line_of (made l c).answer ++◌) (lines-append (made l c).link cs ds)
    ∙ sym (append_assoc (line_of (made l c).answer) (flat_map line_of (outcomes (made l c).link cs)) _)

link-append : (l : Link) (cs ds : List (Option RecordCall)) → link_after_calls l (cs ++ ds) ≡ link_after_calls (link_after_calls l cs) ds
unfolding link_after_calls
link-append l [] ds = refl
link-append l (c ∷ cs) ds = link-append (made l c).link cs ds

module _ (l : Link) (a b : List ℕ) (whole : length a % 5 ≡ 0) where
  pub listing-append : listing l (a ++ b) ≡ listing l a ++ listing (link_after l a) b
  unfolding listing link_after
  listing-append = ap (λ cs. flat_map line_of (outcomes l cs)) (calls-append a b whole) ∙ lines-append l (calls_of a) (calls_of b)

  pub link-after-append : link_after l (a ++ b) ≡ link_after (link_after l a) b
  unfolding link_after
  link-after-append = ap (link_after_calls l) (calls-append a b whole) ∙ link-append l (calls_of a) (calls_of b)

-- ---- one record more

-- all of a record is in the first five bytes
one-record : (r : List ℕ) → 0 < length r → length r ≤ 5 → records r ≡ r ∷ []
unfolding records
one-record [] h g = absurd (omega arith)
one-record (v ∷ []) h g = refl
one-record (v ∷ w ∷ []) h g = refl
one-record (v ∷ w ∷ x ∷ []) h g = refl
one-record (v ∷ w ∷ x ∷ y ∷ []) h g = refl
one-record (v ∷ w ∷ x ∷ y ∷ z ∷ []) h g = refl
one-record (v ∷ w ∷ x ∷ y ∷ z ∷ u ∷ rest) h g = absurd (omega arith)

module _ (l : Link) (r : List ℕ) (some_byte : 0 < length r) (five-most : length r ≤ 5) where
  pub listing-one : listing l r ≡ line_of (made l (call_of r)).answer
  unfolding listing flat_map outcomes
  listing-one = rw (one-record r some_byte five-most) (append-nil (line_of (made l (call_of r)).answer))

  pub link-after-one : link_after l r ≡ (made l (call_of r)).link
  unfolding link_after link_after_calls
  link-after-one = rw (one-record r some_byte five-most)

-- the record at a place that is reached, and the stream up to it
module _ (l : Link) (b : List ℕ) (at : ℕ) (whole : at % 5 ≡ 0) (reached : at < length b) where
  up_to : length (take at b) % 5 ≡ 0
  up_to = ap (◌% 5) (length-take-le at b (omega arith)) ∙ whole

  some_byte : 0 < length (take 5 (drop at b))
  some_byte = omega (arith, length-take 5 (drop at b), length-drop at b)

  five-most : length (take 5 (drop at b)) ≤ 5
  five-most = omega (arith, length-take 5 (drop at b))

  pub listing-more : listing l (take (at + 5) b)
      ≡ listing l (take at b) ++ line_of (made (link_after l (take at b)) (call_of (take 5 (drop at b)))).answer
  listing-more =
      ap (listing l) (take-add at 5 b) ∙ listing-append l (take at b) (take 5 (drop at b)) up_to
      ∙ ap (listing l (take at b) ++◌) (listing-one (link_after l (take at b)) (take 5 (drop at b)) some_byte five-most)

  pub link-after-more : link_after l (take (at + 5) b) ≡ (made (link_after l (take at b)) (call_of (take 5 (drop at b)))).link
  link-after-more =
      ap (link_after l) (take-add at 5 b) ∙ link-after-append l (take at b) (take 5 (drop at b)) up_to
      ∙ link-after-one (link_after l (take at b)) (take 5 (drop at b)) some_byte five-most

-- no record
pub listing_none : (l : Link) → listing l [] ≡ []
unfolding listing flat_map records outcomes
listing_none l = refl

pub link-after-none : (l : Link) → link_after l [] ≡ l
unfolding link_after records link_after_calls
link-after-none l = refl
