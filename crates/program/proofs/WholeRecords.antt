-- Records in parts: the bytes of the whole ones, and of one that is cut off. Assumes nothing.
use Prim.Native.Nat.{ℕ, ◌+◌, ◌*◌, ◌/◌, ◌%◌, ◌<◌}
use mathlib.Core.Path.{◌≡◌, sym, ap, ◌∙◌}
use mathlib.Core.List.{List, ◌∷◌, [], ◌++◌}
use mathlib.Core.Option.{none}
use native.Mathlib.Omega.{arith}
use lib.ListN.{length, take, drop, length-drop, length-append, take-append-drop}
use lib.Seq.{take_all, take-append-add, drop-append-add, length-take-le}
use Rattle.model.specs.Link.{Link}
use Rattle.model.specs.Record.{call_of}
use Rattle.model.specs.Listing.{line_of, made, listing, link_after}
use Rattle.model.proofs.Listing.{listing-append, link-after-append, listing_none, listing-one}
use Rattle.model.proofs.Records.{no-call-at}
use Rattle.program.specs.Stage.{whole_records, cut_off, playing, at_end}

-- ---- the bytes

module _ (a b : List ℕ) (whole : length a % 5 ≡ 0) where
  as-far : 5 * (length (a ++ b) / 5) ≡ length a + 5 * (length b / 5)
  as-far = omega (arith, length-append a b)

  -- whole records in front stay whole
  pub whole_append : whole_records (a ++ b) ≡ a ++ whole_records b
  whole_append = ap (λ n. take n (a ++ b)) as-far ∙ take-append-add a b (5 * (length b / 5))

  pub cut-append : cut_off (a ++ b) ≡ cut_off b
  cut-append = ap (λ n. drop n (a ++ b)) as-far ∙ drop-append-add a b (5 * (length b / 5))

module _ (b : List ℕ) where
  pub whole_long : length (whole_records b) ≡ 5 * (length b / 5)
  whole_long = length-take-le (5 * (length b / 5)) b (omega arith)

  pub all_whole : length (whole_records b) % 5 ≡ 0
  all_whole = omega (arith, whole_long)

  pub cut_short : length (cut_off b) < 5
  cut_short = omega (arith, length-drop (5 * (length b / 5)) b)

  pub whole-and-cut : whole_records b ++ cut_off b ≡ b
  whole-and-cut = take-append-drop (5 * (length b / 5)) b

-- fewer than five bytes
pub none-whole : (b : List ℕ) → length b < 5 → whole_records b ≡ []
none-whole b h = let z : 5 * (length b / 5) ≡ 0 = omega arith in ap (λ n. take n b) z

pub all-cut : (b : List ℕ) → length b < 5 → cut_off b ≡ b
all-cut b h = let z : 5 * (length b / 5) ≡ 0 = omega arith in ap (λ n. drop n b) z

-- ---- played

-- whole records in front are played first
module _ (l : Link) (a b : List ℕ) (whole : length a % 5 ≡ 0) where
  pub listing-on : listing l (whole_records (a ++ b)) ≡ listing l a ++ listing (link_after l a) (whole_records b)
  listing-on = ap (listing l) (whole_append a b whole) ∙ listing-append l a (whole_records b) whole

  pub link_on : link_after l (whole_records (a ++ b)) ≡ link_after (link_after l a) (whole_records b)
  link_on = ap (link_after l) (whole_append a b whole) ∙ link-after-append l a (whole_records b) whole

-- what a record that is cut off adds to a listing is what the program writes at the end
short-line : (l : Link) (cut : List ℕ) → length cut < 5 → listing l cut ≡ at_end (playing l cut)
short-line l [] h = listing_none l
short-line l (b ∷ rest) h = listing-one l (b ∷ rest) (omega arith) (omega arith) ∙ ap (λ o. line_of (made l o).answer) no_call
  where
    no_call : call_of (b ∷ rest) ≡ none
    no_call = ap call_of (sym (take_all 5 (b ∷ rest) (omega arith))) ∙ no-call-at (b ∷ rest) 0 (omega arith)

pub listing-ends : (l : Link) (b : List ℕ) → listing l b ≡ listing l (whole_records b) ++ at_end (playing (link_after l (whole_records b)) (cut_off b))
listing-ends l b =
    ap (listing l) (sym (whole-and-cut b)) ∙ listing-append l (whole_records b) (cut_off b) (all_whole b)
    ∙ ap (listing l (whole_records b) ++◌) (short-line (link_after l (whole_records b)) (cut_off b) (cut_short b))
