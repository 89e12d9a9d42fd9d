-- A stream of records played: what has been done up to a place of the stream, and one record more. Assumes nothing.
use Prim.Native.Nat.{ℕ, ◌+◌, ◌%◌, ◌<◌}
use mathlib.Core.Path.{◌≡◌, sym, ap, ◌∙◌}
use mathlib.Core.List.{List, ◌++◌}
use mathlib.Core.Option.{Option}
use native.Mathlib.Omega.{arith}
use lib.ListN.{length, take, drop, length-append}
use lib.Seq.{sets}
use Rattle.model.specs.Link.{Link}
use Rattle.model.specs.Record.{RecordCall, call_of}
use Rattle.model.specs.Listing.{line_of, made, listing, link_after}
use Rattle.model.proofs.Listing.{listing_none, link-after-none, listing-more, link-after-more}
use Rattle.calls.specs.Lines.{Puts}
use Rattle.calls.proofs.Stores.{sets-append}

-- From link l₀ the stream is played up to `at`, and its lines stand in `out` from `start` up to `to`.
pub record PlayedTo (l₀ : Link) (stream out₀ : List ℕ) (start at : ℕ) (l : Link) (out : List ℕ) (to : ℕ) : Type 0 where
  pub link : l ≡ link_after l₀ (take at stream)
  pub lines : out ≡ sets out₀ start (listing l₀ (take at stream))
  pub up_to : to ≡ start + length (listing l₀ (take at stream))

pub played-none : (l₀ : Link) (stream out₀ : List ℕ) (start : ℕ) → PlayedTo l₀ stream out₀ start 0 l₀ out₀ start
played-none l₀ stream out₀ start = record {
  link = sym (link-after-none l₀);
  lines = ap (sets out₀ start) (sym (listing_none l₀));
  up_to = omega (arith, ap length (listing_none l₀));
}

-- the call of the record at a place
abbrev pub call_at : List ℕ → ℕ → Option RecordCall
call_at stream at = call_of (take 5 (drop at stream))

module _ {l₀ : Link} {stream out₀ : List ℕ} {start at : ℕ} {l : Link} {out : List ℕ} {to : ℕ} (r : PlayedTo l₀ stream out₀ start at l out to) where
  pub played-more : {l' : Link} {line out' : List ℕ} {to' : ℕ} → at % 5 ≡ 0 → at < length stream
      → l' ≡ (made l (call_at stream at)).link → line ≡ line_of (made l (call_at stream at)).answer
      → Puts line out out' to to'
      → PlayedTo l₀ stream out₀ start (at + 5) l' out' to'
  played-more {l'} {line} {out'} {to'} whole reached next said put =
      let before = listing l₀ (take at stream) in
      let more : listing l₀ (take (at + 5) stream) ≡ before ++ line =
      listing-more l₀ stream at whole reached ∙ ap (before ++◌) (sym (said ∙ ap (λ m. line_of (made m (call_at stream at)).answer) r.link)) in
      record {
        link = next ∙ ap (λ m. (made m (call_at stream at)).link) r.link ∙ sym (link-after-more l₀ stream at whole reached);
        lines =
            put.stored ∙ (λ i. sets (r.lines i) (r.up_to i) line) ∙ sets-append out₀ start before line
            ∙ ap (sets out₀ start) (sym more);
        up_to = omega (arith, put.up_to, r.up_to, ap length more, length-append before line);
      }
