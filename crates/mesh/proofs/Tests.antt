-- The tests before the links, on the streams of some numbers. Assumes nothing.
use Prim.Native.Nat.{ℕ, ◌/◌, ◌<◌}
use mathlib.Core.Path.{◌≡◌, ap, ◌∙◌}
use mathlib.Core.List.{List, ◌∷◌, []}
use mathlib.Core.Bool.{Bool, true, not}
use lib.ListN.{length}
use lib.Dec.{ltb}
use borrow.Author.Tests.{leb-true, eqb-false, not-true}
use Rattle.model.specs.Tables.{any, within}
use Rattle.model.specs.Refusals.{◌when◌, first_of}
use Rattle.model.proofs.Tests.{and-true, within-true, any_same}
use Rattle.model.proofs.Tables.{length-table, get_d-table}
use Rattle.mesh.specs.Streams.{Stream, no_stream, stream}
use Rattle.mesh.specs.Admission.{stream_fits, refusal_before_links, FittingStream}
use Rattle.mesh.specs.Reading.{stream_at, streams_of}

-- ---- a stream

pub fitting : (F : ℕ) (s : Stream) → stream_fits F s ≡ true → FittingStream F s
unfolding stream_fits
fitting F s e =
    let ends = and-true _ _ e in
    let destination = and-true _ _ ends.0 in
    let source = and-true _ _ destination.0 in
    let share = within-true 1 F s.share source.0 in
    record {
      some_share = share.0;
      share_most = share.1;
      source_most = leb-true _ _ source.1;
      destination_most = leb-true _ _ destination.1;
      ends_differ = eqb-false _ _ (not-true _ ends.1);
    }

-- ---- the streams of numbers

module _ (numbers : List ℕ) where
  abbrev pub count : ℕ
  count = length numbers / 3

  pub count_is : length (streams_of numbers) ≡ count
  count_is = length-table count (stream_at numbers)

  pub stream-is : (i : ℕ) → i < count → stream (streams_of numbers) i ≡ stream_at numbers i
  stream-is i l = get_d-table count (stream_at numbers) i no_stream l

  -- a test of some stream
  pub some-stream : (f : Stream → Bool) → any (length (streams_of numbers)) (λ i. f (stream (streams_of numbers) i)) ≡ any count (λ i. f (stream_at numbers i))
  some-stream f =
      ap (λ n. any n (λ i. f (stream (streams_of numbers) i))) count_is
      ∙ any_same count _ _ (λ i l. ap f (stream-is i l))

  -- ---- the tests, with their outcomes

  abbrev pub misfitting : ℕ → Bool
  misfitting F = any count (λ i. not (stream_fits F (stream_at numbers i)))

  pub tests-are : (F : ℕ) → refusal_before_links F (streams_of numbers) ≡ first_of (25 when ltb 64 count ∷ 3 when not (within 1 64 F) ∷ 4 when misfitting F ∷ [])
  unfolding refusal_before_links
  tests-are F =
      let many = ap (ltb 64) count_is in
      let misfits = some-stream (λ s. not (stream_fits F s)) in
      λ k. first_of (25 when many k ∷ 3 when not (within 1 64 F) ∷ 4 when misfits k ∷ [])
