-- The request of word x, whose flow is i, on link l: refused by the tests before the search, or what the search comes to. Assumes nothing.
use Prim.Native.Nat.{ℕ}
use mathlib.Core.Path.{◌≡◌, sym, ap, ◌∙◌}
use Rattle.model.specs.Refusals.{first_of}
use Rattle.model.specs.Word as word
use Rattle.model.specs.Calls.{accepted, refused}
use Rattle.model.specs.Request.{newest_tests, would_be_valid, found, nowhere, sought, booked, refused_at_newest, answered, request}
use Rattle.link.specs.Parts.{Parts}
use Rattle.link.specs.Reading.{link_of}
use Rattle.link.specs.Given.{tests_of}
use Rattle.link.proofs.Words.{word-passed}

module _ (l : Parts) (x : ℕ) {n : ℕ} (tests : n ≡ tests_of l x) (z : n ≡ 0) {i : ℕ} (same : word.flow_of x ≡ i) where
  -- the search found a position
  pub request-found : (j c p : ℕ) → found j c p ≡ sought (link_of l) i (word.departure_of x)
      → request (link_of l) x ≡ record { link = booked (link_of l) i j c p; answer = accepted (word.depart x p) }
  unfolding answered
  request-found j c p e =
      word-passed l x tests z same
      ∙ ap (answered (link_of l) x) (sym e)
      ∙ ap (λ (k : ℕ). record { link = booked (link_of l) k j c p; answer = accepted (word.depart x p) }) same

  -- it found none
  pub request-nowhere : (c : ℕ) → nowhere c ≡ sought (link_of l) i (word.departure_of x)
      → request (link_of l) x ≡ record { link = refused_at_newest (link_of l) i c; answer = refused (first_of (newest_tests (would_be_valid (link_of l) i) c)) }
  unfolding answered
  request-nowhere c e =
      word-passed l x tests z same
      ∙ ap (answered (link_of l) x) (sym e)
      ∙ ap (λ (k : ℕ). record { link = refused_at_newest (link_of l) k c; answer = refused (first_of (newest_tests (would_be_valid (link_of l) k) c)) }) same
