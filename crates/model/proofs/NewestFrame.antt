-- The refusals in the newest frame, and that a tile which has come is not refused with 20. Assumes nothing.
use Prim.Native.Nat.{ℕ, zero, suc, ◌+◌, ◌<◌}
use mathlib.Core.Path.{◌≡◌, refl, sym, ap, ◌∙◌, subst}
use mathlib.Core.List.{◌∷◌, []}
use mathlib.Core.Option.{Option, some, none}
use mathlib.Core.Bool.{Bool, true, false, cond}
use native.Mathlib.Omega.{arith}
use lib.Dec.{eqb}
use borrow.Author.Tests.{ne_eqb}
use Rattle.model.specs.Tables.{ahead}
use Rattle.model.specs.Refusals.{first_of, ◌when◌}
use Rattle.model.specs.Word.{flow_of, departure_of}
use Rattle.model.specs.Calls.{Grant, refused}
use Rattle.model.specs.Window.{Window, start, newest, later, next}
use Rattle.model.specs.Link.{Link, window, flow, share}
use Rattle.model.specs.Request.{request_tests, valid, valid_for, Found, found, nowhere, or_else, earliest, search, sought}
use Rattle.model.specs.Request.{would_be_valid, newest_tests, answered, request_after, request}
use Rattle.model.proofs.Tests.{any-of-none}
use Rattle.model.proofs.Tables.{first_from-none}
use Rattle.model.proofs.Departures.{valid-if-come}
use Rattle.model.proofs.SearchedFrames.{last_frame, ends-with-newest}

pub newest-number : (would : Bool) (c : ℕ) → first_of (newest_tests would c) ≡ cond (eqb c 0) 11 (cond would 20 12)
unfolding first_of
newest-number would c = refl

-- ---- a search that fails with some of the share left fails in the last frame

found_nowhere : {j c p r : ℕ} → found j c p ≡ nowhere r → ⊥
found_nowhere e = let z : ◌≡◌ {A = ℕ} 0 1 = cc in omega arith

module _ (w : Window) (ok : ℕ → Bool) (share : ℕ) where
  in_frame : (j c r : ℕ) (rest : Found) → or_else j c (earliest w ok share j) rest ≡ nowhere r → (earliest w ok share j ≡ none) × (rest ≡ nowhere r)
  in_frame j c r rest e = go (earliest w ok share j) refl e
    where
      go : (o : Option ℕ) → earliest w ok share j ≡ o → or_else j c o rest ≡ nowhere r → (earliest w ok share j ≡ none) × (rest ≡ nowhere r)
      go (some p) q e = absurd (found_nowhere e)
      go none q e = (q, e)

  pub fails-in-last : (more j c r : ℕ) → search w ok share more j c ≡ nowhere (suc r) → earliest w ok share (last_frame w more j) ≡ none
  unfolding search last_frame
  fails-in-last zero j zero r e = absurd (let z : 0 ≡ suc r = cc in omega arith)
  fails-in-last zero j (suc c) r e = (in_frame j c (suc r) (nowhere (suc c)) e).0
  fails-in-last (suc more) j zero r e = fails-in-last more (next w j) share r e
  fails-in-last (suc more) j (suc c) r e =
      fails-in-last more (next w j) share r (in_frame j c (suc r) (search w ok share more (next w j) share) e).1

-- ---- the tile has come

module _ (l : Link) (i d : ℕ) (come : later (window l) d l.current ≡ false) where
  abbrev sought_by : (ℕ → Bool) → Found
  sought_by ok =
      search (window l) ok (share l i) (ahead l.plan.frames (flow l i).injection (newest (window l)))
      (flow l i).injection (flow l i).remainder

  -- the search is the one without the departure
  pub sought-if-come : sought l i d ≡ sought_by (valid l i)
  unfolding sought
  sought-if-come = ap sought_by (λ k p. valid-if-come l i d p come k)

  pub none-would-be : (flow l i).injection < l.plan.frames → (c : ℕ) → sought l i d ≡ nowhere (suc c) → would_be_valid l i ≡ false
  unfolding sought would_be_valid
  none-would-be below c e = any-of-none F (λ x. valid l i (first + x)) λ x h.
      sym (valid-if-come l i d (first + x) come) ∙ first_from-none F first (valid_for l i d) fails (first + x) (omega arith) (omega arith)
    where
      F : ℕ
      F = l.plan.slots

      -- the newest frame's first position
      first : ℕ
      first = start (window l) (newest (window l))

      fails : earliest (window l) (valid_for l i d) (share l i) (newest (window l)) ≡ none
      fails =
          subst (λ j. earliest (window l) (valid_for l i d) (share l i) j ≡ none) (ends-with-newest (window l) (flow l i).injection below)
          (fails-in-last (window l) (valid_for l i d) (share l i) _ (flow l i).injection (flow l i).remainder c e)

-- ---- the request

-- the tests before the search give no 20
not-20 : (a b c d : Bool) → first_of (8 when a ∷ 9 when b ∷ 10 when c ∷ 24 when d ∷ []) ≡ 20 → ⊥
unfolding first_of
not-20 true b c d e = omega arith
not-20 false true c d e = omega arith
not-20 false false true d e = omega arith
not-20 false false false true e = omega arith
not-20 false false false false e = omega arith

pub refused-number : {a b : ℕ} → ◌≡◌ {A = Grant} (refused a) (refused b) → a ≡ b
refused-number e = cc

pub come-not-20 : (l : Link) (w : ℕ) → later (window l) (departure_of w) l.current ≡ false → (flow l (flow_of w)).injection < l.plan.frames
    → (request l w).answer ≡ refused 20 → ⊥
unfolding request request_after answered
come-not-20 l w come below = tested (first_of (request_tests l.plan (flow l (flow_of w)).number w)) (not-20 _ _ _ _)
  where
    i : ℕ
    i = flow_of w

    searched : (f : Found) → sought l i (departure_of w) ≡ f → (answered l w f).answer ≡ refused 20 → ⊥
    searched (found j c p) e a = let z : ◌≡◌ {A = ℕ} 0 1 = cc in omega arith
    searched (nowhere zero) e a = let z = refused-number (ap refused (sym (newest-number (would_be_valid l i) 0)) ∙ a) in omega arith
    searched (nowhere (suc c)) e a =
        let number : first_of (newest_tests (would_be_valid l i) (suc c)) ≡ 12 =
        newest-number (would_be_valid l i) (suc c)
        ∙ rw (ne_eqb (suc c) 0 (λ z. omega arith), none-would-be l i (departure_of w) come below c e) in
        let z = refused-number (ap refused (sym number) ∙ a) in
        omega arith

    tested : (r : ℕ) → (r ≡ 20 → ⊥) → (request_after r l w).answer ≡ refused 20 → ⊥
    tested zero h a = searched (sought l i (departure_of w)) refl a
    tested (suc r) h a = h (refused-number a)
