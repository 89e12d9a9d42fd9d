-- The conditions on a flow of an image, by the places of its fields. Assumes nothing.
use Prim.Native.Nat.{ℕ, zero, suc, ◌+◌, ◌*◌, ◌<◌}
use mathlib.Core.Path.{◌≡◌, refl, sym, ap, ap₂, ◌∙◌}
use mathlib.Core.List.{List}
use mathlib.Core.Option.{Option, none}
use mathlib.Core.Bool.{Bool, true, false, not, ◌&&◌, ◌||◌}
use native.Mathlib.Nat.{mod-lt}
use native.Mathlib.Decide.{dec_lt}
use native.Mathlib.Omega.{arith}
use lib.ListN.{get_or}
use lib.Dec.{leb, ltb, eqb}
use borrow.Author.Tests.{lt-ltb, le-ltb}
use Rattle.model.specs.Tables.{every, sum}
use Rattle.model.specs.Plan.{Plan, positions, entry, field16, Accepted}
use Rattle.model.specs.Window.{Window, later}
use Rattle.model.specs.Link.{Flow}
use Rattle.window.proofs.Tabulated.{get_d-table, every-same}
use Rattle.imagemodel.specs.Image.{field_at, owner_in, positions_at, flows_at, flow_fields, flow_field, flow_in, link_from}
use Rattle.imagemodel.specs.Consistent.{bookings_in, frame_after, before, window_at, grows_to, flow_test}
use Rattle.imagemodel.proofs.Bookings.{place-below, booking}
use Rattle.imagecheck.specs.Flows.{booking_at, bookings_at, frame_kept, grows_at, spends_well, holds_well, flow_kept}

-- ---- sums and tests

sum_same : (m : ℕ) (f g : ℕ → ℕ) → ((x : ℕ) → x < m → f x ≡ g x) → sum m f ≡ sum m g
unfolding sum
sum_same zero f g h = refl
sum_same (suc m) f g h = ap₂ ◌+◌ (h m (omega arith)) (sum_same m f g (λ x l. h x (omega arith)))

and_assoc : (a b c : Bool) → a && b && c ≡ a && (b && c)
and_assoc true b c = refl
and_assoc false b c = refl

-- two tests of each number are one
every-both : (n : ℕ) (f g : ℕ → Bool) → every n (λ k. f k && g k) ≡ every n f && every n g
unfolding every
every-both zero f g = refl
every-both (suc n) f g = ap (f n && g n &&◌) (every-both n f g) ∙ go (f n) (g n) (every n f) (every n g)
  where
    go : (a b c d : Bool) → a && b && (c && d) ≡ a && c && (b && d)
    go true true c d = refl
    go true false true d = refl
    go true false false d = refl
    go false b c d = refl

-- ---- flow i of an image b of plan P

module _ (b : List ℕ) (P : Plan) (ok : Accepted P) (current i : ℕ) where
  abbrev window : Window
  window = window_at P current

  abbrev owners : List (Option ℕ)
  owners = (link_from b P).owners

  -- where its part stands
  abbrev pub part : ℕ
  part = flows_at P + 2 * (i * flow_fields P)

  -- where the number stands that is expected of it
  abbrev pub number_at : ℕ
  number_at = part + 4 + 2 * positions P

  -- its field k
  pub field_is : (k at : ℕ) → at ≡ part + 2 * k → flow_field b P i k ≡ field16 b at
  field_is k at e = ap (field16 b) (omega arith)

  pub owner-is : (p : ℕ) → p < positions P → get_or owners p none ≡ owner_in (field_at b (positions_at P) p)
  owner-is p l = get_d-table (positions P) (λ p. owner_in (field_at b (positions_at P) p)) p none l

  bookings-are : (j : ℕ) → j < P.frames → bookings_in P owners i j ≡ bookings_at b i (positions_at P + 2 * (j * P.slots)) P.slots
  unfolding bookings_in
  bookings-are j l = sum_same P.slots (λ x. booking owners i (j * P.slots + x)) (λ x. booking_at b i (positions_at P + 2 * (j * P.slots) + 2 * x)) λ x lx.
      let place : positions_at P + 2 * (j * P.slots + x) ≡ positions_at P + 2 * (j * P.slots) + 2 * x = omega arith in
      rw (owner-is (j * P.slots + x) (place-below P j x l lx), place)

  pub held_is : (p : ℕ) → p < positions P → get_or (flow_in b P i).held p 0 ≡ field_at b (part + 4) p
  held_is p l = get_d-table (positions P) (λ p. flow_field b P i (2 + p)) p 0 l ∙ field_is (2 + p) (part + 4 + 2 * p) (omega arith)

  -- ---- the conditions, by these fields

  abbrev share : ℕ
  share = (entry P i).share

  abbrev cells : ℕ
  cells = (entry P i).cells

  frames_are : (frame : ℕ)
      → every P.frames (λ j. leb (bookings_in P owners i j) share)
      && every P.frames (λ j. not (frame_after window j frame) || eqb (bookings_in P owners i j) 0)
      ≡ every P.frames (frame_kept b (positions_at P) window i share frame)
  frames_are frame =
      sym (every-both P.frames (λ j. leb (bookings_in P owners i j) share) (λ j. not (frame_after window j frame) || eqb (bookings_in P owners i j) 0))
      ∙ every-same P.frames _ _ (λ j l. rw (bookings-are j l))

  cells_are : every (positions P) (λ p. leb (get_or (flow_in b P i).held p 0) cells) ≡ every (positions P) (λ p. leb (field_at b (part + 4) p) cells)
  cells_are = every-same (positions P) _ _ (λ p l. ap (λ h. leb h cells) (held_is p l))

  grows-are : every (positions P) (λ p. not (later window p current) || leb (get_or (flow_in b P i).held p 0) (grows_to P current owners i (flow_in b P i) p))
      ≡ every (positions P) (grows_at b (positions_at P) (part + 4) window i)
  grows-are = every-same (positions P) _ _ λ p l.
      let last : before window p < positions P = mod-lt _ (omega arith) in
      rw (held_is p l, held_is (before window p) last, owner-is p l)

  abbrev flow_as : Flow
  flow_as = record { injection = field16 b part; remainder = field16 b (part + 2); held = (flow_in b P i).held; number = field16 b number_at }

  flow-as : flow_in b P i ≡ flow_as
  flow-as =
      let injection = field_is 0 part (omega arith) in
      let remainder = field_is 1 (part + 2) (omega arith) in
      let number = field_is (2 + positions P) number_at (omega arith) in
      λ k. record { injection = injection k; remainder = remainder k; held = (flow_in b P i).held; number = number k }

  -- the conditions on flow i by its fields
  abbrev pub by_fields : Bool
  by_fields =
      spends_well b (positions_at P) part window i share && holds_well b (positions_at P) (part + 4) window i cells && ltb (field16 b number_at) 1024

  pub flow-by-fields : flow_kept b P current i ≡ by_fields
  unfolding flow_test
  flow-by-fields = ap (flow_test P current owners i) flow-as ∙ go (dec_lt (field16 b part) P.frames)
    where
      go : Dec (field16 b part < P.frames) → flow_test P current owners i flow_as ≡ by_fields
      go (yes h) =
          let spent = ap (λ n. eqb (n + field16 b (part + 2)) share) (bookings-are (field16 b part) h) in
          rw (lt-ltb (field16 b part) P.frames h, ← and_assoc) (λ k. frames_are (field16 b part) k && spent k && cells_are k && grows-are k && ltb (field16 b number_at) 1024)
      go (no h) = rw (le-ltb (field16 b part) P.frames (omega arith))
