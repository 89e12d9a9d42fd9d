-- A stream's tiles that are sent ahead leave within the bounds that their bookings have. Assumes nothing.
use Prim.Native.Nat.{ℕ, ◌≤◌}
use mathlib.Core.Path.{◌≡◌, refl, sym, ap, ◌∙◌}
use mathlib.Core.List.{List, ◌++◌}
use native.Mathlib.Omega.{arith}
use lib.ListN.{length}
use borrow.Author.Tests.{ne_eqb}
use Rattle.model.specs.Plan.{Plan}
use Rattle.model.specs.Calls.{Event, History, requested, credited, ticked, lent, accepted, refused}
use Rattle.model.specs.History.{ticks, slot_after, marks_of, grant_at, grants}
use Rattle.model.specs.Claim.{AtLoan}
use Rattle.model.specs.Scheduler.{Scheduler}
use Rattle.arrival.specs.SeveralLinks.{slots_of, tile, Board, plan_on, sent_on}
use Rattle.ahead.specs.AheadRuns.{WithAhead, BookedAlike}
use Rattle.ahead.specs.Sendings.{Sending, nothing, event, ahead, Tile, tile_at, tiles, sending_of, LentOnlyAhead}
use Rattle.ahead.specs.AheadOverLinks.{left_on, KeptWithin}
use Rattle.model.proofs.Plan.{accepted as accepted_plan}
use Rattle.arrival.proofs.TimelyRequests.{frame-order}
use Rattle.ahead.proofs.Sendings.{waits-is, none-late}
use Rattle.ahead.proofs.TileFields.{field_of, leaves-are, as_many, none_more, moved-field}

-- the slots of flow i's tiles are the granted ones
module _ (P : Plan) (i : ℕ) where
  slots_are : {h : History} (x : Sending h) → LentOnlyAhead x i → field_of (λ m. m.slot) i (tiles P x) ≡ slots_of i (grants P h)
  unfolding field_of slots_of grants marks_of
  slots_are nothing only = refl
  slots_are (event {h = h} e x) only = go e only.0 (slots_are x only.1)
    where
      go : (e : Event) → AtLoan (λ m j. j ≡ i → ⊥) e h → field_of (λ m. m.slot) i (tiles P x) ≡ slots_of i (grants P h)
          → field_of (λ m. m.slot) i (tile_at P e h ++ tiles P x) ≡ slots_of i (grant_at P e h ++ marks_of (grant_at P) h)
      go (requested w (accepted v)) other rest = rw rest refl
      go (requested w (refused r)) other rest = rest
      go (credited j p a) other rest = rest
      go (ticked y) other rest = rest
      go (lent m (accepted j)) other rest = rw (ne_eqb j i other) rest
      go (lent m (refused r)) other rest = rest
      go (Event.reset a) other rest = rest
  slots_are (ahead {h = h} j p x) only =
      let s = slot_after P (ticks h) p in
      moved-field (λ m. m.slot) i j s (ticks h) (tiles P x) (λ m e. sym (waits-is j s m e).slot) ∙ slots_are x only

-- ---- no tile leaves after its slot

module _ {c : Scheduler} (b : Board c) {h₂ : History} (x : WithAhead b.events h₂) (alike : BookedAlike (plan_on b) x)
    (only : LentOnlyAhead (sending_of x) b.stream) where
  abbrev sent : List Tile
  sent = tiles (plan_on b) (sending_of x)

  same : field_of (λ m. m.slot) b.stream sent ≡ sent_on b
  same = slots_are (plan_on b) b.stream (sending_of x) only ∙ ap (slots_of b.stream) (sym alike.same_grants)

  pub as-many-leave : length (left_on b x) ≡ length (sent_on b)
  as-many-leave = ap length (leaves-are b.stream sent) ∙ as_many (λ m. m.leaves) (λ m. m.slot) b.stream sent ∙ ap length same

  pub leaves-by-slot : (n : ℕ) → tile n (left_on b x) ≤ tile n (sent_on b)
  leaves-by-slot n =
      omega (
        arith,
        ap (tile n) (leaves-are b.stream sent),
        none_more (λ m. m.leaves) (λ m. m.slot) b.stream n sent (none-late (plan_on b) (sending_of x)),
        ap (tile n) same,
      )

pub leave-within : {c : Scheduler} → KeptWithin c
leave-within {c} k P from b within h₂ x alike only = record {
  as_many = as-many-leave b x alike only;
  frames_later = λ n below.
      omega (
        arith,
        frame-order (accepted_plan b.bytes b.passes) (tile n (left_on b x)) (tile n (sent_on b)) (leaves-by-slot b x alike only n),
        within.frames_later n below,
      );
  slots_later = λ n below. omega (arith, leaves-by-slot b x alike only n, within.slots_later n below);
}
