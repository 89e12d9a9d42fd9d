-- A granted reset leaves a link that takes requests like one that is fresh but for the clock and the expected numbers; a second one and one on a fresh link change nothing.
-- Assumes nothing.
use Prim.Native.Nat.{ℕ, zero, suc, ◌%◌, ◌<◌}
use mathlib.Core.Path.{◌≡◌, refl, sym, ap, ap₂, ◌∙◌, subst}
use mathlib.Core.List.{◌∷◌}
use mathlib.Core.Option.{none}
use mathlib.Core.Bool.{Bool, cond, true, false, not, ◌||◌}
use native.Mathlib.Nat.{zero-div, mod-lt, mod-eq_of_lt}
use native.Mathlib.Omega.{arith}
use lib.Dec.{eqb}
use lib.ListN.{get_or, replicate, get_or-replicate}
use borrow.Author.Tests.{eqb-true}
use Rattle.model.specs.Tables.{table}
use Rattle.model.specs.Plan.{Plan, Accepted, positions, flow_count, entry}
use Rattle.model.specs.Calls.{accepted}
use Rattle.model.specs.Window.{head, later, from_on, every_from}
use Rattle.model.specs.Link.{Link, window, owner, flow, holding, moved_to, link_with}
use Rattle.model.specs.Fresh.{fresh_flow, fresh}
use Rattle.model.specs.Request.{unbooked}
use Rattle.model.specs.Reset.{none_booked, none_held, quiet, from_head, reset_link, reset}
use Rattle.model.specs.Holding.{InWindow}
use Rattle.model.specs.AsFresh.{flow_at, fresh_at, answers_to, GoesOnAsFresh, TwiceIsOnce, FreshStays}
use Rattle.model.proofs.Tests.{or-true}
use Rattle.model.proofs.Tables.{table_same, every-at, every-intro}
use Rattle.model.proofs.Slots.{some-frame, some-position, current-in-window}
use Rattle.model.proofs.Window.{Current, head_is, every_from-at}
use Rattle.model.proofs.LinkUpdates.{owner-with_owners, flow-with_flows}
use Rattle.model.proofs.FreshKeeps.{fresh-flow}
use Rattle.model.proofs.ResetTests.{granted, not_granted, reset-is, Quiet, quiet-parts}
use Rattle.model.proofs.RequestsAlike.{Alike, pair, answers-alike}

-- ---- a granted reset found the link quiet

quiet-granted : (l : Link) → quiet l ≡ true → reset l ≡ granted l
quiet-granted l e = reset-is l ∙ rw e

granted-quiet : (l : Link) → (reset l).answer ≡ accepted tt → quiet l ≡ true
granted-quiet l a = go (quiet l) (sym (ap (λ s. s.answer) (reset-is l)) ∙ a)
  where
    go : (b : Bool) → (cond b (granted l) (not_granted l)).answer ≡ accepted tt → b ≡ true
    go true e = refl
    go false e = let z : ◌≡◌ {A = ℕ} 0 1 = cc in absurd (omega arith)

-- ---- requests after it

module _ (l : Link) (ok : Accepted l.plan) (below : l.current < positions l.plan) (found : Quiet l) where
  open l use {plan as P}

  abbrev t : ℕ
  t = l.current

  abbrev T : ℕ
  T = positions P

  -- the slots of the window are numbered so that CP is its slot's own number
  now : Current P t t
  now = record { accepted = ok; current_is = sym (mod-eq_of_lt below) }

  nothing-held : (i : ℕ) → i < flow_count P → (s : ℕ) → InWindow P t s → t < s → holding l i (s % T) ≡ 0
  unfolding none_held
  nothing-held i known s w after =
      let held = every-at (flow_count P) (λ i. every_from (window l) t (λ q. eqb (holding l i q) 0)) i found.none-held known in
      eqb-true (holding l i (s % T)) 0
      (every_from-at now t (λ q. eqb (holding l i q) 0) (current-in-window ok t)
      (subst (λ p. every_from (window l) p (λ q. eqb (holding l i q) 0) ≡ true) now.current_is held) s w (omega arith))

  -- the numbers that are expected stay
  abbrev numbers : ℕ → ℕ
  numbers i = (flow l i).number

  alike : Alike l now (reset_link l) (fresh_at P t numbers)
  unfolding reset_link fresh
  alike = record {
    owners = λ s w after.
        owner-with_owners l (λ q. none) (s % T) (mod-lt s (some-position ok))
        ∙ sym (get_or-replicate T (s % T) none none (mod-lt s (some-position ok)));
    flows = λ i known. rw (flow-with_flows l (from_head l) i known, flow-with_flows (fresh P) (flow_at P t numbers) i known) (record {
      frame = refl;
      frame_below = rw (head_is now) (mod-lt _ (some-frame ok));
      remainder = refl;
      held = λ s w after. nothing-held i known s w after ∙ sym (get_or-replicate T (s % T) 0 0 (mod-lt s (some-position ok)));
      number = refl;
    });
  }

pub goes-on-as-fresh : GoesOnAsFresh reset
unfolding reset_link fresh
goes-on-as-fresh l ok below e words =
    let was-quiet = granted-quiet l e in
    let q = quiet-parts l was-quiet in
    ap (λ s. answers_to s.link words) (quiet-granted l was-quiet)
    ∙ answers-alike l (now l ok below q) words (pair l (now l ok below q) (reset_link l) (fresh_at l.plan l.current (numbers l ok below q))) (alike l ok below q)

-- ---- a second reset

module _ (l : Link) (below : l.current < positions l.plan) (found : Quiet l) where
  open l use {plan as P}

  emptied : (q : ℕ) → q < positions P → owner (reset_link l) q ≡ none
  unfolding reset_link
  emptied q h = owner-with_owners l (λ q. none) q h

  from-head : (i : ℕ) → i < flow_count P → flow (reset_link l) i ≡ from_head l i
  unfolding reset_link
  from-head i known = flow-with_flows l (from_head l) i known

  still-quiet : quiet (reset_link l) ≡ true
  unfolding reset_link none_booked none_held
  still-quiet =
      rw (
        every-intro (positions P) _ (λ q h. or-true (not (later (window l) q l.current)) _ (ap unbooked (emptied q h))),
        every-intro (flow_count P) _ (λ i known.
            ap (λ x. every_from (window l) l.current (λ q. eqb (get_or x.held q 0) 0)) (from-head i known)
            ∙ every-at (flow_count P) _ i found.none-held known),
      )

  nothing-new : reset_link (reset_link l) ≡ reset_link l
  unfolding reset_link
  nothing-new =
      ap₂ (λ flows marked. link_with l l.current (table (positions P) (λ q. none)) flows marked (reset_link l).turn)
      (table_same (flow_count P) _ _ (λ i known. ap (λ x. moved_to x (head (window l)) (entry P i).share) (from-head i known)))
      (ap (λ o. not (unbooked o) || (reset_link l).marked) (emptied l.current below))

pub twice-is-once : TwiceIsOnce reset
twice-is-once l below e =
    let was-quiet = granted-quiet l e in
    let q = quiet-parts l was-quiet in
    rw (quiet-granted l was-quiet, quiet-granted (reset_link l) (still-quiet l below q), nothing-new l below q)

-- ---- a fresh link

table-replicate : {A : Type 0} (n : ℕ) (x : A) → table n (λ k. x) ≡ replicate n x
table-replicate zero x = refl
table-replicate (suc n) x = ap (x ∷◌) (table-replicate n x)

module _ (P : Plan) (ok : Accepted P) where
  unowned : (q : ℕ) → q < positions P → owner (fresh P) q ≡ none
  unfolding fresh
  unowned q h = get_or-replicate (positions P) q none none h

  fresh-none_booked : none_booked (fresh P) ≡ true
  unfolding fresh none_booked
  fresh-none_booked =
      every-intro (positions P) (λ q. not (later (window (fresh P)) q 0) || unbooked (owner (fresh P) q))
      (λ q h. or-true (not (later (window (fresh P)) q 0)) _ (ap unbooked (unowned q h)))

  none-held : none_held (fresh P) ≡ true
  unfolding fresh none_held every_from
  none-held =
      every-intro (flow_count P) (λ i. every_from (window (fresh P)) 0 (λ q. eqb (holding (fresh P) i q) 0)) λ i known.
      every-intro (positions P) (λ q. not (from_on (window (fresh P)) 0 q) || eqb (holding (fresh P) i q) 0) λ q h.
      or-true (not (from_on (window (fresh P)) 0 q)) _
      (ap (λ x. eqb (get_or x.held q 0) 0) (fresh-flow ok i known) ∙ ap (λ x. eqb x 0) (get_or-replicate (positions P) q 0 0 h))

  fresh-again : reset_link (fresh P) ≡ fresh P
  unfolding fresh reset_link
  fresh-again =
      let flows_are = table_same (flow_count P) (from_head (fresh P)) (fresh_flow P) (λ i known.
      ap₂ (λ x j. moved_to x j (entry P i).share) (fresh-flow ok i known) (zero-div P.slots)) in
      ap₂ (λ owners flows. link_with (fresh P) 0 owners flows (not (unbooked (owner (fresh P) 0)) || false) 0) (table-replicate (positions P) none) flows_are
      ∙ ap (λ o. link_with (fresh P) 0 (replicate (positions P) none) (table (flow_count P) (fresh_flow P)) (not (unbooked o) || false) 0)
      (unowned 0 (some-position ok))

pub fresh-stays : FreshStays reset
fresh-stays P ok = quiet-granted (fresh P) (rw (fresh-none_booked P ok, none-held P ok)) ∙ ap (λ l. record { link = l; answer = accepted tt }) (fresh-again P ok)
