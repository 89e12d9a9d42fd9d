-- A lend on a link, as it is read. Assumes nothing.
use Prim.Native.Nat.{ℕ, zero, suc, ◌+◌, ◌%◌, ◌^◌, ◌≤◌, ◌<◌}
use mathlib.Core.Path.{◌≡◌, refl, sym, ap, subst, ◌∙◌}
use mathlib.Core.List.{List, ◌∷◌, []}
use mathlib.Core.Option as option
use Rattle.std.specs.Prelude.{Option, None, Some}
use mathlib.Core.Bool.{Bool, true, false, not, ◌&&◌, ◌||◌, cond}
use native.Mathlib.Nat.{mod-lt}
use native.Mathlib.Omega.{arith}
use lib.Dec.{leb, ltb, eqb}
use lib.ListN.{get_or}
use Rattle.model.specs.Refusals.{Line, first_of, ◌when◌}
use Rattle.model.specs.Plan as reference
use Rattle.model.specs.Calls.{accepted, in_mask}
use Rattle.model.specs.Window.{Window, every_from}
use Rattle.model.specs.Link as model
use Rattle.model.specs.Request.{unbooked}
use Rattle.model.specs.Tables.{first_from}
use Rattle.model.specs.Lend.{can_take, takes, lend_tests, marked_for, lent_to, first_in_turn, lent_after, lend_after, lend}
use Rattle.model.proofs.LendTurn.{lend-is}
use Rattle.model.proofs.Tables.{first_from-some, first_from-same}
use Rattle.model.proofs.Tests.{and-true}
use Rattle.calls.specs.declared.Answer.TheVariants.{Lent, Refused}
use Rattle.calls.specs.Reading.{answer_to_lend}
use Rattle.plan.specs.declared.Plan.{Plan}
use Rattle.plan.specs.Reading.{no_entry}
use Rattle.window.specs.declared.Window as code
use Rattle.window.specs.Ranges.{replaced}
use Rattle.window.specs.Window.{window_of, size_of, from_in}
use Rattle.window.proofs.FromOn.{every_from-same}
use Rattle.tables.specs.Owners.{nobody, owner_of}
use Rattle.tables.specs.Rows.{row}
use Rattle.tables.specs.Holdings.{room_at, shifted_row, shifted}
use Rattle.tables.proofs.HoldingChanges.{one_more}
use Rattle.link.specs.Parts.{Parts}
use Rattle.link.specs.Layout.{size_for, entry_at, flow_at, owner_at}
use Rattle.link.specs.Updates.{with_held, with_holdings, with_mark, with_turn, with_flow}
use Rattle.link.specs.Reading.{link_of}
use Rattle.link.specs.Sound.{Sound}
use Rattle.link.specs.Lend.{takes_in, flow_found, first_taker}
use Rattle.link.proofs.Plans.{plan-count, plan-entry}
use Rattle.link.specs.Steps.{SteppedParts}
use Rattle.link.proofs.Given.{AtHand}
use Rattle.link.proofs.Takers.{given_by}
use Rattle.link.proofs.Credits.{same_flow}
use Rattle.link.proofs.Readings.{read_count, read-entry, read-flow, read-holding, read-owner, some_flow}
use Rattle.link.proofs.Updated.{sound-with, sound-first, sound-owners, sound-flows, read-from, sound-from}

-- the tests of the current slot, with n flows, this owner and this mark
abbrev slot_tests : (n owner : ℕ) (marked : Bool) (mask : ℕ) → List Line
slot_tests n owner marked mask = 8 when leb (2 ^ n) mask ∷ 17 when (not (eqb owner nobody) || marked) ∷ []

pub unbooked-is : (x : ℕ) → unbooked (owner_of x) ≡ eqb x nobody
unbooked-is x = go (eqb x nobody)
  where
    go : (b : Bool) → unbooked (cond b option.none (option.some x)) ≡ b
    go true = refl
    go false = refl

-- a mark alone changes nothing else of what is read, and a link with any mark is sound
sound-marked : (l : Parts) → Sound l → (t : Bool) → Sound (with_mark l t)
sound-marked l s t = sound-with l s s.current (sound-owners l s) (sound-flows l s)

marked-link : (l : Parts) (t : Bool) → link_of (with_mark l t) ≡ model.with_mark (link_of l) t
unfolding link_of
marked-link l t = refl

-- and so it is with another flow to lend from
turned-link : (l : Parts) (i : ℕ) → link_of (with_turn l i) ≡ model.with_turn (link_of l) i
unfolding link_of
turned-link l i = refl

current-read : (l : Parts) → (link_of l).current ≡ l.current
unfolding link_of
current-read l = refl

module _ {l : Parts} {plan : Plan} {w : code.Window} (a : AtHand l plan w) (mask : ℕ) where
  count_is : plan.count ≡ l.plan.count
  count_is = ap (λ (p : Plan). p.count) a.plan_is

  current_is : w.current ≡ l.current
  unfolding link_of
  current_is = ap (λ (x : Window). x.current) a.window_is

  pub tests-are : first_of (slot_tests plan.count (owner_at l l.current) l.marked mask) ≡ first_of (lend_tests (link_of l) mask)
  unfolding first_of link_of
  tests-are = rw (count_is, read_count l, read-owner l l.current a.sound.current, unbooked-is (owner_at l l.current))

  -- ---- a flow that can take the slot

  module _ (i : ℕ) (hi : i < l.plan.count) where
    cells_are : (entry_at l i).cells ≡ (get_or plan.entries i no_entry).cells
    cells_are = ap (λ (p : Plan). (get_or p.entries i no_entry).cells) (sym a.plan_is)

    -- there is room at a position, as it is read
    room-same : (q : ℕ) → q < size_for l.plan
        → ltb (model.holding (link_of l) i q) (model.cells (link_of l) i) ≡ room_at (row l.held i) (entry_at l i).cells q
    room-same q b =
        let cells-read : model.cells (link_of l) i ≡ (entry_at l i).cells = ap (λ (e : reference.Entry). e.cells) (read-entry l i hi) in
        λ k. ltb (read-holding l i q hi b k) (cells-read k)

    takes_same : takes (link_of l) mask i ≡ takes_in plan w l.held mask i
    unfolding can_take link_of
    takes_same = ap (in_mask mask i &&◌) (
        every_from-same (model.window (link_of l)) l.current (λ q. ltb (model.holding (link_of l) i q) (model.cells (link_of l) i))
        (room_at (row l.held i) (entry_at l i).cells) room-same
        ∙ (λ k. every_from (sym a.window_is k) (sym current_is k) (room_at (row l.held i) (cells_are k))))

    cells_most : (entry_at l i).cells ≤ 255
    cells_most =
        let fits = a.sound.plan.accepted.entries_fit i (rw (plan-count l.plan) hi) in
        rw (ap (λ (e : reference.Entry). e.cells) (plan-entry l.plan i hi)) at fits.cells_most

    module _ (can : takes_in plan w l.held mask i ≡ true) where
      -- what it holds then: fewer than its cells were held, so that no byte goes round
      abbrev raised : List ℕ
      raised = shifted_row (window_of w) 1 l.current (row l.held i)

      current_below : l.current < size_of w
      current_below = rw (← current_is) a.proper.measures.current_below

      raised_is : raised ≡ replaced (from_in (window_of w) l.current) (λ q x. suc x) (row l.held i)
      raised_is =
          one_more w a.proper l.current current_below (row l.held i) (entry_at l i).cells cells_most
          ((λ k. every_from (window_of w) (sym current_is k) (room_at (row l.held i) (cells_are k))) ∙ (and-true (in_mask mask i) _ can).1)

      abbrev lent_link : Parts
      lent_link = with_mark (with_flow l i (with_held (flow_at l i) raised)) true

      lent-link : link_of lent_link ≡ marked_for (link_of l) i
      lent-link =
          marked-link (with_flow l i (with_held (flow_at l i) raised)) true
          ∙ ap (λ (m : model.Link). model.with_mark m true)
          (read-from l a.sound (window_of w) a.window_is i l.current hi suc raised raised_is (flow_at l i).flow (sym (read-flow l i hi))
          ∙ ap (λ (p : ℕ). model.with_flow (link_of l) i (model.with_held (model.flow (link_of l) i) (model.held_from (link_of l) i p suc))) (sym (current-read l)))

      sound-lent : Sound lent_link
      sound-lent =
          sound-marked (with_flow l i (with_held (flow_at l i) raised))
          (sound-from l a.sound (window_of w) a.window_is i l.current hi suc raised raised_is (flow_at l i).flow
          (a.sound.flows i hi).frame (a.sound.flows i hi).number) true

  -- ---- what a lend comes to

  some-here : 0 < plan.count
  some-here = omega (arith, count_is, some_flow l a.sound)

  -- the flows in turn, as they are read
  abbrev in_turn : option.Option ℕ
  in_turn = given_by plan w l.held mask plan.count l.turn

  turn-same : first_in_turn (link_of l) mask ≡ in_turn
  unfolding first_in_turn link_of
  turn-same =
      ap (λ n. first_from n l.turn (λ k. takes (link_of l) mask (k % n))) (read_count l ∙ sym count_is)
      ∙ first_from-same plan.count l.turn _ _ (λ k low high. takes_same (k % plan.count) (omega (arith, count_is, mod-lt k some-here)))

  module _ {n : ℕ} (tests : n ≡ first_of (slot_tests plan.count (owner_at l l.current) l.marked mask)) where
    pub lend-refused : (n ≡ 0 → ⊥) → SteppedParts answer_to_lend (lend (link_of l) mask) l (Refused n)
    unfolding lend lend_after
    lend-refused nonzero = rw (← (tests ∙ tests-are)) (go n nonzero)
      where
        go : (k : ℕ) → (k ≡ 0 → ⊥) → SteppedParts answer_to_lend (lend_after k (link_of l) mask) l (Refused k)
        go zero some = absurd (some refl)
        go (suc r) some = record { link_is = refl; answer_is = refl; sound = a.sound }

    module _ (z : n ≡ 0) {o : Option ℕ} (first : o ≡ first_taker (takes_in plan w l.held mask) plan.count l.turn) where
      comes-to : lend (link_of l) mask ≡ lent_after (link_of l) in_turn
      comes-to = lend-is (link_of l) mask (sym (tests ∙ tests-are) ∙ z) ∙ ap (lent_after (link_of l)) turn-same

      first_is : o ≡ flow_found plan.count in_turn
      unfolding first_taker
      first_is = first

      pub lend-to-nobody : o ≡ None → SteppedParts answer_to_lend (lend (link_of l) mask) l (Refused 18)
      unfolding lent_after
      lend-to-nobody end = rw comes-to (go in_turn first_is)
        where
          go : (p : option.Option ℕ) → o ≡ flow_found plan.count p → SteppedParts answer_to_lend (lent_after (link_of l) p) l (Refused 18)
          go option.none e = record { link_is = refl; answer_is = refl; sound = a.sound }
          go (option.some k) e = cc

      -- flow i was found
      record Found (i : ℕ) : Type 0 where
        number : ℕ
        is : in_turn ≡ option.some number
        flow_is : i ≡ number % plan.count

      module _ {i : ℕ} (some : o ≡ Some i) where
        was-found : Found i
        was-found = go in_turn refl
          where
            go : (p : option.Option ℕ) → in_turn ≡ p → Found i
            go option.none e = let z : o ≡ None = first_is ∙ ap (flow_found plan.count) e in cc
            go (option.some k) e = let z : o ≡ Some (k % plan.count) = first_is ∙ ap (flow_found plan.count) e in record { number = k; is = e; flow_is = cc }

        pub taker-below : i < l.plan.count
        taker-below = omega (arith, was-found.flow_is, count_is, mod-lt was-found.number some-here)

        can_take_lem : takes_in plan w l.held mask i ≡ true
        can_take_lem =
            ap (takes_in plan w l.held mask) was-found.flow_is
            ∙ (first_from-some plan.count l.turn (λ k. takes_in plan w l.held mask (k % plan.count)) was-found.number was-found.is).passes

        lent_is : lend (link_of l) mask ≡ record { link = lent_to (link_of l) i; answer = accepted i }
        unfolding lent_after
        lent_is =
            let same : was-found.number % reference.flow_count (link_of l).plan ≡ i =
            ap (was-found.number %◌) (read_count l ∙ sym count_is) ∙ sym was-found.flow_is in
            comes-to ∙ ap (lent_after (link_of l)) was-found.is ∙ ap (λ j. record { link = lent_to (link_of l) j; answer = accepted j }) same

        -- and the next lend looks at the one after it first
        module _ {on : ℕ} (next-is : on ≡ (i + 1) % plan.count) where
          on_below : on < l.plan.count
          on_below = omega (arith, next-is, count_is, mod-lt (i + 1) some-here)

          turned : link_of (with_turn (lent_link i taker-below can_take_lem) on) ≡ lent_to (link_of l) i
          unfolding lent_to
          turned =
              let next-read : on ≡ (i + 1) % reference.flow_count (link_of l).plan = next-is ∙ ap ((i + 1) %◌) (count_is ∙ sym (read_count l)) in
              turned-link (lent_link i taker-below can_take_lem) on ∙ (λ k. model.with_turn (lent-link i taker-below can_take_lem k) (next-read k))

          pub lend-to-taker : {h : List ℕ} → h ≡ shifted (window_of w) 1 i l.current l.held
              → SteppedParts answer_to_lend (lend (link_of l) mask) (with_turn (with_mark (with_holdings l h) true) on) (Lent i)
          lend-to-taker e =
              let Comes : Parts → Type 0 = λ p. SteppedParts answer_to_lend (lend (link_of l) mask) (with_turn (with_mark p true) on) (Lent i) in
              subst Comes (sym (ap (with_holdings l) e ∙ same_flow l i (raised i taker-below can_take_lem))) (rw lent_is (record {
                link_is = turned;
                answer_is = refl;
                sound = sound-first _ (sound-lent i taker-below can_take_lem) on_below;
              }))
