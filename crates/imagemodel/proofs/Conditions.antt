-- The test of a link is passed exactly if the link meets the conditions. Assumes nothing.
use Prim.Native.Nat.{ℕ}
use mathlib.Core.Path.{◌≡◌, refl}
use mathlib.Core.Logic.{◌↔◌}
use mathlib.Core.List.{List}
use mathlib.Core.Option.{Option}
use mathlib.Core.Bool.{Bool, true, false, not, ◌&&◌, ◌||◌}
use lib.ListN.{get_or}
use lib.Dec.{leb, eqb}
use borrow.Author.Tests.{ltb-true, leb-true, eqb-true, lt-ltb, le-leb, eq-eqb}
use Rattle.model.specs.Plan.{Plan, positions, flow_count, entry}
use Rattle.model.specs.Window.{later}
use Rattle.model.specs.Link.{Link, Flow, owner, flow}
use Rattle.model.proofs.Tests.{and-true}
use Rattle.model.proofs.Tables.{every-at, every-intro}
use Rattle.imagemodel.specs.Consistent.{known, bookings_in, frame_after, window_at, grows_to, ConsistentFlow, flow_test, Consistent, consistent}

-- ---- tests

both : (a b : Bool) → a ≡ true → b ≡ true → a && b ≡ true
both a b e f = rw (e, f)

-- a test that is made only where another is passed
where-passed : (a b : Bool) → not a || b ≡ true → a ≡ true → b ≡ true
where-passed true b e p = e
where-passed false b e p = cc

made-where : (a b : Bool) → (a ≡ true → b ≡ true) → not a || b ≡ true
made-where true b h = h refl
made-where false b h = refl

-- ---- a flow

module _ (P : Plan) (current : ℕ) (owners : List (Option ℕ)) (i : ℕ) (x : Flow) where
  abbrev W : ℕ
  W = P.frames

  abbrev T : ℕ
  T = positions P

  abbrev share_kept : ℕ → Bool
  share_kept j = leb (bookings_in P owners i j) (entry P i).share

  abbrev none_after : ℕ → Bool
  none_after j = not (frame_after (window_at P current) j x.injection) || eqb (bookings_in P owners i j) 0

  abbrev cells_kept : ℕ → Bool
  cells_kept p = leb (get_or x.held p 0) (entry P i).cells

  abbrev growth_kept : ℕ → Bool
  growth_kept p = not (later (window_at P current) p current) || leb (get_or x.held p 0) (grows_to P current owners i x p)

  pub flow-passed : flow_test P current owners i x ≡ true → ConsistentFlow P current owners i x
  unfolding flow_test
  flow-passed e =
      let g = and-true _ _ e in
      let f = and-true _ _ g.0 in
      let d = and-true _ _ f.0 in
      let c = and-true _ _ d.0 in
      let b = and-true _ _ c.0 in
      let a = and-true _ _ b.0 in
      record {
        injection_below = ltb-true x.injection W a.0;
        within_share = λ j lt. leb-true _ _ (every-at W share_kept j a.1 lt);
        none_after = λ j lt after. eqb-true (bookings_in P owners i j) 0 (where-passed _ _ (every-at W none_after j b.1 lt) after);
        spent = eqb-true _ _ c.1;
        within_cells = λ p lt. leb-true _ _ (every-at T cells_kept p d.1 lt);
        grows = λ p lt is_later. leb-true _ _ (where-passed _ _ (every-at T growth_kept p f.1 lt) is_later);
        number_below = ltb-true x.number 1024 g.1;
      }

  pub flow-passes : ConsistentFlow P current owners i x → flow_test P current owners i x ≡ true
  unfolding flow_test
  flow-passes v =
      rw (
        lt-ltb x.injection W v.injection_below,
        every-intro W share_kept (λ j lt. le-leb _ _ (v.within_share j lt)),
        every-intro W none_after (λ j lt. made-where _ _ (λ after. eq-eqb _ _ (v.none_after j lt after))),
        eq-eqb _ _ v.spent,
        every-intro T cells_kept (λ p lt. le-leb _ _ (v.within_cells p lt)),
        every-intro T growth_kept (λ p lt. made-where _ _ (λ is_later. le-leb _ _ (v.grows p lt is_later))),
        lt-ltb x.number 1024 v.number_below,
      )

-- ---- a link

module _ (l : Link) where
  abbrev each_owner : ℕ → Bool
  each_owner p = known (flow_count l.plan) (owner l p)

  abbrev each_flow : ℕ → Bool
  each_flow i = flow_test l.plan l.current l.owners i (flow l i)

  pub consistent-exactly : (consistent l ≡ true) ↔ Consistent l
  unfolding consistent
  consistent-exactly = (passed, passes)
    where
      passed : consistent l ≡ true → Consistent l
      passed e =
          let b = and-true _ _ e in
          let a = and-true _ _ b.0 in
          let below = and-true _ _ a.0 in
          record {
            current_below = ltb-true l.current (positions l.plan) below.0;
            turn_below = ltb-true l.turn (flow_count l.plan) below.1;
            owners_known = λ p lt. every-at (positions l.plan) each_owner p a.1 lt;
            each_flow = λ i lt. flow-passed _ _ _ i _ (every-at (flow_count l.plan) each_flow i b.1 lt);
          }

      passes : Consistent l → consistent l ≡ true
      passes v =
          rw (
            lt-ltb l.current (positions l.plan) v.current_below,
            lt-ltb l.turn (flow_count l.plan) v.turn_below,
            every-intro (positions l.plan) each_owner v.owners_known,
            every-intro (flow_count l.plan) each_flow (λ i lt. flow-passes _ _ _ i _ (v.each_flow i lt)),
          )
