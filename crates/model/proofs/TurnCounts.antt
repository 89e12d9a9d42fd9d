-- Lists of calls whose lends go in turn are fair. Assumes nothing.
use Prim.Native.Nat.{ℕ, zero, suc, ◌+◌, ◌%◌, ◌≤◌, ◌<◌}
use mathlib.Core.Path.{◌≡◌, refl, sym, ap, ◌∙◌, subst}
use mathlib.Core.List.{List, ◌∷◌, [], ◌++◌}
use native.Mathlib.Decide.{ℕ_discrete, dec_lt}
use native.Mathlib.Omega.{arith}
use lib.ListN.{length}
use borrow.Author.Tests.{eq-eqb, ne_eqb}
use Rattle.model.specs.Tables.{tally}
use Rattle.model.specs.Plan.{Plan, flow_count}
use Rattle.model.specs.Calls.{History, lent, accepted}
use Rattle.model.specs.History.{Mark, ticks, marks_of, lends, of_flow}
use Rattle.model.specs.Fairness.{Waits, lent_in, InTurn, Even, WithinARound, FairOn}
use Rattle.model.proofs.Marks.{mark}
use Rattle.model.proofs.TurnOrder.{place, place-below, place-one, nearer, next-round}
use Rattle.model.proofs.Turns.{LentInTurn, Turned, over-the-stretch}

-- ---- how often flow i is lent to, and flow j that waits

lent-hit : (i k s : ℕ) (marks : List Mark) → k ≡ i → tally (of_flow i) (mark k s ∷ marks) ≡ suc (tally (of_flow i) marks)
unfolding tally
lent-hit i k s marks e = rw (eq-eqb k i e) (omega arith)

lent-skip : (i k s : ℕ) (marks : List Mark) → (k ≡ i → ⊥) → tally (of_flow i) (mark k s ∷ marks) ≡ tally (of_flow i) marks
unfolding tally
lent-skip i k s marks d = rw (ne_eqb k i d) (omega arith)

module _ (P : Plan) (some : 0 < flow_count P) (j : ℕ) (hj : j < flow_count P) where
  abbrev n : ℕ
  n = flow_count P

  -- Flow i is lent to at most c times more, and less where it is looked at before j.
  record Level (i c : ℕ) (marks : List Mark) (p : ℕ) : Type 0 where
    never_more : tally (of_flow i) marks ≤ tally (of_flow j) marks + c
    less_if_due : place n p i < place n p j → tally (of_flow i) marks < tally (of_flow j) marks + c

  module _ {i : ℕ} (hi : i < n) (other : i ≡ j → ⊥) (c : ℕ) where
    level-on : (marks : List Mark) (p q mask k s : ℕ) (h : History) → Level i c marks p → LentInTurn P p q mask k h → Waits P j mask h
        → Level i c (mark k s ∷ marks) q
    level-on marks p q mask k s h level turn waits = subst (Level i c (mark k s ∷ marks)) (sym turn.next) (go (ℕ_discrete k i) (ℕ_discrete k j))
      where
        not_after : place n p k ≤ place n p j
        not_after = turn.first j hj waits

        apart : {x y : ℕ} → x < n → y < n → (x ≡ y → ⊥) → place n p x ≡ place n p y → ⊥
        apart hx hy d e = d (place-one some p hx hy e)

        go : Dec (k ≡ i) → Dec (k ≡ j) → Level i c (mark k s ∷ marks) ((k + 1) % n)
        -- both at once
        go (yes e) (yes f) = absurd (other (sym e ∙ f))
        -- flow i, which was due, and comes last from now on
        go (yes e) (no f) =
            let before-j : place n p i < place n p j = subst (λ x. place n p x < place n p j) e (omega (arith, not_after, apart turn.known hj f)) in
            record {
              never_more = omega (arith, lent-hit i k s marks e, lent-skip j k s marks f, level.less_if_due before-j);
              less_if_due = λ lt. absurd (omega (
                arith,
                lt,
                subst (λ x. place n ((k + 1) % n) x + suc (place n p k) ≡ n + place n p x) e (next-round some p turn.known turn.known (omega arith)),
                ap (place n p) e,
                place-below some ((k + 1) % n) j,
              ));
            }
        -- flow j
        go (no e) (yes f) = record {
          never_more = omega (arith, lent-skip i k s marks e, lent-hit j k s marks f, level.never_more);
          less_if_due = λ lt. omega (arith, lent-skip i k s marks e, lent-hit j k s marks f, level.never_more);
        }
        -- a third flow: i comes before j if it did, and else in the next round
        go (no e) (no f) = record {
          never_more = omega (arith, lent-skip i k s marks e, lent-skip j k s marks f, level.never_more);
          less_if_due = λ lt. still lt (dec_lt (place n p k) (place n p i));
        }
          where
            k-before-j : place n p k < place n p j
            k-before-j = omega (arith, not_after, apart turn.known hj f)

            j-nearer : place n ((k + 1) % n) j + suc (place n p k) ≡ place n p j
            j-nearer = nearer some p turn.known hj k-before-j

            still : place n ((k + 1) % n) i < place n ((k + 1) % n) j → Dec (place n p k < place n p i)
                → tally (of_flow i) (mark k s ∷ marks) < tally (of_flow j) (mark k s ∷ marks) + c
            still lt (yes after) =
                let due = level.less_if_due (omega (arith, lt, j-nearer, nearer some p turn.known hi after)) in
                omega (arith, lent-skip i k s marks e, lent-skip j k s marks f, due)
            still lt (no before) = absurd (omega (arith, lt, j-nearer, next-round some p turn.known hi (omega arith), place-below some p j))

  -- ---- how many lends there are until one goes to j

  -- as long as none has, the lends and the flows before j come to less than n
  record Soon (marks : List Mark) (p : ℕ) : Type 0 where
    within : tally (of_flow j) marks ≡ 0 → length marks + place n p j < n

  soon-on : (marks : List Mark) (p q mask k s : ℕ) (h : History) → Soon marks p → LentInTurn P p q mask k h → Waits P j mask h → Soon (mark k s ∷ marks) q
  soon-on marks p q mask k s h soon turn waits = subst (Soon (mark k s ∷ marks)) (sym turn.next) (record { within = λ none. go none (ℕ_discrete k j) })
    where
      go : tally (of_flow j) (mark k s ∷ marks) ≡ 0 → Dec (k ≡ j) → suc (length marks) + place n ((k + 1) % n) j < n
      go none (yes e) = absurd (omega (arith, none, lent-hit j k s marks e))
      go none (no d) =
          let apart : place n p k ≡ place n p j → ⊥ = λ e. d (place-one some p turn.known hj e) in
          let before : place n p k < place n p j = omega (arith, turn.first j hj waits, apart) in
          omega (arith, nearer some p turn.known hj before, soon.within (sym (lent-skip j k s marks d) ∙ none))

-- ---- fairness

module _ (P : Plan) (some : 0 < flow_count P) (h : History) (p : ℕ) (t : Turned P h p) where
  along : (stretch early : History) → h ≡ stretch ++ early → Turned P (stretch ++ early) p
  along stretch early e = subst (λ x. Turned P x p) e t

  even : Even P h
  unfolding tally
  even stretch early e i j hi hj w = go (ℕ_discrete i j)
    where
      go : Dec (i ≡ j) → lent_in stretch i ≤ lent_in stretch j + 1
      go (yes same) = omega (arith, ap (lent_in stretch) same)
      go (no other) =
          (over-the-stretch P j (Level P some j hj i 1) early (λ q x. record { never_more = omega arith; less_if_due = λ lt. omega arith })
          (level-on P some j hj hi other 1) stretch p (along stretch early e) w).never_more

  within_a_round : WithinARound P h
  within_a_round stretch early e j hj w enough = go (lent_in stretch j) refl
    where
      soon : Soon P some j hj (lends stretch) p
      soon = over-the-stretch P j (Soon P some j hj) early (λ q x. record { within = λ none. omega (arith, place-below some q j) }) (soon-on P some j hj) stretch p (along stretch early e) w

      go : (x : ℕ) → lent_in stretch j ≡ x → 0 < x
      go zero none = absurd (omega (arith, soon.within none))
      go (suc x) is = omega arith

  -- after a lend to flow i it comes last
  after-lend-to : (i j mask : ℕ) (hj : j < flow_count P) (before : History) (q : ℕ) → Turned P (lent mask (accepted i) ∷ before) q
      → (i < flow_count P) × Level P some j hj i 0 [] q
  unfolding tally
  after-lend-to i j mask hj before q (Turned.moved {p = x} u m) = (
    m.known,
    record {
      never_more = omega arith;
      less_if_due = λ lt. absurd (omega (
        arith,
        subst (λ y. place (flow_count P) y i < place (flow_count P) y j) m.next lt,
        next-round some x m.known m.known (omega arith),
        place-below some ((i + 1) % flow_count P) j,
      ));
    },
  )

  -- the flow to look from before a stretch
  earlier : (stretch early : History) (q : ℕ) → Turned P (stretch ++ early) q → (x : ℕ) × Turned P early x
  earlier [] early q u = (q, u)
  earlier (e ∷ stretch) early q (Turned.moved {p = x} u m) = earlier stretch early x u

  in-turn : InTurn P h
  unfolding lends marks_of
  in-turn i mask mask₀ between before e j hj other w =
      let stretch = lent mask (accepted i) ∷ between in
      let first = lent mask₀ (accepted i) ∷ before in
      let u = along stretch first e in
      let x = earlier stretch first p u in
      let hi = (after-lend-to i j mask₀ hj before x.0 x.1).0 in
      let level = over-the-stretch P j (Level P some j hj i 0) first (λ q v. (after-lend-to i j mask₀ hj before q v).1)
      (level-on P some j hj hi (λ same. other (sym same)) 0) stretch p u w in
      omega (
        arith,
        level.never_more,
        lent-hit i i (ticks between) (lends between) refl,
        lent-skip j i (ticks between) (lends between) (λ same. other (sym same)),
      )

  pub fair-on : FairOn P h
  fair-on = record { in-turn = in-turn; even = even; within_a_round = within_a_round }
