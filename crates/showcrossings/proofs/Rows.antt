-- Links in a row that are played all together are a way of crossings: to each crossing what the others do is calls of others. Assumes nothing.
use Prim.Native.Nat.{ℕ, zero, suc}
use mathlib.Core.Path.{◌≡◌, refl, sym, ap, ◌∙◌, subst}
use mathlib.Core.List.{List, ◌∷◌, [], ◌++◌}
use mathlib.Core.Option.{Option, none}
use mathlib.Core.Bool.{Bool, true, false, cond}
use native.Mathlib.Decide.{ℕ_discrete}
use native.Mathlib.Omega.{arith}
use borrow.Author.Tests.{eq-eqb, ne_eqb}
use Rattle.model.specs.Plan.{Plan}
use Rattle.model.specs.Calls.{Call, TickAnswer}
use Rattle.model.specs.Scheduler.{Played, reference, step}
use Rattle.model.proofs.Tests.{and-true}
use Rattle.arrival.specs.SeveralLinks.{Board, plan_on}
use Rattle.crossings.specs.Crossing.{Crossing, crossing_with, served}
use Rattle.crossings.specs.Playing.{Other, on_arriving, on_leaving, theirs_arriving, theirs_leaving, another, others, in_slots}
use Rattle.crossings.proofs.Neighbours.{served-keeps, part-before, part-after}
use Rattle.showcrossings.specs.Ways.{Crossed}
use Rattle.showcrossings.specs.Rows.{Row, instead, Act, part, call, crossing_at, with_part, theirs, with_call, act, acts, all_tick, row_slot, row_slots}
use Rattle.showcrossings.specs.Rows.{row_played}
use Rattle.showcrossings.specs.Rows.{NotPart, NoPart, OnePart, InEachSlot, OnRow, CrossedThere, AlongRow, RowsCross}
use Rattle.showcrossings.proofs.PlayedAs.{others-then, PlayedAs, slot-more}

-- ---- something else at k

instead-same : {A : Type 0} (f : ℕ → A) (k : ℕ) (v : A) → instead f k v k ≡ v
instead-same f k v = rw (eq-eqb k k refl)

instead-other : {A : Type 0} (f : ℕ → A) (k : ℕ) (v : A) (n : ℕ) → (n ≡ k → ⊥) → instead f k v n ≡ f n
instead-other f k v n other = rw (ne_eqb n k other)

-- two crossings with the same table
same-crossing : (t : List (Option ℕ)) {a a' b b' : Played reference} {w w' : List ℕ} → a ≡ a' → b ≡ b' → w ≡ w'
    → ◌≡◌ {A = Crossing} (record { arriving = a; leaving = b; onward = t; waiting = w }) (record { arriving = a'; leaving = b'; onward = t; waiting = w' })
same-crossing t p q r = λ m. record { arriving = p m; leaving = q m; onward = t; waiting = r m }

-- y comes of x by calls of others
record AsOthers (x y : Crossing) : Type 0 where
  calls : List Other
  come_to : others calls x ≡ y

as_same : {x y : Crossing} → x ≡ y → AsOthers x y
unfolding others
as_same e = record { calls = []; come_to = e }

as-then : {x y z : Crossing} → AsOthers x y → AsOthers y z → AsOthers x z
as-then {x} a b = record { calls = a.calls ++ b.calls; come_to = others-then a.calls b.calls x ∙ ap (others b.calls) a.come_to ∙ b.come_to }

one-call : (x : Crossing) (o : Other) (y : Crossing) → another o x ≡ y → AsOthers x y
unfolding others
one-call x o y e = record { calls = o ∷ []; come_to = e }

module _ (onward : ℕ → List (Option ℕ)) where
  -- ---- a call

  abbrev called : (k : ℕ) → Call → Row → Row
  called k c row = record { link = instead row.link k (step reference (row.link k) c); waiting = row.waiting }

  arriving-called : (k : ℕ) (c : Call) (row : Row) → theirs_arriving (crossing_at onward k row) c ≡ true
      → AsOthers (crossing_at onward k row) (crossing_at onward k (called k c row))
  arriving-called k c row e =
      one-call (crossing_at onward k row) (on_arriving c) (crossing_at onward k (called k c row))
      (ap (λ b. cond b (crossing_with (crossing_at onward k row) (step reference (row.link k) c) (row.link (suc k)) (row.waiting k)) (crossing_at onward k row)) e
      ∙ same-crossing (onward k) (sym (instead-same row.link k (step reference (row.link k) c)))
      (sym (instead-other row.link k (step reference (row.link k) c) (suc k) (λ z. omega arith))) refl)

  leaving-called : (k : ℕ) (c : Call) (row : Row) → theirs_leaving (crossing_at onward k row) c ≡ true
      → AsOthers (crossing_at onward k row) (crossing_at onward k (called (suc k) c row))
  leaving-called k c row e =
      one-call (crossing_at onward k row) (on_leaving c) (crossing_at onward k (called (suc k) c row))
      (ap (λ b. cond b (crossing_with (crossing_at onward k row) (row.link k) (step reference (row.link (suc k)) c) (row.waiting k)) (crossing_at onward k row)) e
      ∙ same-crossing (onward k) (sym (instead-other row.link (suc k) (step reference (row.link (suc k)) c) k (λ z. omega arith)))
      (sym (instead-same row.link (suc k) (step reference (row.link (suc k)) c))) refl)

  far-called : (k j : ℕ) (c : Call) (row : Row) → (j ≡ k → ⊥) → (j ≡ suc k → ⊥)
      → AsOthers (crossing_at onward k row) (crossing_at onward k (called j c row))
  far-called k j c row not_in not-out =
      as_same (same-crossing (onward k) (sym (instead-other row.link j (step reference (row.link j) c) k (λ z. not_in (sym z))))
      (sym (instead-other row.link j (step reference (row.link j) c) (suc k) (λ z. not-out (sym z)))) refl)

  theirs-arriving : (k : ℕ) (c : Call) (row : Row) → theirs onward k row c ≡ true → theirs_arriving (crossing_at onward k row) c ≡ true
  theirs-arriving zero c row e = e
  theirs-arriving (suc k) c row e = (and-true (theirs_leaving (crossing_at onward k row) c) (theirs_arriving (crossing_at onward (suc k) row) c) e).1

  call-as-others : (k j : ℕ) (c : Call) (row : Row) → AsOthers (crossing_at onward k row) (crossing_at onward k (with_call onward j c row))
  call-as-others k j c row = go (theirs onward j row c) refl (ℕ_discrete j k) (ℕ_discrete j (suc k))
    where
      Goal : ℕ → Type 0
      Goal j = theirs onward j row c ≡ true → AsOthers (crossing_at onward k row) (crossing_at onward k (called j c row))

      here : Goal k
      here e = arriving-called k c row (theirs-arriving k c row e)

      next : Goal (suc k)
      next e = leaving-called k c row (and-true (theirs_leaving (crossing_at onward k row) c) (theirs_arriving (crossing_at onward (suc k) row) c) e).0

      go : (b : Bool) → theirs onward j row c ≡ b → Dec (j ≡ k) → Dec (j ≡ suc k)
          → AsOthers (crossing_at onward k row) (crossing_at onward k (cond b (called j c row) row))
      go false e d d' = as_same refl
      go true e (yes same) d' = subst Goal (sym same) here e
      go true e (no d) (yes same) = subst Goal (sym same) next e
      go true e (no d) (no d') = far-called k j c row d d'

  -- ---- another crossing's part

  before-part : (owner : TickAnswer) (k : ℕ) (row : Row) → AsOthers (crossing_at onward (suc k) row) (crossing_at onward (suc k) (with_part onward owner k row))
  before-part owner k row =
      let x = served owner (crossing_at onward k row) in
      let calls = part-before owner (crossing_at onward k row) (crossing_at onward (suc k) row) refl in
      let first = instead row.link k x.arriving in
      record {
        calls = calls.calls;
        come_to = calls.come_to ∙ same-crossing (onward (suc k)) (sym (instead-same first (suc k) x.leaving))
            (sym (instead-other first (suc k) x.leaving (suc (suc k)) (λ z. omega arith)
            ∙ instead-other row.link k x.arriving (suc (suc k)) (λ z. omega arith)))
            (sym (instead-other row.waiting k x.waiting (suc k) (λ z. omega arith)));
      }

  after-part : (owner : TickAnswer) (k : ℕ) (row : Row) → AsOthers (crossing_at onward k row) (crossing_at onward k (with_part onward owner (suc k) row))
  after-part owner k row =
      let x = served owner (crossing_at onward (suc k) row) in
      let calls = part-after owner (crossing_at onward (suc k) row) (crossing_at onward k row) refl in
      let first = instead row.link (suc k) x.arriving in
      record {
        calls = calls.calls;
        come_to = calls.come_to ∙ same-crossing (onward k)
            (sym (instead-other first (suc (suc k)) x.leaving k (λ z. omega arith) ∙ instead-other row.link (suc k) x.arriving k (λ z. omega arith)))
            (sym (instead-other first (suc (suc k)) x.leaving (suc k) (λ z. omega arith) ∙ instead-same row.link (suc k) x.arriving))
            (sym (instead-other row.waiting (suc k) x.waiting k (λ z. omega arith)));
      }

  far-part : (owner : TickAnswer) (k j : ℕ) (row : Row) → (j ≡ k → ⊥) → (suc j ≡ k → ⊥) → (j ≡ suc k → ⊥)
      → AsOthers (crossing_at onward k row) (crossing_at onward k (with_part onward owner j row))
  far-part owner k j row not-here not_before not_after =
      let x = served owner (crossing_at onward j row) in
      let first = instead row.link j x.arriving in
      as_same (same-crossing (onward k)
      (sym (instead-other first (suc j) x.leaving k (λ z. not_before (sym z)) ∙ instead-other row.link j x.arriving k (λ z. not-here (sym z))))
      (sym (instead-other first (suc j) x.leaving (suc k) (λ z. not-here (omega (arith, z)))
      ∙ instead-other row.link j x.arriving (suc k) (λ z. not_after (sym z))))
      (sym (instead-other row.waiting j x.waiting k (λ z. not-here (sym z)))))

  part-as-others : (turns : ℕ → TickAnswer) (k j : ℕ) (row : Row) → (j ≡ k → ⊥)
      → AsOthers (crossing_at onward k row) (crossing_at onward k (with_part onward (turns j) j row))
  part-as-others turns k j row other = go (ℕ_discrete (suc j) k) (ℕ_discrete j (suc k))
    where
      go : Dec (suc j ≡ k) → Dec (j ≡ suc k) → AsOthers (crossing_at onward k row) (crossing_at onward k (with_part onward (turns j) j row))
      go (yes same) d =
          subst (λ k. AsOthers (crossing_at onward k row) (crossing_at onward k (with_part onward (turns j) j row))) same (before-part (turns j) j row)
      go (no d) (yes same) =
          subst (λ j. AsOthers (crossing_at onward k row) (crossing_at onward k (with_part onward (turns j) j row))) (sym same) (after-part (turns (suc k)) k row)
      go (no d) (no d') = far-part (turns j) k j row other d d'

  -- ---- several

  act-as-others : (turns : ℕ → TickAnswer) (k : ℕ) (a : Act) (row : Row) → NotPart k a
      → AsOthers (crossing_at onward k row) (crossing_at onward k (act onward turns a row))
  act-as-others turns k (part j) row other = part-as-others turns k j row other
  act-as-others turns k (call j c) row other = call-as-others k j c row

  acts-as-others : (turns : ℕ → TickAnswer) (k : ℕ) (list : List Act) (row : Row) → NoPart k list
      → AsOthers (crossing_at onward k row) (crossing_at onward k (acts onward turns list row))
  acts-as-others turns k [] row other = as_same refl
  acts-as-others turns k (a ∷ list) row other =
      as-then (act-as-others turns k a row other.0) (acts-as-others turns k list (act onward turns a row) other.1)

  acts-then : (turns : ℕ → TickAnswer) (list more : List Act) (row : Row) → acts onward turns (list ++ more) row ≡ acts onward turns more (acts onward turns list row)
  acts-then turns [] more row = refl
  acts-then turns (a ∷ list) more row = acts-then turns list more (act onward turns a row)

  -- ---- its own part

  own-part : (owner : TickAnswer) (k : ℕ) (row : Row) → served owner (crossing_at onward k row) ≡ crossing_at onward k (with_part onward owner k row)
  own-part owner k row =
      let x = served owner (crossing_at onward k row) in
      let first = instead row.link k x.arriving in
      let table = served-keeps {Keeps = λ z. z.onward ≡ onward k} (λ j z e. e) (λ i p z e. e) (λ i n z e. e) owner (crossing_at onward k row) refl in
      let there : x ≡ record { arriving = x.arriving; leaving = x.leaving; onward = onward k; waiting = x.waiting } =
      λ m. record { arriving = x.arriving; leaving = x.leaving; onward = table m; waiting = x.waiting } in
      there ∙ same-crossing (onward k)
      (sym (instead-other first (suc k) x.leaving k (λ z. omega arith) ∙ instead-same row.link k x.arriving))
      (sym (instead-same first (suc k) x.leaving)) (sym (instead-same row.waiting k x.waiting))

  -- ---- a slot, and slots

  slot-as : (k : ℕ) (list : List Act) (row : Row) → OnePart k list → {P Q : Plan} → PlayedAs P Q (onward k) (crossing_at onward k row)
      → PlayedAs P Q (onward k) (crossing_at onward k (row_slot onward list row))
  slot-as k list row one {P} {Q} played =
      let turns : ℕ → TickAnswer = λ n. (reference.tick (row.link n).state).1 in
      let early = acts-as-others turns k one.before (all_tick onward row) one.none_before in
      let row₁ = acts onward turns one.before (all_tick onward row) in
      let row₂ = with_part onward (turns k) k row₁ in
      let late = acts-as-others turns k one.after row₂ one.none_after in
      let split = ap (λ list. acts onward turns list (all_tick onward row)) one.is
      ∙ acts-then turns one.before (part k ∷ one.after) (all_tick onward row) in
      let served-there = ap (served (turns k)) early.come_to ∙ own-part (turns k) k row₁ in
      let is = ap (others late.calls) served-there ∙ late.come_to ∙ sym (ap (crossing_at onward k) split) in
      subst (PlayedAs P Q (onward k)) is (slot-more played (record { before = early.calls; after = late.calls }))

  slots-as : (k : ℕ) (slots : List (List Act)) (row : Row) → InEachSlot k slots → {P Q : Plan} → PlayedAs P Q (onward k) (crossing_at onward k row)
      → PlayedAs P Q (onward k) (crossing_at onward k (row_slots onward slots row))
  slots-as k [] row each played = played
  slots-as k (list ∷ slots) row each played = slots-as k slots (row_slot onward list row) each.1 (slot-as k list row each.0 played)

  row_as : (plans : ℕ → Plan) (begin : List Act) (slots : List (List Act)) (k : ℕ) → NoPart k begin → InEachSlot k slots
      → PlayedAs (plans k) (plans (suc k)) (onward k) (crossing_at onward k (row_played onward plans begin slots))
  unfolding others in_slots
  row_as plans begin slots k None-first each =
      let first = acts-as-others (λ n. none) k begin _ None-first in
      slots-as k slots _ each (record { begin = first.calls; slots = []; is = first.come_to })

-- ---- a stream's links

two-crossed : (onward : ℕ → List (Option ℕ)) (plans : ℕ → Plan) (begin : List Act) (slots : List (List Act)) (k : ℕ) (a b : Board reference)
    → OnRow onward plans begin slots k a → OnRow onward plans begin slots (suc k) b → CrossedThere onward plans begin slots k a b → Crossed served a b
two-crossed onward plans begin slots k a b on₁ on₂ x = record {
  onward = onward k;
  goes_on = x.goes_on;
  stream_goes_on = x.stream_goes_on;
  begin = there.begin;
  slots = there.slots;
  arriving_is = ap (λ (y : Crossing). y.arriving.history) there.is ∙ on₁.events_are;
  leaving_is = ap (λ (y : Crossing). y.leaving.history) there.is ∙ on₂.events_are;
  not_lent = x.not_lent;
}
  where
    at-end : Crossing
    at-end = crossing_at onward k (row_played onward plans begin slots)

    there : PlayedAs (plan_on a) (plan_on b) (onward k) at-end
    there =
        subst (λ P. PlayedAs P (plan_on b) (onward k) at-end) on₁.plan_is
        (subst (λ Q. PlayedAs (plans k) Q (onward k) at-end) on₂.plan_is (row_as onward plans begin slots k x.not_at_first x.in_each_slot))

on-first : {onward : ℕ → List (Option ℕ)} {plans : ℕ → Plan} {begin : List Act} {slots : List (List Act)} (k : ℕ) (a : Board reference) (rest : List (Board reference))
    → AlongRow onward plans begin slots k a rest → OnRow onward plans begin slots k a
on-first k a [] x = x
on-first k a (b ∷ rest) x = x.0

pub rows-cross : RowsCross
rows-cross onward plans begin slots k a [] x = tt
rows-cross onward plans begin slots k a (b ∷ rest) x =
    let on-next = on-first (suc k) b rest x.1.1 in
    (two-crossed onward plans begin slots k a b x.0 on-next x.1.0, rows-cross onward plans begin slots (suc k) b rest x.1.1)
