-- Lists of calls whose lends go in turn, by the flow that the next one looks from. Assumes nothing.
use Prim.Native.Nat.{ℕ, ◌+◌, ◌%◌, ◌≤◌, ◌<◌}
use mathlib.Core.Path.{◌≡◌, refl, sym, ap, subst}
use mathlib.Core.List.{List, ◌∷◌, [], ◌++◌}
use mathlib.Core.Bool.{Bool, true, false}
use native.Mathlib.Omega.{arith}
use Rattle.model.specs.Tables.{bit, tally}
use Rattle.model.specs.Plan.{Plan, flow_count}
use Rattle.model.specs.Calls.{Event, History, requested, credited, ticked, lent, accepted, refused}
use Rattle.model.specs.History.{Mark, ticks, is_granted_reset, marks_of, lends}
use Rattle.model.specs.Fairness.{Waits, WaitsAt, Waiting}
use Rattle.model.proofs.Marks.{mark}
use Rattle.model.proofs.TurnOrder.{place}

-- ---- the flow to look from

-- A lend goes to flow k, where p was the flow to look from: the next one is that after k, and no flow that waits was looked at before k.
pub record LentInTurn (P : Plan) (p q mask k : ℕ) (h : History) : Type 0 where
  pub known : k < flow_count P
  pub next : q ≡ (k + 1) % flow_count P
  pub first : (j : ℕ) → j < flow_count P → Waits P j mask h → place (flow_count P) p k ≤ place (flow_count P) p j

-- what an event does to it: p was the flow to look from, and q is
abbrev pub Moves : Plan → (p q : ℕ) → Event → History → Type 0
Moves P p q (requested w a) h = q ≡ p
Moves P p q (credited i x a) h = q ≡ p
Moves P p q (ticked x) h = q ≡ p
Moves P p q (lent mask (accepted k)) h = LentInTurn P p q mask k h
Moves P p q (lent mask (refused r)) h = q ≡ p
Moves P p q (Event.reset (accepted u)) h = Unit {0}
Moves P p q (Event.reset (refused r)) h = q ≡ p

-- after h it is p
pub data Turned (P : Plan) : History → ℕ → Type 0 where
  begun : Turned P [] 0
  moved : {h : History} {p q : ℕ} {e : Event} → Turned P h p → Moves P p q e h → Turned P (e ∷ h) q

-- ---- what holds of the marks of the lends in a stretch in which flow j waits, and of the flow to look from after it

not-that-one : (b : Bool) (x : ℕ) → bit b + x ≡ 0 → (b ≡ false) × (x ≡ 0)
not-that-one true x e = absurd (omega arith)
not-that-one false x e = (refl, omega arith)

-- It holds if it does before the first event, and each lend to a flow keeps it.
module _ (P : Plan) (j : ℕ) (R : List Mark → ℕ → Type 0) (early : History) (at_first : (p : ℕ) → Turned P early p → R [] p)
    (each-lend : (marks : List Mark) (p q mask k s : ℕ) (h : History) → R marks p → LentInTurn P p q mask k h → Waits P j mask h → R (mark k s ∷ marks) q) where
  one_more : (e : Event) (stretch : History) (p q : ℕ) → R (lends stretch) p → Moves P p q e (stretch ++ early) → WaitsAt P j e (stretch ++ early)
      → is_granted_reset e ≡ false → R (lends (e ∷ stretch)) q
  unfolding lends marks_of
  one_more (requested w a) stretch p q r m waits none = subst (R (lends stretch)) (sym m) r
  one_more (credited i x a) stretch p q r m waits none = subst (R (lends stretch)) (sym m) r
  one_more (ticked x) stretch p q r m waits none = subst (R (lends stretch)) (sym m) r
  one_more (lent mask (accepted k)) stretch p q r m waits none = each-lend (lends stretch) p q mask k (ticks stretch) (stretch ++ early) r m waits
  one_more (lent mask (refused x)) stretch p q r m waits none = subst (R (lends stretch)) (sym m) r
  one_more (Event.reset (accepted u)) stretch p q r m waits none = absurd (let z : ◌≡◌ {A = ℕ} 1 0 = ap bit none in omega arith)
  one_more (Event.reset (refused x)) stretch p q r m waits none = subst (R (lends stretch)) (sym m) r

  pub over-the-stretch : (stretch : History) (p : ℕ) → Turned P (stretch ++ early) p → Waiting P j stretch early → R (lends stretch) p
  unfolding lends marks_of tally
  over-the-stretch [] p t w = at_first p t
  over-the-stretch (e ∷ stretch) q (Turned.moved {p = p} t m) w =
      let none = not-that-one (is_granted_reset e) (tally is_granted_reset stretch) w.no_reset in
      one_more e stretch p q (over-the-stretch stretch p t (record { no_reset = none.1; waits = w.waits.1 })) m w.waits.0 none.0
