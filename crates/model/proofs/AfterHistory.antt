-- What is known of a link that stands after a history, and of one event more. Assumes nothing.
use Prim.Native.Nat.{ℕ, ◌+◌, ◌-◌, ◌≤◌, ◌<◌}
use mathlib.Core.Path.{◌≡◌, subst}
use mathlib.Core.List.{◌∷◌}
use native.Mathlib.Omega.{arith}
use Rattle.model.specs.Plan.{Plan, flow_count}
use Rattle.model.specs.Calls.{Event, History}
use Rattle.model.specs.Link.{Link, Flow, flow}
use Rattle.model.specs.Word.{flow_of, quantum_of}
use Rattle.model.specs.History.{ticks, frame_of, origin, credits, grants_since, refused_in, up_to, granted_up_to, lent_up_to, credited_up_to}
use Rattle.model.specs.History.{expected_number}
use Rattle.model.specs.Claim.{Each, EachSince, AtGrant, ReadyAt, HeldAt, SoonAt, ComesUpAt, GrantedWordAt, AfterDepartureAt, LentFlowAt}
use Rattle.model.proofs.Invariant.{Ledger, HoldsAt, Invariant}
use Rattle.model.proofs.LeastCount.{Least}
use Rattle.model.proofs.HistoryCounts.{raises, raises-are}

-- the ledger of a history
abbrev pub ledger_of : Plan → History → Ledger
ledger_of P h = record { now = ticks h; origin = origin P h; grants = grants_since P h; raises = raises P h; credits = credits P h }

-- a granted word carries the number that was expected
abbrev pub NumberedAt : Plan → Event → History → Type 0
NumberedAt P = AtGrant (λ w v h. quantum_of v ≡ expected_number P h (flow_of w))

-- flow i expects its grants so far, where the link has x for it
abbrev pub NumberOf : Plan → History → ℕ → Flow → Type 0
NumberOf P h i x = x.number ≡ expected_number P h i

-- what the claim says of an event, and which number a granted word carries
pub record Claimed (P : Plan) (e : Event) (h : History) : Type 0 where
  pub held : (i : ℕ) → i < flow_count P → HeldAt P i e h
  pub soon : SoonAt P e h
  pub comes_up : ComesUpAt P e h
  pub word : GrantedWordAt P e h
  pub after_departure : AfterDepartureAt P e h
  pub loan : LentFlowAt P e h
  pub numbered : NumberedAt P e h

-- Flow i asked until it was refused, in each frame before the current one, since the last granted reset.
pub record AskedOn (P : Plan) (h : History) (i : ℕ) : Type 0 where
  pub ready : EachSince (ReadyAt P i) h
  pub refused_before : (f : ℕ) → origin P h ≤ f → f < frame_of P (ticks h) → 0 < refused_in P h i f

-- what the least count needs of flow i, where the link has x for it
abbrev pub LeastOf : Plan → History → ℕ → Flow → Type 0
LeastOf P h i x = AskedOn P h i → Least P (frame_of P (ticks h)) (origin P h) (grants_since P h) (refused_in P h i) i x.injection

-- Link l stands after history h.
pub record After (P : Plan) (l : Link) (h : History) : Type 0 where
  pub plan_is : l.plan ≡ P
  pub invariant : Invariant l (ledger_of P h)
  pub events : Each (Claimed P) h
  pub least : (i : ℕ) → i < flow_count P → LeastOf P h i (flow l i)
  pub numbers : (i : ℕ) → i < flow_count P → NumberOf P h i (flow l i)

-- ---- one event more

-- what is to be known for link k to stand after event e
pub record OneMore (P : Plan) (k : Link) (e : Event) (h : History) : Type 0 where
  pub plan_is : k.plan ≡ P
  pub keeps : Invariant k (ledger_of P (e ∷ h))
  pub soon : SoonAt P e h
  pub comes_up : ComesUpAt P e h
  pub word : GrantedWordAt P e h
  pub after_departure : AfterDepartureAt P e h
  pub loan : LentFlowAt P e h
  pub numbered : NumberedAt P e h
  pub least : (i : ℕ) → i < flow_count P → LeastOf P (e ∷ h) i (flow k i)
  pub numbers : (i : ℕ) → i < flow_count P → NumberOf P (e ∷ h) i (flow k i)

-- What the flows hold is in the invariant.
pub after-event : {P : Plan} {l k : Link} {e : Event} {h : History} → After P l h → OneMore P k e h → After P k (e ∷ h)
after-event {P} {l} {k} {e} {h} g more = record {
  plan_is = more.plan_is;
  invariant = more.keeps;
  events = (claimed, g.events);
  least = more.least;
  numbers = more.numbers;
}
  where
    HoldsIn : Plan → ℕ → ℕ → Type 0
    HoldsIn Q i s = HoldsAt Q (ticks (e ∷ h)) (raises P (e ∷ h)) (credits P (e ∷ h)) i (flow k i).held s

    held : (i : ℕ) → i < flow_count P → HeldAt P i e h
    held i known s =
        let x = subst (λ Q. i < flow_count Q → HoldsIn Q i s) more.plan_is (λ q. more.keeps.holds i q s) known in
        record {
          held = granted_up_to P (e ∷ h) i s + lent_up_to (e ∷ h) i s - credited_up_to P (e ∷ h) i s;
          is = omega (arith, x.covered, raises-are P (up_to i s) (e ∷ h));
          within = omega (arith, x.within, raises-are P (up_to i s) (e ∷ h));
        }

    claimed : Claimed P e h
    claimed = record {
      held = held;
      soon = more.soon;
      comes_up = more.comes_up;
      word = more.word;
      after_departure = more.after_departure;
      loan = more.loan;
      numbered = more.numbered;
    }
