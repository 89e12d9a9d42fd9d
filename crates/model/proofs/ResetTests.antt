-- The reset by its test, and the parts of the test. Assumes nothing.
use Prim.Native.Nat.{ℕ, zero, suc}
use mathlib.Core.Path.{◌≡◌, refl, sym, ◌∙◌}
use mathlib.Core.Bool.{Bool, true, false, cond}
use native.Mathlib.Omega.{arith}
use lib.Dec.{eqb, ltb}
use borrow.Author.Tests.{le-ltb, ne_eqb}
use Rattle.model.specs.Tables.{every}
use Rattle.model.specs.Refusals.{first_of}
use Rattle.model.specs.Plan.{flow_count}
use Rattle.model.specs.Calls.{ResetAnswer, accepted, refused}
use Rattle.model.specs.Window.{every_from}
use Rattle.model.specs.Link.{Link, Step, window, holding}
use Rattle.model.specs.Reset.{none_booked, none_held, quiet, reset_tests, reset_link, reset_after, reset}
use Rattle.model.proofs.Tests.{and-true}

abbrev pub granted : Link → Step ResetAnswer
granted l = record { link = reset_link l; answer = accepted tt }

abbrev pub not_granted : Link → Step ResetAnswer
not_granted l = record { link = l; answer = refused 23 }

pub reset-is : (l : Link) → reset l ≡ cond (quiet l) (granted l) (not_granted l)
unfolding reset reset_after first_of
reset-is l = go (quiet l) refl
  where
    go : (b : Bool) → quiet l ≡ b → reset_after (first_of (reset_tests l)) l ≡ cond b (granted l) (not_granted l)
    go true e = rw e
    go false e = rw e

-- nothing is booked later than CP, and nothing is held from CP on
pub record Quiet (l : Link) : Type 0 where
  pub none_booked : none_booked l ≡ true
  pub none-held : none_held l ≡ true

pub quiet-parts : (l : Link) → quiet l ≡ true → Quiet l
quiet-parts l e = let both = and-true (none_booked l) (none_held l) e in record { none_booked = both.0; none-held = both.1 }

-- to hold nothing is to hold fewer than one
none-is-below-one : (x : ℕ) → eqb x 0 ≡ ltb x 1
none-is-below-one zero = refl
none-is-below-one (suc x) = ne_eqb (suc x) 0 (λ e. omega arith) ∙ sym (le-ltb (suc x) 1 (omega arith))

pub none-held-is : (l : Link) → none_held l ≡ every (flow_count l.plan) (λ i. every_from (window l) l.current (λ q. ltb (holding l i q) 1))
unfolding none_held
none-held-is l k = every (flow_count l.plan) (λ i. every_from (window l) l.current (λ q. none-is-below-one (holding l i q) k))
