-- Numbers past the flows, slots or frames of all marks: what is counted there is settled. Assumes nothing.
use Prim.Native.Nat.{ℕ, suc, ◌≤◌, ◌<◌, max}
use mathlib.Core.Path.{◌≡◌, refl, sym, ◌∙◌}
use mathlib.Core.List.{List, ◌∷◌, []}
use mathlib.Core.Bool.{Bool, false, and-true}
use native.Mathlib.Omega.{arith}
use borrow.Author.Tests.{le-leb}
use Rattle.model.specs.Tables.{tally}
use Rattle.model.specs.Plan.{Plan}
use Rattle.model.specs.Calls.{History}
use Rattle.model.specs.History.{Mark, grants, lends, credits, of_flow, up_to, granted_up_to, lent_up_to, credited_up_to}

-- a number above the key of every mark
unfoldable pub above : (Mark → ℕ) → List Mark → ℕ
above key [] = 0
above key (m ∷ ms) = max (suc (key m)) (above key ms)

-- Tests that agree on the keys below k agree in number, where k is past the marks.
same-past : (key : Mark → ℕ) (p q : Mark → Bool) (k : ℕ) (ms : List Mark) → above key ms ≤ k → ((m : Mark) → key m < k → p m ≡ q m)
    → tally p ms ≡ tally q ms
unfolding above tally
same-past key p q k [] le agree = refl
same-past key p q k (m ∷ ms) le agree = cc (agree m (omega arith), same-past key p q k ms (omega arith) agree)

pub none-past : (key : Mark → ℕ) (p : Mark → Bool) (k : ℕ) (ms : List Mark) → above key ms ≤ k → ((m : Mark) → key m < k → p m ≡ false)
    → tally p ms ≡ 0
unfolding above tally
none-past key p k [] le none_below = refl
none-past key p k (m ∷ ms) le none_below = cc (none_below m (omega arith), none-past key p k ms (omega arith) none_below)

-- past the marks, those up to s are all
up-to-past : (i s : ℕ) (ms : List Mark) → above (λ m. m.slot) ms ≤ s → tally (up_to i s) ms ≡ tally (of_flow i) ms
up-to-past i s ms le =
    same-past (λ m. m.slot) (up_to i s) (of_flow i) s ms le (λ m lt. rw (le-leb m.slot s (omega arith)) (and-true (of_flow i m)))

-- a slot past all grants and lends, and one past all taken credits too
unfoldable pub owned_end : Plan → History → ℕ
owned_end P h = max (above (λ m. m.slot) (grants P h)) (above (λ m. m.slot) (lends h))

unfoldable pub end : Plan → History → ℕ
unfolding owned_end
end P h = max (owned_end P h) (above (λ m. m.slot) (credits P h))

module _ (P : Plan) (h : History) (i : ℕ) (s u : ℕ) (s-past : end P h ≤ s) (u-past : end P h ≤ u) where
  pub same-granted : granted_up_to P h i s ≡ granted_up_to P h i u
  unfolding owned_end end
  same-granted = up-to-past i s (grants P h) (omega arith) ∙ sym (up-to-past i u (grants P h) (omega arith))

  pub same-lent : lent_up_to h i s ≡ lent_up_to h i u
  unfolding owned_end end
  same-lent = up-to-past i s (lends h) (omega arith) ∙ sym (up-to-past i u (lends h) (omega arith))

  pub same-credited : credited_up_to P h i s ≡ credited_up_to P h i u
  unfolding owned_end end
  same-credited = up-to-past i s (credits P h) (omega arith) ∙ sym (up-to-past i u (credits P h) (omega arith))
