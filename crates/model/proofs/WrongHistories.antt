-- Each history of the table breaks its clause of demand 3, and keeps all the others: by computation. Assumes nothing.
use Prim.Native.Nat.{ℕ, ◌<◌}
use mathlib.Core.Path.{◌≡◌, refl, sym, ap, ◌∙◌, subst}
use mathlib.Core.Logic.Dec
use mathlib.Core.List.{List, ◌∷◌, [], reverse}
use native.Mathlib.Decide.{ℕ_discrete}
use native.Mathlib.Omega.{arith}
use lib.Dec.{lit<}
use lib.ListN.{length, get_or}
use Rattle.model.specs.Plan.{Plan, plan_of}
use Rattle.model.specs.Calls.{History}
use Rattle.model.specs.Claim.{Clause}
use Rattle.model.specs.WrongHistories.{BreaksAlone, WrongHistory, AllBreak, wrong_histories, overfull, Overfills, JustFits, lent_over, OverfillsByLend}
use Rattle.model.specs.WrongHistories.{JustFitsWithLend, FitsWithCredit}
use Rattle.model.proofs.Unfoldings.{plans-compute, counts-compute}
use Rattle.model.proofs.Decidable.{proved, same, implies, all-below}
use Rattle.model.proofs.ClaimDecided.{decided}

-- ---- all clauses

abbrev clauses : List Clause
clauses =
    Clause.most ∷ Clause.most-in-a-frame ∷ Clause.least ∷ Clause.within_cells ∷ Clause.one_owner ∷ Clause.within-a-window ∷ Clause.comes_up
    ∷ Clause.granted-words ∷ Clause.after_departure ∷ Clause.lent-flows ∷ []

abbrev clause_at : ℕ → Clause
clause_at k = get_or clauses k Clause.most

-- the place of a clause in the list
record Place (clause : Clause) : Type 0 where
  number : ℕ
  below : number < length clauses
  is : clause_at number ≡ clause

place : (clause : Clause) → Place clause
place Clause.most = record { number = 0; below = lit< tt; is = refl }
place Clause.most-in-a-frame = record { number = 1; below = lit< tt; is = refl }
place Clause.least = record { number = 2; below = lit< tt; is = refl }
place Clause.within_cells = record { number = 3; below = lit< tt; is = refl }
place Clause.one_owner = record { number = 4; below = lit< tt; is = refl }
place Clause.within-a-window = record { number = 5; below = lit< tt; is = refl }
place Clause.comes_up = record { number = 6; below = lit< tt; is = refl }
place Clause.granted-words = record { number = 7; below = lit< tt; is = refl }
place Clause.after_departure = record { number = 8; below = lit< tt; is = refl }
place Clause.lent-flows = record { number = 9; below = lit< tt; is = refl }

same-clause : (a b : Clause) → Dec (a ≡ b)
same-clause a b =
    same (λ e. sym (place a).is ∙ ap clause_at e ∙ (place b).is) (ap (λ c. (place c).number)) (ℕ_discrete (place a).number (place b).number)

all-clauses : {Q : Clause → Type 0} → ((clause : Clause) → Dec (Q clause)) → Dec ((clause : Clause) → Q clause)
all-clauses {Q} d =
    same (λ r clause. subst Q (place clause).is (r (place clause).number (place clause).below)) (λ all k lt. all (clause_at k))
    (all-below (length clauses) (λ k. d (clause_at k)))

broken-alone : (clause : Clause) (P : Plan) (i : ℕ) (h : History) → Dec (BreaksAlone clause P i h)
unfolding Dec.not decided place same-clause all-clauses
broken-alone clause P i h =
    same (λ r. record { breaks = r.0; keeps_the_others = r.1 }) (λ b. (b.breaks, b.keeps_the_others))
    (Dec.and (Dec.not (decided clause P i h)) (all-clauses (λ other. implies (Dec.not (same-clause other clause)) (decided other P i h))))

-- ---- the table

all-break : (bs : List WrongHistory) → Dec (AllBreak bs)
all-break [] = yes tt
all-break (b ∷ bs) = Dec.and (broken-alone b.clause (plan_of b.bytes) 0 (reverse b.events)) (all-break bs)

pub wrong-histories-break : AllBreak wrong_histories
unfolding all-break broken-alone wrong_histories counts-compute
wrong-histories-break = proved (all-break wrong_histories) tt

-- ---- the next board's buffer

pub overfills : Overfills
unfolding overfull counts-compute plans-compute
overfills fits = omega (arith, fits)

pub just-fits : JustFits
unfolding overfull counts-compute plans-compute
just-fits = omega arith

pub overfills-by-lend : OverfillsByLend
unfolding lent_over counts-compute plans-compute
overfills-by-lend fits = omega (arith, fits)

pub just-fits-with-lend : JustFitsWithLend
unfolding lent_over counts-compute plans-compute
just-fits-with-lend = omega arith

pub fits-with-credit : FitsWithCredit
unfolding lent_over counts-compute plans-compute
fits-with-credit = omega arith
