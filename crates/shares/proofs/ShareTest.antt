-- The share test on lists is line 6 of a plan's tests. Assumes nothing.
use Prim.Native.Nat.{ℕ, zero, suc, ◌+◌}
use mathlib.Core.Path.{◌≡◌, refl, sym, ap, ◌∙◌}
use mathlib.Core.List.{List, ◌∷◌, [], map}
use mathlib.Core.Bool.{false}
use native.Mathlib.Omega.{arith}
use lib.ListN.{length, get_or, length-map}
use lib.Dec.{ltb}
use borrow.Author.Tests.{le-ltb}
use Rattle.model.specs.Tables.{sum}
use Rattle.model.specs.Refusals.{◌when◌, condition}
use Rattle.model.specs.Plan.{Plan, Entry, no_entry, flow_count, limit_tests, Accepted}
use Rattle.shares.specs.ShareLists.{total, share_test}
use Rattle.shares.specs.Enumerated.{ShareList}
use Rattle.shares.specs.PlanShares.{shares_in}
use Rattle.shares.proofs.FirstShare.{total_first}
use Rattle.shares.proofs.Sums.{sum_first}

total_is : (entries : List Entry) → total (map (λ e. e.share) entries) ≡ sum (length entries) (λ i. (get_or entries i no_entry).share)
unfolding total sum
total_is [] = refl
total_is (e ∷ rest) =
    total_first e.share (map (λ e. e.share) rest) ∙ ap (e.share +◌) (total_is rest)
    ∙ sym (sum_first (length rest) (λ i. (get_or (e ∷ rest) i no_entry).share))

-- of a plan's limits, line 6 is the share test of its shares
pub line-6 : (P : Plan) → get_or (limit_tests P) 3 (0 when false) ≡ share_test P.slots (shares_in P)
line-6 P = ap (λ t. 6 when ltb P.slots t) (sym (total_is P.entries))

share_is : (entries : List Entry) (i : ℕ) → get_or (map (λ e. e.share) entries) i 0 ≡ (get_or entries i no_entry).share
share_is [] i = refl
share_is (e ∷ rest) zero = refl
share_is (e ∷ rest) (suc i) = share_is rest i

-- the shares of an accepted plan are one of the lists that are counted
pub accepted-list : (P : Plan) → Accepted P → ShareList P.slots (flow_count P) (shares_in P)
accepted-list P a = record {
  many = length-map P.entries (λ e. e.share);
  some_slot = λ i l. omega (arith, share_is P.entries i, (a.entries_fit i l).some_share);
  slots_most = λ i l. omega (arith, share_is P.entries i, (a.entries_fit i l).share_most);
}

-- and the share test accepts it
pub accepted-fits : (P : Plan) → Accepted P → condition (share_test P.slots (shares_in P)) ≡ false
accepted-fits P a = le-ltb P.slots (total (shares_in P)) (omega (arith, total_is P.entries, a.shares_fit))
