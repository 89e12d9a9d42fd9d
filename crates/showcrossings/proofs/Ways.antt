-- A stream with a modest source on its way of crossings: its requests and credits are those that the theorems on arrival ask for. By slots: while that is
-- so up to one, no tile waits, so that the next is asked for as it comes. Assumes nothing.
use Prim.Native.Nat.{ℕ, zero, suc, ◌+◌, ◌*◌, ◌≤◌}
use mathlib.Core.Path.{sym, ◌∙◌, subst}
use mathlib.Core.List.{List, ◌∷◌, []}
use native.Mathlib.Omega.{arith}
use Rattle.model.specs.Plan.{entry}
use Rattle.model.specs.Claim.{Each}
use Rattle.model.specs.Scheduler.{reference}
use Rattle.arrival.specs.Delay.{AsksAt}
use Rattle.arrival.specs.SeveralLinks.{sent_slots, Board, plan_on, sent_on}
use Rattle.arrival.specs.SharesOfCells.{GivenBack}
use Rattle.arrival.specs.CreditedByNext.{ModestFirst}
use Rattle.delay.specs.Promised.{last_board}
use Rattle.crossings.specs.Crossing.{served}
use Rattle.showcrossings.specs.Ways.{CrossedAlong, GivesBack, PlansFit, PassedAlong, PassesAlong}
use Rattle.showcrossings.proofs.Growing.{each-before, cut, cut-before, cut-next}
use Rattle.showcrossings.proofs.InOrder.{Descends}
use Rattle.showcrossings.proofs.Slots.{starts-passing}
use Rattle.showcrossings.proofs.TwoLinks.{PassingIn, state, done, arriving-at, leaving-at, allowed_at, passing-next, back-next, order-next}
use Rattle.showcrossings.proofs.TwoLinks.{order-first, whole₁}
use Rattle.showcrossings.proofs.TwoLinks.{whole₂, waits-none, joins, asks-all}

-- ---- from link to link

-- how late cells are given back on a link: `late` frames on the last, and none before it
abbrev late_on : ℕ → List (Board reference) → ℕ
late_on late [] = late
late_on late (b ∷ rest) = 0

cells-on : (late : ℕ) (a : Board reference) (rest : List (Board reference)) → PlansFit late a rest
    → (late_on late rest + 2) * (entry (plan_on a) a.stream).share ≤ (entry (plan_on a) a.stream).cells
cells-on late a [] fits = fits
cells-on late a (b ∷ rest) fits = omega (arith, fits.0.two_shares)

-- after slot n, at the first crossing, and at each
abbrev PassingAt : (n late : ℕ) (a b : Board reference) (rest : List (Board reference)) → PlansFit late a (b ∷ rest) → CrossedAlong served a (b ∷ rest) → Type 0
PassingAt n late a b rest fits way =
    let L = late_on late rest in
    let enough = cells-on late b rest fits.1 in
    PassingIn a b fits.0 way.0 L enough (state a b fits.0 way.0 L enough n)

abbrev PassedBy : (n late : ℕ) (a : Board reference) (rest : List (Board reference)) → PlansFit late a rest → CrossedAlong served a rest → Type 0
PassedBy n late a [] fits way = Unit {0}
PassedBy n late a (b ∷ rest) fits way = PassingAt n late a b rest fits way × PassedBy n late b rest fits.1 way.1

-- cells are given back up to slot n
abbrev BackBy : (n late : ℕ) (a : Board reference) (rest : List (Board reference)) → Type 0
BackBy n late a rest = Each (AsksAt (λ P i w h. GivenBack (late_on late rest) P i h) (plan_on a) a.stream) (cut n a.events)

back-before : (n late : ℕ) (a : Board reference) (rest : List (Board reference)) → BackBy (suc n) late a rest → BackBy n late a rest
back-before n late a rest = each-before (AsksAt (λ P i w h. GivenBack (late_on late rest) P i h) (plan_on a) a.stream) (cut-next n a.events)

-- on each link, one slot longer than tiles were passed on
back_by : (n late : ℕ) (a : Board reference) (rest : List (Board reference)) (fits : PlansFit late a rest) (way : CrossedAlong served a rest)
    → GivesBack late (last_board a rest) → PassedBy n late a rest fits way
    → BackBy (suc n) late a rest
back_by n late a [] fits way ends passed =
    each-before (AsksAt (λ P i w h. GivenBack late P i h) (plan_on a) a.stream) (cut-before (suc n) a.events) ends
back_by n late a (b ∷ rest) fits way ends passed =
    let L = late_on late rest in
    let enough = cells-on late b rest fits.1 in
    back-next a b fits.0 way.0 L enough n passed.0
    (allowed_at a b fits.0 way.0 L enough n (back-before n late b rest (back_by n late b rest fits.1 way.1 ends passed.1)))

-- a slot more
step_by : (n late : ℕ) (a : Board reference) (rest : List (Board reference)) (fits : PlansFit late a rest) (way : CrossedAlong served a rest)
    → GivesBack late (last_board a rest) → Descends (sent_slots (plan_on a) (cut n a.events) a.stream) → PassedBy n late a rest fits way
    → PassedBy (suc n) late a rest fits way
step_by n late a [] fits way ends down passed = tt
step_by n late a (b ∷ rest) fits way ends down passed =
    let L = late_on late rest in
    let enough = cells-on late b rest fits.1 in
    let back = back_by n late b rest fits.1 way.1 ends passed.1 in
    let order = order-next a b fits.0 way.0 L enough n passed.0 (allowed_at a b fits.0 way.0 L enough n (back-before n late b rest back)) in
    (passing-next a b fits.0 way.0 L enough n passed.0 down back, step_by n late b rest fits.1 way.1 ends order passed.1)

starts_by : (late : ℕ) (a : Board reference) (rest : List (Board reference)) (fits : PlansFit late a rest) (way : CrossedAlong served a rest)
    → PassedBy 0 late a rest fits way
starts_by late a [] fits way = tt
starts_by late a (b ∷ rest) fits way = (
  starts-passing a b fits.0.in_step fits.0.share_kept (late_on late rest) (cells-on late b rest fits.1) way.0.goes_on
      way.0.stream_goes_on way.0.begin,
  starts_by late b rest fits.1 way.1,
)

module _ (late : ℕ) (a b : Board reference) (rest : List (Board reference)) (fits : PlansFit late a (b ∷ rest)) (way : CrossedAlong served a (b ∷ rest))
    (ends : GivesBack late (last_board b rest)) (modest : ModestFirst (plan_on a) a.stream a.events) where
  -- on the first link
  first-order : (n : ℕ) → PassedBy n late a (b ∷ rest) fits way → Descends (sent_slots (plan_on a) (cut n a.events) a.stream)
  first-order n passed =
      let L = late_on late rest in
      let enough = cells-on late b rest fits.1 in
      let next = back-before n late b rest (back_by n late b rest fits.1 way.1 ends passed.1) in
      order-first a b fits.0 way.0 L enough n passed.0 (allowed_at a b fits.0 way.0 L enough n next) 0 (cells-on late a (b ∷ rest) fits) modest
      (back-before n late a (b ∷ rest) (back_by n late a (b ∷ rest) fits way ends passed))

  -- slot after slot
  all-by : (n : ℕ) → PassedBy n late a (b ∷ rest) fits way
  all-by zero = starts_by late a (b ∷ rest) fits way
  all-by (suc n) = let passed = all-by n in step_by n late a (b ∷ rest) fits way ends (first-order n passed) passed

  whole-order : Descends (sent_on a)
  whole-order =
      let L = late_on late rest in
      let enough = cells-on late b rest fits.1 in
      let n = done a b fits.0 way.0 L enough in
      subst (λ h. Descends (sent_slots (plan_on a) h a.stream)) (sym (arriving-at a b fits.0 way.0 L enough n) ∙ whole₁ a b fits.0 way.0 L enough)
      (first-order n (all-by n))

-- so of the whole, from link to link
along : (late : ℕ) (a : Board reference) (rest : List (Board reference)) (fits : PlansFit late a rest) (way : CrossedAlong served a rest)
    → GivesBack late (last_board a rest) → ((n : ℕ) → PassedBy n late a rest fits way) → Descends (sent_on a) → PassedAlong served late a rest way
along late a [] fits way ends all down = record { none_waits = tt; by_credits = record { given_back = ends; enough_cells = fits }; all_asked = tt }
along late a (b ∷ rest) fits way ends all down =
    let L = late_on late rest in
    let enough = cells-on late b rest fits.1 in
    let n = done a b fits.0 way.0 L enough in
    let passed = all n in
    let back = back-before n late b rest (back_by n late b rest fits.1 way.1 ends passed.1) in
    let order = order-next a b fits.0 way.0 L enough n passed.0 (allowed_at a b fits.0 way.0 L enough n back) in
    let whole = sym (leaving-at a b fits.0 way.0 L enough n) ∙ whole₂ a b fits.0 way.0 L enough in
    let down-next = subst (λ h. Descends (sent_slots (plan_on b) h b.stream)) whole order in
    let next = along late b rest fits.1 way.1 ends (λ n. (all n).1) down-next in
    record {
      none_waits = (waits-none a b fits.0 way.0 L enough passed.0, next.none_waits);
      by_credits = (joins a b fits.0 way.0 L enough passed.0, next.by_credits);
      all_asked = (asks-all a b fits.0 way.0 L enough passed.0 down, next.all_asked);
    }

-- RULES 27.12: our board keeps it.
pub passes-along : PassesAlong served
passes-along late a [] fits modest ends way = record { none_waits = tt; by_credits = record { given_back = ends; enough_cells = fits }; all_asked = tt }
passes-along late a (b ∷ rest) fits modest ends way =
    along late a (b ∷ rest) fits way ends (all-by late a b rest fits way ends modest) (whole-order late a b rest fits way ends modest)
