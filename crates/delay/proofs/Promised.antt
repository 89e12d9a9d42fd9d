-- On the reference scheduler a stream can count on the numbers of `bounds`. Assumes nothing.
use Prim.Native.Nat.{ℕ, ◌+◌, ◌*◌, ◌≤◌}
use mathlib.Core.Path.{◌≡◌, refl, ap, ◌∙◌}
use mathlib.Core.List.{List, ◌∷◌, []}
use native.Mathlib.Omega.{arith}
use lib.ListN.{length}
use Rattle.model.specs.History.{ticks}
use Rattle.model.specs.Scheduler.{Scheduler, reference}
use Rattle.arrival.specs.SeveralLinks.{Board, plan_on}
use Rattle.arrival.specs.LinksOnArrival.{WayOnArrival}
use Rattle.arrival.specs.Source.{burst_frames, CameWithin, EachCameWithin, InTimeFromSource}
use Rattle.arrival.specs.CreditedByNext.{WayByCredits}
use Rattle.arrival.specs.AllArrive.{Up, UpAlong, AllUpFromSource}
use Rattle.arrival.proofs.SharesOfCells.{two_shares, three-shares}
use Rattle.arrival.proofs.FromSource.{from-source-on-arrival}
use Rattle.arrival.proofs.CreditedByNext.{from-source-by-credits}
use Rattle.arrival.proofs.AllArrive.{all-from-source-on-arrival, all-from-source-by-credits}
use Rattle.delay.specs.Bounds.{frames_in}
use Rattle.delay.specs.Promised.{last_board, share_on, InBounds, BoundIs, BoundByCredits, UpInBounds, UpIs, UpByCredits, CellsSuffice, ShownSuffice}

-- the last of the boards
last_within : {c : Scheduler} (k : ℕ) (comes : ℕ → ℕ) (a : Board c) (rest : List (Board c)) → EachCameWithin k comes (a ∷ rest)
    → CameWithin (k + length rest) comes (last_board a rest)
last_within k comes a [] within = let same : k + 0 ≡ k = omega arith in rw same within.0
last_within k comes a (b ∷ rest) within =
    let same : k + length (b ∷ rest) ≡ k + 1 + length rest = omega arith in
    rw same (last_within (k + 1) comes b rest within.1)

in_bounds : (a : Board reference) (rest : List (Board reference)) → (plan_on a).slots ≡ (plan_on (last_board a rest)).slots → InTimeFromSource a rest → InBounds a rest
in_bounds a rest same in_time burst comes asks source bursts asked n x lt came =
    let cost = burst_frames (share_on a) burst in
    let last = last_within (cost + 1) comes a rest (in_time burst comes asks source bursts asked) in
    let frames : frames_in (length (a ∷ rest)) (share_on a) burst ≡ cost + 1 + length rest + 1 = omega arith in
    let slots = ap (λ k. k * (plan_on a).slots) frames ∙ ap (λ F. (cost + 1 + length rest + 1) * F) same in
    omega (arith, last.slots_later n x lt came, slots)

-- all boards have the same F
same-on-arrival : (a : Board reference) (rest : List (Board reference)) → WayOnArrival a rest → (plan_on a).slots ≡ (plan_on (last_board a rest)).slots
same-on-arrival a [] way = refl
same-on-arrival a (b ∷ rest) way = way.0.in_step.slots ∙ same-on-arrival b rest way.1

same-by-credits : (late : ℕ) (a : Board reference) (rest : List (Board reference)) → WayByCredits late a rest → (plan_on a).slots ≡ (plan_on (last_board a rest)).slots
same-by-credits late a [] way = refl
same-by-credits late a (b ∷ rest) way = way.0.in_step.slots ∙ same-by-credits late b rest way.1

pub bound-is : BoundIs reference
bound-is late a rest way keeps = in_bounds a rest (same-on-arrival a rest way) (from-source-on-arrival late a rest way keeps)

pub bound-by-credits : BoundByCredits reference
bound-by-credits late a rest way modest = in_bounds a rest (same-by-credits late a rest way) (from-source-by-credits late a rest way modest)

-- ---- every tile has come up

pub last_up : {c : Scheduler} (n x k : ℕ) (a : Board c) (rest : List (Board c)) → UpAlong n x k (a ∷ rest)
    → x + (k + length rest + 1) * (plan_on (last_board a rest)).slots ≤ ticks (last_board a rest).events → Up n (last_board a rest)
last_up n x k a [] up over =
    let none_more : k + 0 ≡ k = omega arith in
    let same = ap (λ j. (j + 1) * (plan_on a).slots) none_more in
    up.0 (omega (arith, same))
last_up n x k a (b ∷ rest) up over =
    let frames : k + length (b ∷ rest) ≡ k + 1 + length rest = omega arith in
    let same = ap (λ j. (j + 1) * (plan_on (last_board b rest)).slots) frames in
    last_up n x (k + 1) b rest up.1 (omega (arith, same))

up-in-bounds : (a : Board reference) (rest : List (Board reference)) → (plan_on a).slots ≡ (plan_on (last_board a rest)).slots → AllUpFromSource a rest → UpInBounds a rest
up-in-bounds a rest same all burst comes asks source bursts so on n x came over =
    let cost = burst_frames (share_on a) burst in
    let frames : frames_in (length (a ∷ rest)) (share_on a) burst ≡ cost + 1 + length rest + 1 = omega arith in
    let slots = ap (λ k. k * (plan_on a).slots) frames ∙ ap (λ F. (cost + 1 + length rest + 1) * F) same in
    last_up n x (cost + 1) a rest (all burst comes asks source bursts so on n x came) (omega (arith, slots, over))

pub up_is : UpIs reference
up_is late a rest way asked keeps = up-in-bounds a rest (same-on-arrival a rest way) (all-from-source-on-arrival late a rest way asked keeps)

pub up-by-credits : UpByCredits reference
up-by-credits late a rest way asked modest = up-in-bounds a rest (same-by-credits late a rest way) (all-from-source-by-credits late a rest way asked modest)

-- ---- the cells

pub cells_are : CellsSuffice reference
cells_are bytes passes calls i known F m burst enough x =
    two_shares bytes passes calls i known
    (record { asks = x.each; enough_cells = omega (arith, enough); not_lent = x.not_lent; no_reset = x.no_reset })

pub shown-are : ShownSuffice reference
shown-are bytes passes calls i known F m burst enough x =
    three-shares bytes passes calls i known
    (record { asks = x.each; enough_cells = omega (arith, enough); not_lent = x.not_lent; no_reset = x.no_reset })
