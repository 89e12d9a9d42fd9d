-- Boards that are not ours are sent back, and no premise of `dome-arrives` can be left out. Assumes nothing.
use Prim.Native.Nat.{ℕ, ◌+◌, ◌*◌, ◌<◌}
use mathlib.Core.Path.{◌≡◌, refl}
use mathlib.Core.List.{◌∷◌, [], reverse, flat_map}
use native.Mathlib.Omega.{arith}
use lib.Dec.{lit<, lit≤}
use Rattle.model.specs.Tables.{any, sum}
use Rattle.model.specs.Refusals.{first_of}
use Rattle.model.specs.Plan.{Plan, plan_of, entry_fits}
use Rattle.model.specs.Calls.{History}
use Rattle.model.specs.Scheduler.{reference}
use Rattle.model.proofs.Decidable.{proved}
use Rattle.arrival.specs.SeveralLinks.{Board}
use Rattle.arrival.specs.CreditedByNext.{ModestFirst}
use Rattle.mesh.specs.Mesh.{keep, some_of, links}
use Rattle.mesh.specs.Streams.{uses, load}
use Rattle.mesh.specs.Admission as admission
use Rattle.show.specs.Show as shows
use Rattle.show.specs.Show.{Show, link_plan, used, first_number}
use Rattle.show.specs.Delay.{EnoughCells}
use Rattle.crossings.specs.Crossing.{served}
use Rattle.crossings.specs.WrongBoards.{asks_next_slot}
use Rattle.showcrossings.specs.Ways.{GivesBack}
use Rattle.showcrossings.specs.Dome.{Arrives, DomeArrivesBy, DomeArrives}
use Rattle.showcrossings.specs.Edges.{three_streams, first_bytes, Run}
use Rattle.showcrossings.specs.WrongBoards.{credits_none, asks_none, numbers_none, slot_later, cells_full, never_asked, same_number, three_at_once, one_cell_first}
use Rattle.showcrossings.specs.WrongBoards.{two_cells_last, not_given_back, ShortCells}
use Rattle.showcrossings.proofs.Edges.{Comes, comes, first_link, last_link, crossed, show_of, on-links, source_of, EndsOf, ends_of, runs-compute}
use Rattle.showcrossings.proofs.Edges.{no-refusal}

-- ---- what is claimed, of one run

module _ (Cells : Show → (late i : ℕ) → Type 0) (Source : Plan → ℕ → History → Type 0) (Ends : (late : ℕ) → Board reference → Type 0) {r : Run} (x : Comes r) where
  claimed : DomeArrivesBy Cells Source Ends r.board → shows.refusal (show_of x) ≡ 0 → Cells (show_of x) 1 0
      → Source (plan_of (first_bytes r.cells)) 0 (reverse r.first) → Ends 1 (last_link x)
      → Arrives r.board (show_of x) 0 (first_link x) (last_link x ∷ []) (crossed x, tt)
  claimed arrives none enough source ends =
      arrives (show_of x) none 0 (lit< tt) 1 enough (first_link x) (last_link x ∷ []) (on-links x) source ends (crossed x, tt)

-- of a board that is not ours, on a run with two cells on the first link and three on the last
two-three : EnoughCells (three_streams 2 3) 1 0
two-three = record { usual = λ h. lit≤ tt; last = lit≤ tt }

abbrev modest_on : {r : Run} → Comes r → Type 0
modest_on {r} x = ModestFirst (plan_of (first_bytes r.cells)) 0 (reverse r.first)

module _ {r : Run} (x : Comes r) where
  claimed-there : DomeArrives r.board → shows.refusal (show_of x) ≡ 0 → EnoughCells (show_of x) 1 0 → modest_on x → EndsOf r
      → Arrives r.board (show_of x) 0 (first_link x) (last_link x ∷ []) (crossed x, tt)
  claimed-there = claimed EnoughCells ModestFirst GivesBack x

-- ---- the boards

later-comes : Comes slot_later
unfolding runs-compute
later-comes = comes slot_later refl

-- the tile is granted slot 7, and not one before slot 6
pub asks-next-slot : DomeArrives asks_next_slot → ⊥
unfolding runs-compute
asks-next-slot arrives =
    let x = claimed-there later-comes arrives no-refusal two-three (proved (source_of slot_later) tt) (proved (ends_of slot_later) tt) in
    let late : 7 < 0 + (2 + 1) * 2 = x.in_time.from_due 0 (lit< tt) in
    omega (arith, late)

full-comes : Comes cells_full
unfolding runs-compute
full-comes = comes cells_full refl

-- the source's third request is refused
pub credits-none : DomeArrives credits_none → ⊥
unfolding runs-compute
credits-none arrives =
    (claimed-there full-comes arrives no-refusal two-three (proved (source_of cells_full) tt) (proved (ends_of cells_full) tt)).in_time.granted_first.0 refl refl

never-comes : Comes never_asked
unfolding runs-compute
never-comes = comes never_asked refl

-- six slots after it was due the tile has not come up
pub asks_none_lem : DomeArrives asks_none → ⊥
unfolding runs-compute
asks_none_lem arrives =
    let x = claimed-there never-comes arrives no-refusal two-three (proved (source_of never_asked) tt) (proved (ends_of never_asked) tt) in
    let up : 0 < 0 = (x.all_in_time.from_due 0 (lit< tt) (lit≤ tt)).granted in
    omega (arith, up)

same-number-comes : Comes same_number
unfolding runs-compute
same-number-comes = comes same_number refl

-- the second tile is refused on the last link
pub numbers-none : DomeArrives numbers_none → ⊥
unfolding runs-compute
numbers-none arrives =
    (claimed-there same-number-comes arrives no-refusal two-three (proved (source_of same_number) tt) (proved (ends_of same_number) tt)).in_time.granted_later.0.0 refl refl

-- ---- the premises

at-once-comes : Comes three_at_once
unfolding runs-compute
at-once-comes = comes three_at_once refl

-- a source that is not modest is refused
pub not-without-modesty : DomeArrivesBy EnoughCells (λ P i h. Unit {0}) GivesBack served → ⊥
unfolding runs-compute
not-without-modesty arrives =
    (claimed EnoughCells (λ P i h. Unit {0}) GivesBack at-once-comes arrives no-refusal two-three tt (proved (ends_of three_at_once) tt)).in_time.granted_first.0
    refl refl

one-cell-comes : Comes one_cell_first
unfolding runs-compute
one-cell-comes = comes one_cell_first refl

one-cell-plans : shows.refusal (three_streams 1 3) ≡ 0
unfolding shows.refusal first_number used link_plan admission.refusal admission.stream_fits keep some_of links uses load any sum first_of entry_fits flat_map
one-cell-plans = refl

-- with a cell fewer than two shares on the first link the source is refused
pub not-with-a-cell-fewer : DomeArrivesBy (ShortCells 1 0) ModestFirst GivesBack served → ⊥
unfolding runs-compute
not-with-a-cell-fewer arrives =
    (claimed (ShortCells 1 0) ModestFirst GivesBack one-cell-comes arrives one-cell-plans (record { usual = λ h. lit≤ tt; last = lit≤ tt })
    (proved (source_of one_cell_first) tt) (proved (ends_of one_cell_first) tt)).in_time.granted_first.0 refl refl

two-cells-comes : Comes two_cells_last
unfolding runs-compute
two-cells-comes = comes two_cells_last refl

two-cells-plans : shows.refusal (three_streams 2 2) ≡ 0
unfolding shows.refusal first_number used link_plan admission.refusal admission.stream_fits keep some_of links uses load any sum first_of entry_fits flat_map
two-cells-plans = refl

-- with a cell fewer than three shares on the last link, which gives cells back a frame late, the third tile is refused there
pub not-with-a-last-cell-fewer : DomeArrivesBy (ShortCells 0 1) ModestFirst GivesBack served → ⊥
unfolding runs-compute
not-with-a-last-cell-fewer arrives =
    (claimed (ShortCells 0 1) ModestFirst GivesBack two-cells-comes arrives two-cells-plans (record { usual = λ h. lit≤ tt; last = lit≤ tt })
    (proved (source_of two_cells_last) tt) (proved (ends_of two_cells_last) tt)).in_time.granted_later.0.0 refl refl

not-back-comes : Comes not_given_back
unfolding runs-compute
not-back-comes = comes not_given_back refl

-- where no cell of the last link is given back the fourth tile is refused there
pub not-without-giving-back : DomeArrivesBy EnoughCells ModestFirst (λ late b. Unit {0}) served → ⊥
unfolding runs-compute
not-without-giving-back arrives =
    (claimed EnoughCells ModestFirst (λ late b. Unit {0}) not-back-comes arrives no-refusal two-three (proved (source_of not_given_back) tt) tt).in_time.granted_later.0.0 refl refl
