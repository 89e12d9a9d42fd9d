use Rattle.std.proofs.Common.{◌≡◌, sym, ap, ◌∙◌, Err}
use Rattle.model.specs.Refusals.{first_of}
use Rattle.model.specs.Window.{newest}
use Rattle.model.specs.Request.{nowhere, newest_tests, would_be_valid}
use Rattle.window.specs.Window.{window_of}
use Rattle.tables.specs.Search.{found_of}
use Rattle.link.specs.Sought.{sought_with}
use Rattle.link.specs.Steps.{read_in}
use Rattle.link.proofs.Given.{bounds-in, seeker-few, masks-in, search-from, sought-on, would-on, spent-on, unspent}
use Rattle.link.proofs.request.seek.Goals as goal
use Rattle.link.proofs.request.seek.Goals.{else-flow-eq0-via-then-flow-eq0+else-flow-newest, else-flow-eq0-via-else-flow-eq0}

pub returns-then-flow-newest : goal.returns-then-flow-newest
unfolding first_of
returns-then-flow-newest c =
    let s = c.args in
    λ p o.
    ap (sought_with (would_be_valid (read_in p s.s.now) s.i))
    (spent-on o (c.if-flow-newest.true ∙ c.newest.ensures) c.if-flow-eq0.true)

pub late_rank-late-requires : goal.late_rank-late-requires
late_rank-late-requires c =
    let o = c.requires.given in
    record { proper = o.state.proper; flow = seeker-few o; bounds = bounds-in o.state }

pub find-requires : goal.find-requires
find-requires c = search-from c.requires.given

-- what the search comes to is what it found
pub returns-in-Ok : goal.returns-in-Ok
returns-in-Ok c =
    let s = c.args in
    λ p o.
    let found-is = c.find.ensures ∙ sought-on o c.late_rank-late.ensures in
    ap (sought_with (would_be_valid (read_in p s.s.now) s.i)) (ap found_of (sym c.in-Ok.is) ∙ found-is)

pub valid_in_newest-requires : goal.valid_in_newest-requires
valid_in_newest-requires c = masks-in c.requires.given

-- or the refusal at the newest frame, where the share is not spent up to it
pub returns-in-Err : goal.returns-in-Err
returns-in-Err c =
    let s = c.args in
    let left = c.in-Err.left in
    let not-spent : s.flow.injection ≡ newest (window_of s.w) → s.flow.remainder ≡ 0 → ⊥ = λ frame spent.
    elim c.else-flow-eq0.branch [
      | else-flow-eq0-via-then-flow-eq0+else-flow-newest w ↦ w.if-flow-newest.false (frame ∙ sym w.newest.ensures)
      | else-flow-eq0-via-else-flow-eq0 w ↦ w.if-flow-eq0.false spent
    ] in
    λ p o.
    let found-is = c.find.ensures ∙ sought-on o c.late_rank-late.ensures in
    let none = ap found_of (sym c.in-Err.is) ∙ found-is in
    let some_left : left ≡ 0 → ⊥ = λ z. unspent o not-spent (ap nowhere (sym z) ∙ none) in
    let would = c.valid_in_newest.ensures ∙ would-on o c.late_rank-late.ensures in
    (λ k. Err (record { left = left; number = (c.nowhere.ensures left some_left ∙ ap (λ b. first_of (newest_tests b left)) would) k }))
    ∙ ap (sought_with (would_be_valid (read_in p s.s.now) s.i)) none
