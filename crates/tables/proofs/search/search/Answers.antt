use Rattle.std.proofs.Common.{refl, sym, ◌∙◌, ◌≡◌, arith, rules, ℕ, Bool}
use native.Mathlib.Nat.{mod-lt}
use Rattle.model.specs.Window.{newest}
use Rattle.model.specs.Window as model
use Rattle.window.specs.Window.{window_of, ranks_from}
use Rattle.window.proofs.Windows.{frame-fits}
use Rattle.state.specs.State.{owners_of}
use Rattle.tables.specs.Search.{valid_at, ValidSlots}
use Rattle.tables.proofs.ValidSlots.{no_slot, lowest-slot}
use Rattle.tables.proofs.FrameWalk.{one-frame-on, NoneIn, none-spent, none-valid, walked_on, walked-out, walked-hit}
use Rattle.tables.proofs.search.search.Goals as goal

-- a frame whose word is 0 has no valid slot
none-found : {w : model.Window} {ok : ℕ → Bool} {share j c word : ℕ} → ValidSlots w ok j word → word ≡ 0 → NoneIn w ok share j c
none-found slots z = none-valid (no_slot slots z)

pub search-init : goal.search-init
search-init c = record { there = search rules; walked = record { same = refl } }

pub valid_slots-valid-requires : goal.valid_slots-valid-requires
valid_slots-valid-requires c = record { masks = c.requires.masks; frame = c.search.invariant.there }

pub overflow_mul-result : goal.overflow_mul-result
overflow_mul-result c =
    let fits = frame-fits c.args.w.slots c.args.w.frames c.search.frame c.search.invariant.there in
    omega (arith, fits, c.requires.masks.proper.measures.positions_most)

pub overflow_add-result : goal.overflow_add-result
overflow_add-result c =
    let fits = frame-fits c.args.w.slots c.args.w.frames c.search.frame c.search.invariant.there in
    omega (arith, fits, c.requires.masks.proper.measures.positions_most, c.lowest.ensures.at_most)

pub next-frame-requires : goal.next-frame-requires
next-frame-requires c = search rules

pub search-smaller : goal.search-smaller
search-smaller c =
    rw c.next-frame.ensures
    (omega (arith, one-frame-on (window_of c.args.w) c.search.invariant.there (λ e. c.if-frame-newest.false (e ∙ sym c.newest-newest.ensures))))

-- the frame has no valid slot, or nothing is left of the share
pub search-preserved : goal.search-preserved
search-preserved c =
    let s = c.args in
    let nothing : NoneIn (window_of s.w) (valid_at (owners_of s.s.now) (ranks_from s.w s.low)) s.share c.search.frame c.search.left =
    grind (arith, none-spent, none-found) in
    rw c.next-frame.ensures
    (record {
      there = mod-lt _ (omega arith);
      walked = walked_on c.search.invariant.walked nothing c.search.invariant.there (λ e. c.if-frame-newest.false (e ∙ sym c.newest-newest.ensures));
    })

pub returns-then-valid-ne0 : goal.returns-then-valid-ne0
returns-then-valid-ne0 c =
    walked-hit c.search.invariant.walked c.if-left-gt0.true (lowest-slot c.valid_slots-valid.ensures c.lowest.ensures c.if-valid-ne0.true)

pub returns-then-frame-newest : goal.returns-then-frame-newest
returns-then-frame-newest c =
    let s = c.args in
    let nothing : NoneIn (window_of s.w) (valid_at (owners_of s.s.now) (ranks_from s.w s.low)) s.share c.search.frame c.search.left =
    grind (arith, none-spent, none-found) in
    walked-out c.search.invariant.walked nothing c.search.invariant.there (c.if-frame-newest.true ∙ c.newest-newest.ensures)
