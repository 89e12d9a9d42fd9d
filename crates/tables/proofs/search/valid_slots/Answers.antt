use Rattle.std.proofs.Common.{ℕ, ◌-◌, sym, ap, ◌∙◌, arith}
use Rattle.window.proofs.Windows.{frame-fits}
use Rattle.state.proofs.State.{masks-at}
use Rattle.tables.proofs.ValidSlots.{gathered}
use Rattle.tables.proofs.search.valid_slots.Goals as goal

pub overflow_mul-frame : goal.overflow_mul-frame
overflow_mul-frame c = omega (arith, frame-fits c.args.w.slots _ _ c.requires.frame)

pub rank-requires : goal.rank-requires
rank-requires c =
    let m = c.requires.masks.proper.measures in
    record { proper = c.requires.masks.proper; below = omega (arith, frame-fits c.args.w.slots _ _ c.requires.frame, m.some_slot) }

pub returns : goal.returns
returns c =
    let s = c.args in
    let few = c.requires.masks.proper.measures.frames_most in
    let early = c.saturating_sub.ensures ∙ ap (λ (x : ℕ). s.low - x) c.rank.ensures in
    let mask = c.mask_at.ensures ∙ sym (masks-at s.s.now s.frame (omega (arith, c.requires.frame))) in
    gathered c.requires.masks s.low s.frame c.requires.frame (rw (early, mask) at c.clear_below.ensures)
