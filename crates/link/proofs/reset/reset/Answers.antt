use Rattle.std.proofs.Common.{refl, ap, ◌∙◌, arith}
use Rattle.link.specs.Started.{started_flows}
use Rattle.link.proofs.Plans.{count_most}
use Rattle.link.proofs.Resets.{reset-refused, reset-granted}
use Rattle.link.proofs.Given.{in_hand}
use Rattle.link.proofs.StateParts.{went-same}
use Rattle.link.proofs.StateLends.{quiet_same, Marked, marked-booked, marked-kept, flows-reset, went-reset}
use Rattle.link.proofs.reset.reset.Goals as goal
use Rattle.link.proofs.reset.reset.Goals.{then-s-current-ne-NOBODY, else-s-current-ne-NOBODY}

pub quiet-requires : goal.quiet-requires
quiet-requires c = let o = c.requires in record { proper = o.proper; few = count_most _ o.sound.parts.plan }

pub returns-then-not-quiet : goal.returns-then-not-quiet
returns-then-not-quiet c =
    let s = c.args in
    let quiet_is = c.quiet.ensures ∙ quiet_same _ s.plan.count s.s.now (count_most _ c.requires.sound.parts.plan) in
    went-same c.requires.sound refl (reset-refused (in_hand c.requires) quiet_is c.if-not-quiet.true-raw)

pub reset_tables-requires : goal.reset_tables-requires
reset_tables-requires c =
    let o = c.requires in
    let marked : Marked o c.if-s-current-ne-NOBODY.s = elim c.if-s-current-ne-NOBODY.branch [
      | then-s-current-ne-NOBODY booked ↦ marked-booked o booked.if-s-current-ne-NOBODY.true booked.s-is
      | else-s-current-ne-NOBODY kept ↦ marked-kept o kept.if-s-current-ne-NOBODY.false kept.s-is
    ] in
    (o.sound.parts.plan, marked.0.long ∙ o.sound.whole, omega (arith, o.proper.head_below, o.proper.measures.frames_most))

pub returns : goal.returns
returns c =
    let s = c.args in
    let o = c.requires in
    let quiet_is = c.quiet.ensures ∙ quiet_same _ s.plan.count s.s.now (count_most _ o.sound.parts.plan) in
    let m : Marked o c.if-s-current-ne-NOBODY.s = elim c.if-s-current-ne-NOBODY.branch [
      | then-s-current-ne-NOBODY booked ↦ marked-booked o booked.if-s-current-ne-NOBODY.true booked.s-is
      | else-s-current-ne-NOBODY kept ↦ marked-kept o kept.if-s-current-ne-NOBODY.false kept.s-is
    ] in
    let r = c.reset_tables.ensures in
    let flows = r.flows_are ∙ ap (started_flows s.w.head s.plan.entries s.plan.count) (flows-reset o m.0 m.1 r) in
    went-reset o m.0 m.1 r
    (reset-granted (in_hand o) quiet_is c.if-not-quiet.false-raw m.2 r.owners_are r.masks_are flows)
