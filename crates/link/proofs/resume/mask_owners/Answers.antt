use Rattle.std.proofs.Common.{◌∙◌, arith}
use Rattle.link.proofs.OwnerMasks.{measures-at-first, frame-of, masking-none, masking-one, masking-done}
use Rattle.link.proofs.resume.mask_owners.Goals as goal

pub every_slot-requires : goal.every_slot-requires
every_slot-requires c = measures-at-first c.requires.0.measures

pub put_masks-requires : goal.put_masks-requires
put_masks-requires c = (c.requires.1, c.every_slot.ensures.long)

pub loop-p-init : goal.loop-p-init
loop-p-init c =
    let now = c.put_masks.ensures in
    masking-none _ (now.beside.long ∙ c.requires.1) (rw now.masks_are c.every_slot.ensures)

pub bounds-s-p : goal.bounds-s-p
bounds-s-p c = omega (arith, c.requires.0.measures.positions_most)

pub book-requires : goal.book-requires
book-requires c = frame-of c.requires.0 c.loop-p-test.true

pub loop-p-preserved : goal.loop-p-preserved
loop-p-preserved c =
    masking-one c.requires.0 c.loop-p.invariant c.loop-p-test.true (λ unowned. grind arith) (λ owned. grind arith)

pub returns : goal.returns
returns c = masking-done c.put_masks.ensures c.loop-p-test.false c.loop-p.invariant
