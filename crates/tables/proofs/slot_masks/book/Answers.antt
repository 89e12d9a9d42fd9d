use Rattle.tables.proofs.slot_masks.book.Goals as goal

pub returns : goal.returns
returns c = record {
  mask = c.without.result;
  bits = rw c.mask_at.ensures at c.without.ensures;
  fits = c.put_mask.ensures.fits;
  is = c.put_mask.ensures.is;
}
