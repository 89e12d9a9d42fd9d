use Rattle.imagecheck.proofs.Refusals.{no_header, no-image}
use Rattle.imagecheck.proofs.check.Goals as goal

pub returns-then-image-lt-HEADER : goal.returns-then-image-lt-HEADER
returns-then-image-lt-HEADER c = no_header _ c.if-image-lt-HEADER.true

pub returns-then-image-field : goal.returns-then-image-field
returns-then-image-field c = no-image _ (rw c.field.ensures.is at c.if-image-field.true)
