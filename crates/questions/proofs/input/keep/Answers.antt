use Rattle.questions.proofs.FedBytes.{one_kept, none_kept}
use Rattle.questions.proofs.input.keep.Goals as goal

pub returns-then-count-lt-KEPT : goal.returns-then-count-lt-KEPT
returns-then-count-lt-KEPT c = one_kept _ _ _ c.requires c.if-count-lt-KEPT.true

pub returns : goal.returns
returns c = none_kept _ _ _ c.requires c.if-count-lt-KEPT.false
