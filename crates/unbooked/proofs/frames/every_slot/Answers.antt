use Rattle.unbooked.proofs.FrameWords.{whole_words}
use Rattle.unbooked.proofs.frames.every_slot.Goals as goal

pub returns : goal.returns
returns c = whole_words _ _ c.requires.frames_most (c.fill.ensures.after (λ y e. e)) c.below.ensures
