use Rattle.replies.proofs.PutOn.{says_same}
use Rattle.std.proofs.Common.{ap, ◌∙◌}
use Rattle.extrawords.specs.ExtrasWord.{chosen_line}
use Rattle.extrawords.proofs.ChosenLines.{start-missing, no_pairs, chosen-line}
use Rattle.extrawords.proofs.extras.Goals as goal

pub returns-then-numbers-lt2 : goal.returns-then-numbers-lt2
returns-then-numbers-lt2 c = says_same (start-missing _ c.if-numbers-lt2.true) c.say.ensures

pub returns-then-numbers-ne0 : goal.returns-then-numbers-ne0
returns-then-numbers-ne0 c = says_same (no_pairs _ c.if-numbers-lt2.false c.if-numbers-ne0.true) c.say-then-numbers-ne0.ensures

pub returns : goal.returns
returns c =
    says_same (ap chosen_line c.choose.ensures ∙ chosen-line _ c.if-numbers-lt2.false c.if-numbers-ne0.false c.asked.ensures) c.say_choice.ensures
