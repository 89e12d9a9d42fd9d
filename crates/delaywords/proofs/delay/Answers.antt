use Rattle.std.proofs.Common.{◌≡◌, length, arith}
use Rattle.replies.proofs.PutOn.{says_same}
use Rattle.delaywords.proofs.DelayLines.{not-four, four}
use Rattle.delaywords.proofs.delay.Goals as goal
use Rattle.delaywords.proofs.delay.Goals.{in_default-via-then-numbers-lt4, in_default-via-else-numbers-lt4+else-numbers-lt5}

pub returns-in_default : goal.returns-in_default
returns-in_default c =
    let other : length c.args.numbers.now ≡ 4 → ⊥ =
    elim c.in_default.branch [ in_default-via-then-numbers-lt4 w ↦ grind arith | in_default-via-else-numbers-lt4+else-numbers-lt5 w ↦ grind arith ] in
    says_same (not-four _ other) c.say.ensures

pub returns : goal.returns
returns c =
    let all : length c.args.numbers.now ≡ 4 = omega arith in
    says_same (four _ all c.delay.ensures) c.say_delayed.ensures
