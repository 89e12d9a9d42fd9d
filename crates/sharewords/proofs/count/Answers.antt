use Rattle.std.proofs.Common.{◌≡◌, length, arith}
use Rattle.replies.proofs.PutOn.{says_same}
use Rattle.sharewords.proofs.CountLines.{not-two, two}
use Rattle.sharewords.proofs.count.Goals as goal
use Rattle.sharewords.proofs.count.Goals.{in_default-via-then-numbers-lt2, in_default-via-else-numbers-lt2+else-numbers-lt3}

pub returns-in_default : goal.returns-in_default
returns-in_default c =
    let other : length c.args.numbers.now ≡ 2 → ⊥ =
    elim c.in_default.branch [ in_default-via-then-numbers-lt2 w ↦ grind arith | in_default-via-else-numbers-lt2+else-numbers-lt3 w ↦ grind arith ] in
    says_same (not-two _ other) c.say.ensures

pub returns : goal.returns
returns c =
    let both : length c.args.numbers.now ≡ 2 = omega arith in
    says_same (two _ both c.count.ensures) c.say_counted.ensures
