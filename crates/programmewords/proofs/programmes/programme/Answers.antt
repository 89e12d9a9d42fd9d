use Rattle.std.proofs.Common.{◌≡◌, ◌<◌, ◌-◌, ◌/◌, length, sym, ◌∙◌, arith}
use Rattle.std.proofs.lemmas.Bool.Decides.{nat_tests}
use Rattle.replies.proofs.PutOn.{says_same}
use Rattle.programmewords.specs.Asked.{WholeEntries}
use Rattle.programmewords.proofs.ProgrammeLines.{minute-missing, no-threes, too_wide}
use Rattle.programmewords.proofs.programmes.programme.Goals as goal

pub returns-then-is_empty : goal.returns-then-is_empty
returns-then-is_empty c =
    let none : length c.args.numbers.now ≡ 0 = grind (arith, nat_tests) in
    says_same (minute-missing c.args.numbers.now none) c.say.ensures

pub returns-then-numbers-ne0 : goal.returns-then-numbers-ne0
returns-then-numbers-ne0 c =
    let some : 0 < length c.args.numbers.now = grind (arith, nat_tests) in
    says_same (no-threes c.args.numbers.now (λ e. omega arith) c.if-numbers-ne0.true) c.say-then-numbers-ne0.ensures

pub returns-then-any_wide : goal.returns-then-any_wide
returns-then-any_wide c =
    let numbers = c.args.numbers.now in
    let some : 0 < length numbers = grind (arith, nat_tests) in
    let whole : WholeEntries numbers ((length numbers - 1) / 3) = record { many = omega arith } in
    says_same (too_wide numbers _ whole (sym c.any_wide.ensures ∙ c.if-any_wide.true)) c.say-then-any_wide.ensures
