use Rattle.std.proofs.Common.{sym, ap, ◌∙◌, arith, replicate}
use lib.Seq.{length-take-le}
use Rattle.tokens.specs.Pieces.{fields_of}
use Rattle.tokens.specs.Decimal.{numbers_in}
use Rattle.replies.proofs.PutOn.{says_same}
use Rattle.showwords.specs.Answers.{answer_to_show}
use Rattle.showinput.specs.Input.{numbers_line}
use Rattle.showinput.proofs.Question.{count_fits, numbers-kept}
use Rattle.showinput.proofs.answers.answer_short.Goals as goal

pub slice_bounds-numbers-end : goal.slice_bounds-numbers-end
slice_bounds-numbers-end c = omega (arith, count_fits c.args.question.now c.in-Ok.ensures.found c.requires.0)

pub slice_bounds-show-end : goal.slice_bounds-show-end
slice_bounds-show-end c =
    sym (length-take-le c.in-Ok.count c.read_numbers.new.kept (omega (arith, count_fits c.args.question.now c.in-Ok.ensures.found c.requires.0)))

pub returns-in-Ok : goal.returns-in-Ok
returns-in-Ok c =
    let q = c.args.question.now in
    let counted = c.in-Ok.ensures.found in
    let numbers = numbers-kept q counted (replicate 2000 0) c.read_numbers.new.kept c.in-Ok.ensures.kept (count_fits q counted c.requires.0) in
    says_same (ap answer_to_show numbers ∙ ap (λ f. numbers_line f (numbers_in (fields_of q))) counted) c.show.ensures

pub returns-in-Err : goal.returns-in-Err
returns-in-Err c = says_same (ap (λ f. numbers_line f (numbers_in (fields_of c.args.question.now))) c.in-Err.ensures.found) c.say_fault.ensures
