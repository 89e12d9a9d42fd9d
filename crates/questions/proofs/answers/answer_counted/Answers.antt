use Rattle.std.proofs.Common.{replicate, length-take-le, sym, ap, ◌∙◌, arith}
use Rattle.tokens.specs.Pieces.{fields_of}
use Rattle.tokens.specs.Decimal.{numbers_in}
use Rattle.replies.proofs.PutOn.{says_same}
use Rattle.questions.specs.Answers.{answer_to_numbers, numbers_line, answer_to}
use Rattle.questions.proofs.LineAnswers.{count_fits, numbers-kept}
use Rattle.questions.proofs.answers.answer_counted.Goals as goal

pub slice_bounds-numbers-end : goal.slice_bounds-numbers-end
slice_bounds-numbers-end c = omega (arith, count_fits c.args.line.now c.in-Ok.ensures.found c.requires.0, c.read_numbers.auto.kept)

pub slice_bounds-answer_numbers-end : goal.slice_bounds-answer_numbers-end
slice_bounds-answer_numbers-end c =
    let few = count_fits c.args.line.now c.in-Ok.ensures.found c.requires.0 in
    sym (length-take-le c.in-Ok.count c.read_numbers.new.kept (omega (arith, few, c.read_numbers.auto.kept)))

pub returns-in-Ok : goal.returns-in-Ok
unfolding answer_to
returns-in-Ok c =
    let line = c.args.line.now in
    let found = c.in-Ok.ensures.found in
    let kept = numbers-kept line found (replicate 2000 0) c.read_numbers.new.kept c.in-Ok.ensures.kept (count_fits line found c.requires.0) in
    says_same (ap (answer_to_numbers c.args.word) kept ∙ ap (λ f. numbers_line f c.args.word (numbers_in (fields_of line))) found) c.answer_numbers.ensures

pub returns-in-Err : goal.returns-in-Err
unfolding answer_to
returns-in-Err c =
    let line = c.args.line.now in
    says_same (ap (λ f. numbers_line f c.args.word (numbers_in (fields_of line))) c.in-Err.ensures.found) c.say_fault.ensures
