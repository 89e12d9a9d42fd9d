use Rattle.std.proofs.Common.{take, length-take-le, sym, ap, ◌∙◌, zero-add, arith}
use Rattle.tokens.specs.Pieces.{piece_length}
use Rattle.tokens.proofs.FirstPiece.{piece-within}
use Rattle.replies.proofs.PutOn.{says_same}
use Rattle.questions.specs.Answers.{word_for, answer_to}
use Rattle.questions.proofs.answers.answer_short.Goals as goal

pub slice_bounds-named-end : goal.slice_bounds-named-end
slice_bounds-named-end c =
    let line = c.args.line.now in
    sym (length-take-le c.piece_end-end.result line (omega (arith, c.piece_end-end.ensures, piece-within line)))

pub returns-in-OfNumbers : goal.returns-in-OfNumbers
unfolding answer_to
returns-in-OfNumbers c =
    let line = c.args.line.now in
    let end = c.piece_end-end.ensures ∙ zero-add (piece_length line) in
    let word = c.named-word.ensures ∙ ap (λ k. word_for (take k line)) end in
    says_same (ap (λ w. answer_to w line) (sym c.in-OfNumbers.is ∙ word)) c.answer_counted.ensures

pub returns-in-Read : goal.returns-in-Read
unfolding answer_to
returns-in-Read c =
    let line = c.args.line.now in
    let end = c.piece_end-end.ensures ∙ zero-add (piece_length line) in
    let word = c.named-word.ensures ∙ ap (λ k. word_for (take k line)) end in
    says_same (ap (λ w. answer_to w line) (sym c.in-Read.is ∙ word)) c.read.ensures

pub returns-in-Unknown : goal.returns-in-Unknown
unfolding answer_to
returns-in-Unknown c =
    let line = c.args.line.now in
    let end = c.piece_end-end.ensures ∙ zero-add (piece_length line) in
    let word = c.named-word.ensures ∙ ap (λ k. word_for (take k line)) end in
    says_same (ap (λ w. answer_to w line) (sym c.in-Unknown.is ∙ word)) c.say.ensures
