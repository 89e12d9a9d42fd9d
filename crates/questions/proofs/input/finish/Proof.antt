-- `questions::input::finish` meets its contract. Assumes nothing.
use mathlib.Core.Path.{sym}
use native.Mathlib.Omega.{arith}
use lib.Seq.{length-take-le}
use borrow.Author.Rules.{rules}
use Rattle.replies.proofs.PutOn.{says_same}
use Rattle.questions.proofs.LineAnswers.{none-begun, some-begun}
use Rattle.questions.proofs.input.finish.Statement.{statement}
use Rattle.questions.proofs.input.finish.Tie as tie

array-share-prefix-line : tie.Need-slice_bounds-line-end
array-share-prefix-line c = let s = c.requires.0 in omega (arith, s.long, s.most)

slice-aggregate-answer : tie.Need-slice_bounds-answer-end
slice-aggregate-answer c = let s = c.requires.0 in sym (length-take-le _ _ (omega (arith, s.long, s.most)))

answer-requires : tie.Need-answer-requires
answer-requires c κs = search rules

same_length : tie.Need-shape_of-out
same_length c = search rules

returns-2 : tie.Need-returns
returns-2 c =
    says_same (some-begun c.args.state c.requires.0 (λ z. omega (arith, z))) c.answer.ensures

pub finish_spec : {M : Type 1} → statement M
finish_spec = tie.close (tie.spec (λ c. none-begun _ c.args.state (omega arith)) array-share-prefix-line slice-aggregate-answer answer-requires same_length returns-2)
