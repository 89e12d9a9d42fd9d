-- Every edge of the word `delay` comes out as expected. Assumes nothing.
use mathlib.Core.Path.{refl}
use Rattle.model.specs.Refusals.{first_of}
use Rattle.model.specs.Listing.{digits, decimal}
use Rattle.delay.specs.Bounds.{no_question, refusal_of, delayed, answer_for}
use Rattle.delaywords.specs.DelayWord.{answer_to_delay}
use Rattle.delaywords.specs.DelayLineEdges.{Pass, delay_line_edges}

pub delay-lines-hold : Pass delay_line_edges
unfolding delay_line_edges answer_to_delay answer_for delayed no_question refusal_of first_of digits decimal
delay-lines-hold = refl
