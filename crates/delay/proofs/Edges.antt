-- Every edge of what a stream can count on comes out as expected. Assumes nothing.
use mathlib.Core.Path.{refl}
use Rattle.model.specs.Refusals.{first_of}
use Rattle.delay.specs.Bounds.{no_question, refusal_of, delayed, answer_for}
use Rattle.delay.specs.Edges.{Pass, edges}

pub edges-hold : Pass edges
unfolding edges answer_for delayed no_question refusal_of first_of
edges-hold = refl
