-- What calls on the state of a link come to. Assumes nothing.
use Rattle.std.specs.Prelude.{ℕ, ◌≡◌}
use mathlib.Core.List.{List, flat_map}
use Rattle.std.proofs.lemmas.List.Edits.{sets}
use Rattle.plan.specs.declared.Plan.{Plan}
use Rattle.window.specs.declared.Window.{Window}
use Rattle.link.specs.Given.{StateIn}
use Rattle.link.specs.Sound.{SoundState}
use Rattle.link.specs.Steps.{read_in}
use Rattle.imagemodel.specs.Exports.{Done}
use Rattle.imagemodel.specs.Play.{DoneAll, eight}

-- a state has this link, and w is its window; the number is the answer's
pub record StepsTo (d : Done) (p : Plan) (w : Window) (s : List ℕ) (number : ℕ) : Type 0 where
  pub link_is : read_in p s ≡ d.link
  pub number_is : number ≡ d.number
  pub hand : StateIn p w s

-- a state has the last link of some records, and their numbers stand at the start of what was `out`
pub record PlaysTo (d : DoneAll) (p : Plan) (s out out' : List ℕ) : Type 0 where
  pub link_is : read_in p s ≡ d.link
  pub out_is : out' ≡ sets out 0 (flat_map eight d.numbers)
  pub sound : SoundState p s
