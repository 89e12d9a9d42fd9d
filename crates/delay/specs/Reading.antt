-- What is answered, read as the definitions have it. Assumes nothing.
use Rattle.std.specs.Prelude.{ℕ, Result, Ok, Err}
use Rattle.std.proofs.Math.Option.{Option, some, none}
use Rattle.model.specs.Calls.{Answer, accepted, refused}
use Rattle.delay.specs.declared.Bounds.{Bounds}
use Rattle.delay.specs.declared.Refusal.{Refusal}
use Rattle.delay.specs.declared.Unanswered.{Unanswered}
use Rattle.delay.specs.Bounds as model

-- the number of each refusal
abbrev pub number : Refusal → ℕ
number Refusal.Frame = 3
number Refusal.Share = 4

-- 0 where nothing is refused
abbrev pub refusal_number : Result (Unit {0}) Refusal → ℕ
refusal_number (Ok _) = 0
refusal_number (Err r) = number r

-- each answer with the model's number and values
abbrev pub told : Result Bounds Unanswered → Option (Answer model.Bounds)
told (Ok b) = some (accepted (record { slots = b.slots; cells = b.cells; shown = b.shown }))
told (Err Unanswered.NoQuestion) = none
told (Err (Unanswered.Refused r)) = some (refused (number r))
