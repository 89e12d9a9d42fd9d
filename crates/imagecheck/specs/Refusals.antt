-- The numbers of the refusals of buffers. Assumes nothing.
use Rattle.std.specs.Prelude.{ℕ, Result, Ok, Err}
use Rattle.imagecheck.specs.declared.refusal.Refusal.{Refusal}
use Rattle.imagecheck.specs.declared.refusal.Refusal.TheVariants.{Short, Fault}

-- RULES 12.2: the paper's number of each refusal
abbrev pub number : Refusal → ℕ
number Short = 21
number Fault = 22

-- the number that tests come to: 0 where the image is taken, and otherwise the refusal's
abbrev pub refusal_number : {A : Type 0} → Result A Refusal → ℕ
refusal_number (Ok done) = 0
refusal_number (Err refusal) = number refusal
