-- The numbers of the refusals of plans. Assumes nothing.
use Rattle.std.specs.Prelude.{ℕ, Result, Ok, Err}
use Rattle.limits.specs.declared.refusal.Refusal.{Refusal}
use Rattle.limits.specs.declared.refusal.Refusal.TheVariants.{Length, Counts, Frame, Entries, Pairs, Shares, Cells, NoRoom}

-- RULES 2.3 and 15.1: the paper's number of each refusal
abbrev pub number : Refusal → ℕ
number Length = 1
number Counts = 2
number Frame = 3
number Entries = 4
number Pairs = 5
number Shares = 6
number Cells = 7
number NoRoom = 19

-- the number that tests come to: 0 where none applies, and otherwise the refusal's
abbrev pub refusal_number : {A : Type 0} → Result A Refusal → ℕ
refusal_number (Ok done) = 0
refusal_number (Err refusal) = number refusal
