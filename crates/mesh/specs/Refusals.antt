-- The numbers of the refusals. RULES 16.3. Assumes nothing.
use Rattle.std.specs.Prelude.{ℕ, Result, Ok, Err}
use Rattle.mesh.specs.declared.Refusal.{Refusal}

-- the number of each
abbrev pub number : Refusal → ℕ
number Refusal.Frame = 3
number Refusal.Stream = 4
number Refusal.Mesh = 25

-- 0 where nothing is refused
abbrev pub refusal_number : {A : Type 0} → Result A Refusal → ℕ
refusal_number (Ok a) = 0
refusal_number (Err r) = number r
