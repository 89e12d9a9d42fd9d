-- Which writes that failed are made again. RULES 20.1. Assumes nothing.
use Rattle.std.specs.Prelude.{Bool, false, ◌||◌, ℤ, pos, negsuc, eqb}

-- by the number of the error: a signal came first, EINTR, or the output takes nothing for now, EAGAIN
abbrev pub may_go_on : ℤ → Bool
may_go_on (pos n) = eqb n 4 || eqb n 11
may_go_on (negsuc n) = false
