-- A burst that is lent the first records of an array. Assumes nothing.
use Rattle.std.specs.Prelude.{ℕ, List, ◌++◌, take, drop}
use Rattle.model.specs.Link.{Link}
use Rattle.model.specs.Burst.{BurstRecord, Burst, burst}

-- the first k are lent, and the others stay
abbrev pub burst_of_first : ℕ → Link → List BurstRecord → Burst
burst_of_first k l xs =
    let b = burst l (take k xs) in
    record { link = b.link; records = b.records ++ drop k xs }
