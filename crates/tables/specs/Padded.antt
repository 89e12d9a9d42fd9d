-- Places of a row counted round 256 from one of them on: a value for those that come before a place, and one from it on. Assumes nothing.
use Rattle.std.specs.Prelude.{ℕ, ◌+◌, ◌-◌, ◌%◌, cond, ltb}

-- how far place k lies on from `base`, going round 256
abbrev pub on_from : (base k : ℕ) → ℕ
on_from base k = (k + 256 - base) % 256

-- `early` at the places that lie on by less than `from`, and `late` at the others
abbrev pub pad : (base from early late k : ℕ) → ℕ
pad base from early late k = cond (ltb (on_from base k) from) early late
