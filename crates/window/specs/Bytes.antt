-- A byte moved by a number modulo 256. Assumes nothing.
use Rattle.std.specs.Prelude.{ℕ, ◌+◌, ◌-◌, cond, ◌==◌, nat_lt}

-- 0 leaves any number as it is
unfoldable pub wrapped : ℕ → ℕ → ℕ
wrapped by x = cond (by == 0) x (cond (nat_lt (x + by) 256) (x + by) (x + by - 256))
