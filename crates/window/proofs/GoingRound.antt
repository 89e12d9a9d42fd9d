-- Going round m places: how far ahead a place lies, as a difference. Assumes nothing.
use Rattle.std.proofs.Common.{◌≡◌, ℕ, suc, ◌+◌, ◌-◌, ◌%◌, ◌<◌, ◌≤◌, ap, ◌∙◌, mod-eq_of_lt, arith}
use native.Mathlib.Nat.{mod_self, add-mod_right}
use native.Mathlib.Decide.{dec_lt}
use Rattle.model.specs.Tables.{ahead}

pub ahead-on : (m at to : ℕ) → at ≤ to → to < m → ahead m at to ≡ to - at
unfolding ahead
ahead-on m at to h b =
    let e : to + m - at ≡ (to - at) + m = omega arith in
    ap (◌% m) e ∙ add-mod_right (to - at) m ∙ mod-eq_of_lt (omega arith)

pub ahead-over : (m at to : ℕ) → to < at → 0 < m → ahead m at to ≡ to + m - at
unfolding ahead
ahead-over m at to h b = mod-eq_of_lt (omega arith)

pub ahead-here : (m at : ℕ) → at < m → ahead m at at ≡ 0
ahead-here m at h = ahead-on m at at (omega arith) h ∙ omega arith

-- one place on, another place lies one less ahead
pub ahead-next : (m at to : ℕ) → at < m → to < m → (at ≡ to → ⊥) → ahead m at to ≡ suc (ahead m ((at + 1) % m) to)
ahead-next m at to h b n = go (dec_lt (at + 1) m) (dec_lt at to)
  where
    go : Dec (at + 1 < m) → Dec (at < to) → ahead m at to ≡ suc (ahead m ((at + 1) % m) to)
    go (yes d) (yes l) =
        let here = ahead-on m at to (omega arith) b in
        let there = ahead-on m (at + 1) to (omega arith) b in
        rw (mod-eq_of_lt d) (omega arith)
    go (yes d) (no l) =
        let here = ahead-over m at to (omega arith) (omega arith) in
        let there = ahead-over m (at + 1) to (omega arith) (omega arith) in
        rw (mod-eq_of_lt d) (omega arith)
    go (no d) l =
        let last : at + 1 ≡ m = omega arith in
        let here = ahead-over m at to (omega arith) (omega arith) in
        let there = ahead-on m 0 to (omega arith) b in
        rw (last, mod_self m) (omega arith)
