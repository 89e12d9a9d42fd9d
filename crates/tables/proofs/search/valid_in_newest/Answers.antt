use Rattle.std.proofs.Common.{ℕ, ◌≤◌, ◌≡◌, Bool, not, eqb, sym, mod-lt, arith, eq-eqb, ne_eqb}
use native.Mathlib.Decide.{dec_le}
use Rattle.model.specs.Window.{Window, newest}
use Rattle.model.specs.Request.{some_in_newest}
use Rattle.window.specs.Window.{window_of}
use Rattle.tables.specs.Search.{ValidSlots}
use Rattle.tables.proofs.ValidSlots.{none-valid, some-valid}
use Rattle.tables.proofs.search.valid_in_newest.Goals as goal

pub valid_slots-requires : goal.valid_slots-requires
valid_slots-requires c =
    record { masks = c.requires; frame = rw c.newest.ensures (mod-lt _ (omega (arith, c.requires.proper.measures.two_frames))) }

-- a word of the newest frame's valid slots is not 0 exactly when there is one
told : (w : Window) {ok : ℕ → Bool} {word : ℕ} → ValidSlots w ok (newest w) word → Dec (word ≤ 0) → not (eqb word 0) ≡ some_in_newest w ok
told w {word = word} v (yes h) = let z : word ≡ 0 = omega arith in rw (eq-eqb _ _ z) (sym (none-valid v z))
told w {word = word} v (no h) = let z : word ≡ 0 → ⊥ = λ e. omega arith in rw (ne_eqb _ _ z) (sym (some-valid v z))

pub returns : goal.returns
returns c = told (window_of c.args.w) (rw c.newest.ensures at c.valid_slots.ensures) (dec_le c.valid_slots.result 0)
