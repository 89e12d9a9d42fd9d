-- What contracts say of ranges and of the next window leaves one answer. Assumes nothing.
use Rattle.std.proofs.Common.{◌≡◌, ℕ, ◌-◌, ◌/◌, ◌<◌, Bool, true, false, sym, refl, ap, ◌∙◌, ap₂, true≢false, arith}
use native.Mathlib.Decide.{dec_lt}
use Rattle.model.specs.Window as model
use Rattle.window.specs.declared.Window.{Window}
use Rattle.window.specs.Ranges.{All, LastIn}
use Rattle.window.specs.Window.{Ticked}

module _ {t : ℕ → Bool} {a e : ℕ} where
  -- whether every position of a range passes
  pub one-test : (r s : Bool) → All t a e r → All t a e s → r ≡ s
  one-test true true x y = refl
  one-test false false x y = refl
  one-test true false x y =
      let q = y.miss refl in
      absurd (true≢false (sym (x.pass refl q.at q.from q.below) ∙ q.fails))
  one-test false true x y =
      let q = x.miss refl in
      absurd (true≢false (sym (y.pass refl q.at q.from q.below) ∙ q.fails))

  -- an earlier and a later place are told apart by the position before the later one
  last_apart : {r s : ℕ} → LastIn t a e r → LastIn t a e s → r < s → ⊥
  last_apart {r} {s} x y h =
      true≢false (sym (x.pass (s - 1) (omega arith) (omega (arith, y.high))) ∙ y.miss (s - 1) (omega (arith, x.low)) (omega arith))

  -- the place after the last position that fails
  pub one_last : {r s : ℕ} → LastIn t a e r → LastIn t a e s → r ≡ s
  one_last {r} {s} x y = go (dec_lt r s) (dec_lt s r)
    where
      go : Dec (r < s) → Dec (s < r) → r ≡ s
      go (yes d) f = absurd (last_apart x y d)
      go (no d) (yes f) = absurd (last_apart y x f)
      go (no d) (no f) = omega arith

-- the window one position on
pub one-tick : {w on on' : Window} → Ticked w on → Ticked w on' → on ≡ on'
one-tick {w} {on} {on'} x y =
    let same = x.window_is ∙ sym y.window_is in
    let slots = ap (λ (v : model.Window). v.slots) same in
    let frames = ap (λ (v : model.Window). v.frames) same in
    let current = ap (λ (v : model.Window). v.current) same in
    let head = x.proper.head_is ∙ ap₂ ◌/◌ current slots ∙ sym y.proper.head_is in
    λ k. record { slots = slots k; frames = frames k; current = current k; head = head k }
