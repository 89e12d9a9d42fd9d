-- The order in which a lend looks at the flows, and how it changes with the flow that is lent to. Assumes nothing.
use Prim.Native.Nat.{ℕ, suc, ◌+◌, ◌-◌, ◌%◌, ◌≤◌, ◌<◌}
use mathlib.Core.Path.{◌≡◌, sym, ap, ◌∙◌}
use native.Mathlib.Nat.{mod-mod, mod-add-mod, add-mod_right}
use native.Mathlib.Omega.{arith}
use Rattle.model.specs.Tables.{ahead}
use Rattle.model.proofs.Round.{first_with, first_with-high, first_with-mod, ahead-mod}

-- how many of n flows are looked at before flow x, looking from p on
abbrev pub place : (n p x : ℕ) → ℕ
place n p x = ahead n (p % n) x

module _ {n : ℕ} (some : 0 < n) (p : ℕ) where
  pub place-below : (x : ℕ) → place n p x < n
  unfolding first_with
  place-below x = omega (arith, first_with-high some p x)

  -- no two flows have one place
  pub place-one : {x y : ℕ} → x < n → y < n → place n p x ≡ place n p y → x ≡ y
  unfolding first_with
  place-one {x} {y} hx hy e = sym (first_with-mod some p x hx) ∙ ap (λ a. (p + a) % n) e ∙ first_with-mod some p y hy

  module _ {k : ℕ} (hk : k < n) {x : ℕ} (hx : x < n) where
    -- the flow after k, as a number from p on
    after-k : (k + 1) % n % n ≡ (first_with n p k + 1) % n
    after-k = mod-mod (k + 1) n ∙ ap (λ a. (a + 1) % n) (sym (first_with-mod some p k hk)) ∙ mod-add-mod (first_with n p k) n 1

    -- a flow that comes after k is nearer by the flows up to k
    pub nearer : place n p k < place n p x → place n ((k + 1) % n) x + suc (place n p k) ≡ place n p x
    unfolding first_with
    nearer lt =
        let far = ahead-mod some {b = first_with n p k + 1} {x = first_with n p x} (omega arith) (omega (arith, first_with-high some p x)) in
        let here : place n ((k + 1) % n) x ≡ first_with n p x - (first_with n p k + 1) =
        (λ i. ahead n (after-k i) (sym (first_with-mod some p x hx) i)) ∙ far in
        omega arith

    -- k itself, and a flow that was before it, come in the next round
    pub next-round : place n p x ≤ place n p k → place n ((k + 1) % n) x + suc (place n p k) ≡ n + place n p x
    unfolding first_with
    next-round le =
        let far = ahead-mod some {b = first_with n p k + 1} {x = first_with n p x + n} (omega (arith, first_with-high some p k)) (omega arith) in
        let round = sym (add-mod_right (first_with n p x) n ∙ first_with-mod some p x hx) in
        let here : place n ((k + 1) % n) x ≡ first_with n p x + n - (first_with n p k + 1) = (λ i. ahead n (after-k i) (round i)) ∙ far in
        omega (arith, first_with-high some p k)
