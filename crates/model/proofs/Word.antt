-- Laws of the look-ahead word: it splits in one way, joins back, and another departure leaves the other fields. Assumes nothing.
use Prim.Native.Nat.{ℕ, ◌+◌, ◌*◌, ◌/◌, ◌%◌, ◌^◌, ◌<◌}
use mathlib.Core.Path.{◌≡◌, sym, ap, ◌∙◌}
use mathlib.Core.Bool.{true}
use native.Mathlib.Nat.{div-div-eq-div-mul, div-add-mod', div-one, mod-eq_of_lt}
use native.Mathlib.Omega.{arith}
use borrow.Author.Tests.{ltb-true, lt-ltb}
use Rattle.model.specs.Word.{Fields, destination_of, flow_of, quantum_of, departure_of, split, join, fits, departing, depart}
use Rattle.model.proofs.Tests.{and-true}

-- fields that fit are below the powers of 2 of their widths
pub record Fitting (f : Fields) : Type 0 where
  pub destination : f.destination < 64
  pub flow : f.flow < 64
  pub quantum : f.quantum < 1024
  pub departure : f.departure < 1024

pub fitting : (f : Fields) → fits f ≡ true → Fitting f
unfolding fits
fitting f e =
    let a = and-true _ _ e in
    let b = and-true _ _ a.0 in
    let c = and-true _ _ b.0 in
    record {
      destination = ltb-true f.destination 64 c.0;
      flow = ltb-true f.flow 64 c.1;
      quantum = ltb-true f.quantum 1024 b.1;
      departure = ltb-true f.departure 1024 a.1;
    }

-- a number by its digits, from the lowest up and from the highest down
digits : (w a b c x y z : ℕ) → c * 64 + x ≡ b → b * 1024 + y ≡ a → a * 1024 + z ≡ w → c * 67108864 + x * 1048576 + y * 1024 + z ≡ w
digits w a b c x y z e f g = omega arith

-- RULES 5.1: the word of a word's parts is the word
pub join-split : (w : ℕ) → w < 2 ^ 32 → join (split w) ≡ w
join-split w h =
    let a = w / 1024 in
    let b = a / 1024 in
    let e1 : w / 1048576 ≡ b = sym (div-div-eq-div-mul w 1024 1024) in
    let e2 : w / 67108864 ≡ b / 64 = sym (div-div-eq-div-mul w 1048576 64) ∙ ap (◌/ 64) e1 in
    let d1 : a * 1024 + w % 1024 ≡ w = div-add-mod' w 1024 in
    let d2 : b * 1024 + a % 1024 ≡ a = div-add-mod' a 1024 in
    let d3 : b / 64 * 64 + b % 64 ≡ b = div-add-mod' b 64 in
    let small : b / 64 < 64 = omega arith in
    let e3 : w / 67108864 % 64 ≡ b / 64 = mod-eq_of_lt (rw e2 small) ∙ e2 in
    let e4 : w / 1048576 % 64 ≡ b % 64 = ap (◌% 64) e1 in
    rw (e3, e4, div-one w) (digits w a b (b / 64) (b % 64) (a % 1024) (w % 1024) d3 d2 d1)

-- the fields of a joined word are those that it was joined of
module _ (f : Fields) (h : Fitting f) where
  destination-join : destination_of (join f) ≡ f.destination
  destination-join = omega arith

  flow-join : flow_of (join f) ≡ f.flow
  flow-join = omega arith

  quantum-join : quantum_of (join f) ≡ f.quantum
  quantum-join = omega arith

  departure-join : departure_of (join f) ≡ f.departure
  departure-join = omega arith

  -- RULES 5.1: and the parts of a word of such parts are these, so that there is one way
  pub split-join : split (join f) ≡ f
  split-join = λ i. record { destination = destination-join i; flow = flow-join i; quantum = quantum-join i; departure = departure-join i }

-- ---- the word with another departure

-- the fields of any word fit
split-fits : (w : ℕ) → Fitting (split w)
split-fits w = record { destination = omega arith; flow = omega arith; quantum = omega arith; departure = omega arith }

-- RULES 6.5: a granted word's other parts stay
pub split-depart : (w p : ℕ) → p < 1024 → split (depart w p) ≡ departing (split w) p
split-depart w p h =
    let f = split-fits w in
    split-join (departing (split w) p) (record { destination = f.destination; flow = f.flow; quantum = f.quantum; departure = h })

pub departure-depart : (w p : ℕ) → p < 1024 → departure_of (depart w p) ≡ p
departure-depart w p h = ap (λ (f : Fields). f.departure) (split-depart w p h)

pub quantum-depart : (w p : ℕ) → p < 1024 → quantum_of (depart w p) ≡ quantum_of w
quantum-depart w p h = ap (λ (f : Fields). f.quantum) (split-depart w p h)

pub depart-small : (w p : ℕ) → p < 1024 → depart w p < 2 ^ 32
depart-small w p h = let f = split-fits w in omega arith

-- every word's fields fit their widths, and so do any that are below them
pub fitting-fits : (f : Fields) → Fitting f → fits f ≡ true
unfolding fits
fitting-fits f h =
    rw (
      lt-ltb f.destination 64 h.destination,
      lt-ltb f.flow 64 h.flow,
      lt-ltb f.quantum 1024 h.quantum,
      lt-ltb f.departure 1024 h.departure,
    )

pub split-is-fitting : (w : ℕ) → fits (split w) ≡ true
split-is-fitting w = fitting-fits (split w) (split-fits w)
