-- Bytes of a piece put behind the input so far. Assumes nothing.
use Prim.Native.Nat.{ℕ, ◌+◌, ◌-◌, ◌≤◌, min}
use mathlib.Core.Path.{◌≡◌, sym, ap, ◌∙◌}
use mathlib.Core.List.{List, ◌++◌}
use native.Mathlib.Decide.{dec_le}
use native.Mathlib.Omega.{arith}
use lib.ListN.{length, take}
use lib.Seq.{take_all, length-take-le, take-append-add}
use Rattle.showinput.specs.declared.State.{State}
use Rattle.showinput.specs.Input.{kept}
use Rattle.showinput.specs.Promises.{input_of, Regular}

module _ (s : State) (piece : List ℕ) where
  abbrev room : ℕ
  room = 4002 - s.count

  -- as much of a piece as there is room for is what is kept of it
  pub kept-fed : (taken : ℕ) → Regular s → taken ≡ min (length piece) room → input_of s ++ take taken piece ≡ kept (input_of s ++ piece)
  kept-fed taken r e =
      let all : 4002 ≡ length (input_of s) + room = omega (arith, length-take-le s.count s.bytes (omega (arith, r.long, r.most)), r.most) in
      ap (λ l. input_of s ++ l) (go (dec_le room (length piece))) ∙ sym (ap (λ n. take n (input_of s ++ piece)) all ∙ take-append-add (input_of s) piece room)
    where
      go : Dec (room ≤ length piece) → take taken piece ≡ take room piece
      go (yes h) = let full : taken ≡ room = omega (arith, e) in ap (λ n. take n piece) full
      go (no h) = take_all taken piece (omega (arith, e)) ∙ sym (take_all room piece (omega arith))
