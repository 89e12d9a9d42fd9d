-- Stores one after another, and lines that have room. Assumes nothing.
use Prim.Native.Nat.{ℕ, suc, ◌+◌, ◌≤◌}
use mathlib.Core.Path.{◌≡◌, refl, sym, ap, ◌∙◌}
use mathlib.Core.List.{List, ◌∷◌, [], ◌++◌}
use mathlib.Core.Bool.{true}
use native.Mathlib.Nat.{add-zero, add-suc, suc-add}
use native.Mathlib.Numerals.{towards_suc}
use native.Mathlib.Omega.{arith}
use lib.ListN.{length, set, length-append}
use lib.Seq.{sets, length-sets}
use borrow.Author.Tests.{le-leb}
use Rattle.calls.specs.Lines.{room, out_with, next_after, Puts}

-- what is stored in two runs is stored in one
pub sets-append : (l : List ℕ) (i : ℕ) (xs ys : List ℕ) → sets (sets l i xs) (i + length xs) ys ≡ sets l i (xs ++ ys)
sets-append l i [] ys = ap (λ k. sets l k ys) (add-zero i)
sets-append l i (x ∷ xs) ys =
    ap (λ k. sets (sets (set l i x) (suc i) xs) k ys) (add-suc i (length xs) ∙ sym (suc-add i (length xs)))
    ∙ sets-append (set l i x) (suc i) xs ys

puts : (bytes before after : List ℕ) (at next : ℕ) → after ≡ sets before at bytes → next ≡ at + length bytes → Puts bytes before after at next
puts bytes before after at next e f = record { stored = e; up_to = f; length_stays = ap length e ∙ length-sets before at bytes }

pub puts_none : (out : List ℕ) (at : ℕ) → Puts [] out out at at
puts_none out at = puts [] out out at at refl (omega arith)

pub puts_one : (a : ℕ) (out : List ℕ) (at : ℕ) → Puts (a ∷ []) out (set out at a) at (at + 1)
puts_one a out at = puts (a ∷ []) out (set out at a) at (at + 1) refl (omega arith)

pub puts-two : (a b : ℕ) (out : List ℕ) (at : ℕ) → Puts (a ∷ b ∷ []) out (set (set out at a) (at + 1) b) at (at + 2)
puts-two a b out at = puts (a ∷ b ∷ []) out (set (set out at a) (at + 1) b) at (at + 2) (simp towards_suc) (omega arith)

pub puts_then : {xs ys before middle after : List ℕ} {at next last : ℕ}
    → Puts xs before middle at next → Puts ys middle after next last → Puts (xs ++ ys) before after at last
puts_then {xs} {ys} {before} {middle} {after} {at} {next} {last} p q =
    puts (xs ++ ys) before after at last (q.stored ∙ (λ i. sets (p.stored i) (p.up_to i) ys) ∙ sets-append before at xs ys)
    (omega (arith, p.up_to, q.up_to, length-append xs ys))

pub puts-same : {xs ys before after : List ℕ} {at next : ℕ} → xs ≡ ys → Puts xs before after at next → Puts ys before after at next
puts-same {before} {after} {at} {next} e p = rw e at p

-- ---- lines with room

-- what a writer promises of a line
abbrev pub Written : (line before after : List ℕ) → (at next : ℕ) → Type 0
Written line before after at next = (after ≡ out_with line before at) × ((next ≡ next_after line before at) × (next ≤ at + 7))

-- what a writer leaves, for a caller that has made room
module _ (line out : List ℕ) (at : ℕ) (h : at + 7 ≤ length out) where
  there : room out at ≡ true
  unfolding room
  there = le-leb (at + 7) (length out) h

  pub out-in-room : out_with line out at ≡ sets out at line
  unfolding out_with
  out-in-room = rw there

  pub next-in-room : next_after line out at ≡ at + length line
  unfolding next_after
  next-in-room = rw there

  -- what it wrote stands there
  pub put-in-room : {out' : List ℕ} {next : ℕ} → Written line out out' at next → Puts line out out' at next
  put-in-room (stored, (up_to, most)) = puts line out _ at _ (stored ∙ out-in-room) (up_to ∙ next-in-room)
