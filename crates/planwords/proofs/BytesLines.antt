-- What bytes are read as, and the bytes that hexadecimal digits are kept as. Assumes nothing.
use Prim.Native.Nat.{ℕ, zero, suc, ◌/◌, ◌%◌, ◌≤◌, ◌<◌}
use mathlib.Core.Path.{◌≡◌, sym, ap, ◌∙◌}
use mathlib.Core.List.{List}
use mathlib.Core.Bool.{Bool, true, false, not, cond}
use native.Mathlib.Omega.{arith}
use lib.ListN.{length, take}
use lib.Seq.{sets}
use lib.Dec.{eqb}
use Rattle.model.specs.Listing.{refusal_line}
use Rattle.model.specs.Plan as model
use Rattle.model.proofs.Tables.{length-table}
use Rattle.std.specs.Prelude.{Result, Ok, Err}
use Rattle.limits.specs.declared.refusal.Refusal.{Refusal}
use Rattle.limits.specs.Refusals.{number}
use Rattle.limits.proofs.Refusals.{some-number}
use Rattle.plan.specs.declared.Plan as code
use Rattle.plan.specs.Reading.{plan_for, ReadAs}
use Rattle.plan.proofs.Laws.{is-plan}
use Rattle.tokens.specs.declared.Fault.{Fault}
use Rattle.tokens.specs.Pieces.{each}
use Rattle.tokens.specs.Hexadecimal.{is_hex_digit, byte_at, bytes_of, found_bytes}
use Rattle.tokens.proofs.NumbersCounted.{kept-first}
use Rattle.replies.specs.Lines.{fault_line}
use Rattle.planwords.specs.Reads.{question, read_line, bytes_line, digits_line}

-- ---- what the reader answers

module _ (b : List ℕ) where
  pub line-accepted : {p : code.Plan} → ReadAs b (Ok p) → question (plan_for p) ≡ read_line (model.refusal b) (model.plan_of b)
  unfolding read_line
  line-accepted {p} read = ap question (is-plan b p read) ∙ ap (λ k. read_line k (model.plan_of b)) (sym read.0)

  pub line_refused : (r : Refusal) → ReadAs b (Err r) → refusal_line (number r) ≡ read_line (model.refusal b) (model.plan_of b)
  unfolding read_line
  line_refused r read = go (model.refusal b) read (some-number r)
    where
      go : (n : ℕ) → n ≡ number r → 0 < number r → refusal_line (number r) ≡ read_line n (model.plan_of b)
      go zero e some = absurd (omega arith)
      go (suc n) e some = ap refusal_line (sym e)

-- ---- digits that are kept as bytes

count_is : (digits : List ℕ) (n : ℕ) → Ok n ≡ found_bytes digits → n ≡ length digits / 2
unfolding found_bytes
count_is digits n e = go (each is_hex_digit digits) (eqb (length digits % 2) 0) e
  where
    go : (s t : Bool) → Ok n ≡ cond (not s) (Err Fault.NoHexDigit) (cond (not t) (Err Fault.OddDigits) (Ok (length digits / 2)))
        → n ≡ length digits / 2
    go true true p = cc
    go true false p = let z : ◌≡◌ {A = ℕ} 0 1 = cc in absurd (omega arith)
    go false t p = let z : ◌≡◌ {A = ℕ} 0 1 = cc in absurd (omega arith)

module _ (digits : List ℕ) where
  pub wrong-line : {fault : Fault} → ◌≡◌ {A = Result ℕ Fault} (Err fault) (found_bytes digits) → fault_line fault ≡ digits_line digits
  unfolding digits_line
  wrong-line {fault} e = ap (λ f. bytes_line f (bytes_of digits)) e

  module _ {n : ℕ} (e : Ok n ≡ found_bytes digits) where
    pub count_most : length digits ≤ 4000 → n ≤ 2000
    count_most few = omega (arith, count_is digits n e)

    pub kept-bytes : (kept₀ kept : List ℕ) → kept ≡ sets kept₀ 0 (bytes_of digits) → n ≤ length kept₀ → take n kept ≡ bytes_of digits
    kept-bytes kept₀ kept k room = ap (take n) k ∙ kept-first (bytes_of digits) kept₀ n (count_is digits n e ∙ sym (length-table (length digits / 2) (byte_at digits))) room

    pub bytes-line : (b : List ℕ) → b ≡ bytes_of digits → read_line (model.refusal b) (model.plan_of b) ≡ digits_line digits
    unfolding digits_line
    bytes-line b same = ap (λ d. read_line (model.refusal d) (model.plan_of d)) same ∙ ap (λ f. bytes_line f (bytes_of digits)) e
