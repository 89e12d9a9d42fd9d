-- The plan's bytes in an input so far: still to come, never a plan, or all there; and where the program stands then. Assumes nothing.
use Prim.Native.Nat.{ℕ, ◌+◌, ◌*◌, ◌≤◌, ◌<◌}
use mathlib.Core.Path.{◌≡◌, refl, sym, ap, ◌∙◌}
use mathlib.Core.List.{List, ◌∷◌, [], ◌++◌, append-nil}
use mathlib.Core.Logic.{◌⊎◌, inl, inr}
use mathlib.Core.Bool.{Bool, true, false, not, ◌&&◌, ◌||◌}
use native.Mathlib.Decide.{dec_le}
use native.Mathlib.Omega.{arith}
use lib.ListN.{length, take, drop, length-append, get_or-append}
use lib.Seq.{take-append-le, drop-append-le, take-length, drop-length}
use lib.Dec.{ltb}
use borrow.Author.Tests.{lt-ltb, le-ltb, le-leb, ltb-true, ltb-false, not-true}
use Rattle.model.specs.Tables.{within}
use Rattle.model.specs.Plan.{refusal}
use Rattle.model.specs.Listing.{plan_line, plan_length, plan_missing, output_after, output}
use Rattle.model.proofs.Tests.{or-false, or-true, and-true, within-true}
use Rattle.program.specs.Stage.{reading, ended, whole_records, plan_open, stage_with, stage_after, written_after}

open-missing : (a w b : Bool) → a || (w && b) ≡ true → a || b || not w ≡ true
open-missing true w b e = refl
open-missing false true true e = refl
open-missing false true false e = e
open-missing false false b e = cc

-- ---- the three cases

-- two bytes stand there, and L isn't 12 to 76
pub record Never (input : List ℕ) : Type 0 where
  pub two : 2 ≤ length input
  pub out_of_range : not (within 12 76 (plan_length input)) ≡ true

-- L is 12 to 76, and L bytes stand there
pub record There (input : List ℕ) : Type 0 where
  pub low : 12 ≤ plan_length input
  pub high : plan_length input ≤ 76
  pub all : plan_length input ≤ length input

module _ (input : List ℕ) where
  -- whether L is 12 to 76, and whether fewer than L bytes stand there
  abbrev ranges : Bool
  ranges = within 12 76 (plan_length input)

  abbrev fewer : Bool
  fewer = ltb (length input) (plan_length input)

  in-range : 12 ≤ plan_length input → plan_length input ≤ 76 → ranges ≡ true
  in-range low high = rw (le-leb 12 (plan_length input) low, le-leb (plan_length input) 76 high)

  pub fewer-than-two : length input < 2 → plan_open input ≡ true
  unfolding plan_open
  fewer-than-two h = rw (lt-ltb (length input) 2 h)

  pub fewer-than-stated : 12 ≤ plan_length input → plan_length input ≤ 76 → length input < plan_length input → plan_open input ≡ true
  unfolding plan_open
  fewer-than-stated low high h =
      or-true (ltb (length input) 2) (ranges && fewer) (rw (in-range low high) (lt-ltb (length input) (plan_length input) h))

  -- where two stand there, L is a number, and fewer than L stand there
  open-below : plan_open input ≡ true → 2 ≤ length input → length input < plan_length input
  unfolding plan_open
  open-below o two = ltb-true (length input) (plan_length input) (and-true ranges fewer (rw (le-ltb (length input) 2 two) at o)).1

  -- which case it is
  pub cases : (plan_open input ≡ true) ⊎ (Never input ⊎ There input)
  unfolding plan_open
  cases = go (plan_open input) refl
    where
      closed : 2 ≤ length input → (b : Bool) → ranges ≡ b → (b && fewer) ≡ false → Never input ⊎ There input
      closed two true e f =
          let w = within-true 12 76 (plan_length input) e in
          inr (record { low = w.0; high = w.1; all = ltb-false (length input) (plan_length input) f })
      closed two false e f = inl (record { two = two; out_of_range = ap not e })

      go : (b : Bool) → plan_open input ≡ b → (plan_open input ≡ true) ⊎ (Never input ⊎ There input)
      go true e = inl e
      go false e = let p = or-false _ _ e in inr (closed (ltb-false (length input) 2 p.0) ranges refl p.1)

-- ---- where the program stands, and what it has written

module _ (input : List ℕ) where
  module _ (o : plan_open input ≡ true) where
    pub stage-open : stage_after input ≡ reading input
    unfolding stage_after
    stage-open = rw o

    pub written-open : written_after input ≡ []
    unfolding written_after
    written-open = rw o

    open-there : plan_missing input ≡ true
    unfolding plan_missing plan_open
    open-there = open-missing (ltb (length input) 2) (ranges input) (fewer input) o

    pub output-open : output input ≡ plan_line 1
    unfolding output
    output-open = rw open-there

  module _ (n : Never input) where
    never-open : plan_open input ≡ false
    unfolding plan_open
    never-open = rw (le-ltb (length input) 2 n.two, not-true (ranges input) n.out_of_range)

    never-there : plan_missing input ≡ true
    unfolding plan_missing
    never-there = or-true (ltb (length input) 2 || fewer input) (not (ranges input)) n.out_of_range

    pub stage-never : stage_after input ≡ ended
    unfolding stage_after
    stage-never = rw (never-open, never-there)

    pub written-never : written_after input ≡ plan_line 1
    unfolding written_after
    written-never = rw (never-open, never-there)

    pub output-never : output input ≡ plan_line 1
    unfolding output
    output-never = rw never-there

  module _ (t : There input) where
    two-there : ltb (length input) 2 ≡ false
    two-there = le-ltb (length input) 2 (omega (arith, t.low, t.all))

    all_there : fewer input ≡ false
    all_there = le-ltb (length input) (plan_length input) t.all

    there-open : plan_open input ≡ false
    unfolding plan_open
    there-open = rw (two-there, in-range input t.low t.high, all_there)

    there-there : plan_missing input ≡ false
    unfolding plan_missing
    there-there = rw (two-there, all_there, in-range input t.low t.high)

    abbrev plan : List ℕ
    plan = take (plan_length input) input

    abbrev rest : List ℕ
    rest = drop (plan_length input) input

    pub stage-there : stage_after input ≡ stage_with (refusal plan) plan rest
    unfolding stage_after
    stage-there = rw (there-open, there-there)

    pub written-there : written_after input ≡ output_after (refusal plan) plan (whole_records rest)
    unfolding written_after
    written-there = rw (there-open, there-there)

    pub output-there : output input ≡ output_after (refusal plan) plan rest
    unfolding output
    output-there = rw there-there

-- ---- with more input

module _ (input more : List ℕ) where
  pub same-stated : 2 ≤ length input → plan_length (input ++ more) ≡ plan_length input
  same-stated two =
      (λ i. get_or-append input more 0 0 (omega arith) i + 256 * get_or-append input more 0 (0 + 1) (omega arith) i)

  pub never_on : Never input → Never (input ++ more)
  never_on n = record {
    two = omega (arith, n.two, length-append input more);
    out_of_range = ap (λ L. not (within 12 76 L)) (same-stated n.two) ∙ n.out_of_range;
  }

  module _ (t : There input) where
    stated : plan_length (input ++ more) ≡ plan_length input
    stated = same-stated (omega (arith, t.low, t.all))

    pub there-on : There (input ++ more)
    there-on = record {
      low = omega (arith, stated, t.low);
      high = omega (arith, stated, t.high);
      all = omega (arith, stated, t.all, length-append input more);
    }

    pub plan-on : take (plan_length (input ++ more)) (input ++ more) ≡ take (plan_length input) input
    plan-on = ap (λ L. take L (input ++ more)) stated ∙ take-append-le (plan_length input) input more t.all

    pub rest-on : drop (plan_length (input ++ more)) (input ++ more) ≡ drop (plan_length input) input ++ more
    rest-on = ap (λ L. drop L (input ++ more)) stated ∙ drop-append-le (plan_length input) input more t.all

-- the plan alone, and what comes after it
module _ (plan more : List ℕ) (t : There plan) (exact : plan_length plan ≡ length plan) where
  plan-alone : take (plan_length (plan ++ more)) (plan ++ more) ≡ plan
  plan-alone = plan-on plan more t ∙ ap (λ n. take n plan) exact ∙ take-length plan

  more-alone : drop (plan_length (plan ++ more)) (plan ++ more) ≡ more
  more-alone = rest-on plan more t ∙ ap (λ n. drop n plan ++ more) exact ∙ ap (◌++ more) (drop-length plan)

  pub stage-plan : stage_after (plan ++ more) ≡ stage_with (refusal plan) plan more
  stage-plan = stage-there (plan ++ more) (there-on plan more t) ∙ (λ i. stage_with (refusal (plan-alone i)) (plan-alone i) (more-alone i))

  pub written-plan : written_after (plan ++ more) ≡ output_after (refusal plan) plan (whole_records more)
  written-plan =
      written-there (plan ++ more) (there-on plan more t)
      ∙ (λ i. output_after (refusal (plan-alone i)) (plan-alone i) (whole_records (more-alone i)))

-- an open plan has fewer bytes than L, whatever more stands there
pub open-fewer : (input more : List ℕ) {both : List ℕ} → plan_open input ≡ true → both ≡ input ++ more → 2 ≤ plan_length both
    → length input < plan_length both
open-fewer input more {both} o is low = go (dec_le 2 (length input))
  where
    go : Dec (2 ≤ length input) → length input < plan_length both
    go (yes h) = omega (arith, open-below input o h, same-stated input more h, ap plan_length is)
    go (no h) = omega arith

-- an open plan takes a byte to be never a plan
pub some_byte : (input more : List ℕ) → plan_open input ≡ true → Never (input ++ more) → 0 < length more
some_byte input [] o n =
    let back : plan_open input ≡ false = ap plan_open (sym (append-nil input)) ∙ never-open (input ++ []) n in
    let z : ◌≡◌ {A = ℕ} 0 1 = cc in
    absurd (omega arith)
some_byte input (b ∷ more) o n = omega arith
