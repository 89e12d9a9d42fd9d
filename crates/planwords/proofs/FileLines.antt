-- The line of a plan that is written: its bytes or the refusal, and where the buffer's size makes no difference. Assumes nothing.
use Prim.Native.Nat.{ℕ, zero, suc, ◌-◌, ◌%◌, ◌≤◌, ◌<◌, min}
use mathlib.Core.Path.{◌≡◌, refl, sym, ap, ◌∙◌}
use mathlib.Core.List.{List, ◌∷◌, [], ◌++◌}
use mathlib.Core.Bool.{false, and-false}
use native.Mathlib.Decide.{dec_le}
use native.Mathlib.Omega.{arith}
use lib.ListN.{length, get_or, take, drop, replicate, length-drop, length-replicate}
use lib.Seq.{take_at, take_all}
use lib.Dec.{ltb}
use borrow.Author.Tests.{lt-leb, lt-ltb, le-ltb, eq-eqb, ne_eqb}
use Rattle.model.specs.Refusals.{first_of, ◌when◌}
use Rattle.model.specs.Plan.{Plan, flow_count}
use Rattle.model.specs.Calls.{accepted, refused}
use Rattle.model.specs.WrittenPlan.{bytes_of, number_tests, write_refusal, written_after, written}
use Rattle.model.proofs.Tables.{length-table}
use Rattle.model.proofs.WrittenPlan.{length-is}
use Rattle.limits.specs.declared.Draft.{Draft}
use Rattle.limits.specs.Reading.{draft_for}
use Rattle.replies.specs.Lines.{cannot}
use Rattle.planwords.specs.Plans.{flows_asked, entry_asked, plan_asked, file_line, in_room, answer_to_room}
use Rattle.planwords.specs.Drafts.{WholeFlows, draft_asked}
use Rattle.planwords.proofs.DraftsAsked.{draft-is}

-- ---- what the writer answers and leaves

module _ (P : Plan) (b : List ℕ) where
  -- the bytes written are the plan's, and stand first in the buffer
  pub written-first : (n : ℕ) → accepted n ≡ (written P b).answer → take n (written P b).out ≡ bytes_of P
  unfolding written written_after
  written-first n e = go (write_refusal P b) e
    where
      go : (r : ℕ) → accepted n ≡ (written_after r P b).answer → take n (written_after r P b).out ≡ bytes_of P
      go zero p = let many : length (bytes_of P) ≡ n = cc in take_at (bytes_of P) (drop (length (bytes_of P)) b) n many
      go (suc r) p = let z : ◌≡◌ {A = ℕ} 0 1 = cc in absurd (omega arith)

  -- more than sixteen flows are refused with 2
  many-refused : 16 < flow_count P → (written P b).answer ≡ refused 2
  unfolding written written_after write_refusal first_of
  many-refused h = rw (lt-leb (flow_count P) 16 h, and-false)

-- the answer asks of the buffer only whether the plan has room
answer-after : (r : ℕ) (P : Plan) (b c : List ℕ) → (written_after r P b).answer ≡ (written_after r P c).answer
unfolding written_after
answer-after zero P b c = refl
answer-after (suc r) P b c = refl

roomy : (P : Plan) (b : List ℕ) → flow_count P ≤ 16 → 76 ≤ length b → ltb (length b) (length (bytes_of P)) ≡ false
roomy P b few long = le-ltb (length b) (length (bytes_of P)) (omega (arith, length-is P))

same-refusal : (P : Plan) (b c : List ℕ) → ltb (length b) (length (bytes_of P)) ≡ ltb (length c) (length (bytes_of P)) → write_refusal P b ≡ write_refusal P c
unfolding write_refusal
same-refusal P b c e = ap (λ t. first_of (number_tests P ++ (19 when t ∷ []))) e

-- a buffer of 76 bytes is as good as a longer one
pub no-more-room : (P : Plan) (b c : List ℕ) → 76 ≤ length b → 76 ≤ length c → (written P b).answer ≡ (written P c).answer
unfolding written
no-more-room P b c hb hc = go (dec_le (flow_count P) 16)
  where
    go : Dec (flow_count P ≤ 16) → (written P b).answer ≡ (written P c).answer
    go (yes few) =
        ap (λ r. (written_after r P b).answer) (same-refusal P b c (roomy P b few hb ∙ sym (roomy P c few hc))) ∙ answer-after (write_refusal P c) P b c
    go (no many) = many-refused P b (omega arith) ∙ sym (many-refused P c (omega arith))

-- ---- numbers that ask for a plan

-- the draft's line is the line of the plan that is asked for, in any buffer
pub asked-line : (numbers b : List ℕ)
    → file_line (written (draft_for (draft_asked numbers)) b).answer (draft_for (draft_asked numbers)) ≡ file_line (written (plan_asked numbers) b).answer (plan_asked numbers)
unfolding draft_asked
asked-line numbers b = go (dec_le (flows_asked numbers) 16)
  where
    D : Plan
    D = draft_for (draft_asked numbers)

    go : Dec (flows_asked numbers ≤ 16) → file_line (written D b).answer D ≡ file_line (written (plan_asked numbers) b).answer (plan_asked numbers)
    go (yes few) = ap (λ P. file_line (written P b).answer P) (draft-is numbers few)
    go (no many) =
        let flows : flow_count D ≡ flows_asked numbers = length-table (flows_asked numbers) _ in
        let asked : flow_count (plan_asked numbers) ≡ flows_asked numbers = length-table (flows_asked numbers) (entry_asked numbers) in
        ap (λ a. file_line a D) (many-refused D b (omega arith))
        ∙ sym (ap (λ a. file_line a (plan_asked numbers)) (many-refused (plan_asked numbers) b (omega arith)))

-- ---- the buffer

pub first-zeros : (n m : ℕ) → n ≤ m → take {A = ℕ} n (replicate m 0) ≡ replicate n 0
first-zeros zero m h = refl
first-zeros (suc n) zero h = absurd (omega arith)
first-zeros (suc n) (suc m) h = ap (0 ∷◌) (first-zeros n m (omega arith))

-- a buffer of some size, and one of as much of it as makes a difference
pub useful-room : (P : Plan) (size : ℕ) → (written P (replicate (min size 76) 0)).answer ≡ (written P (replicate size 0)).answer
useful-room P size = go (dec_le size 76)
  where
    go : Dec (size ≤ 76) → (written P (replicate (min size 76) 0)).answer ≡ (written P (replicate size 0)).answer
    go (yes h) = let same : min size 76 ≡ size = omega arith in ap (λ k. (written P (replicate k 0)).answer) same
    go (no h) =
        no-more-room P (replicate (min size 76) 0) (replicate size 0)
        (omega (arith, length-replicate {A = ℕ} (min size 76) 0)) (omega (arith, length-replicate {A = ℕ} size 0))

-- ---- the words

module _ (size : ℕ) (numbers : List ℕ) where
  pub header-missing : length numbers < 3 → cannot "F, W or N is missing" ≡ in_room size numbers
  unfolding in_room
  header-missing h = rw (lt-ltb (length numbers) 3 h)

  pub no-fours : 3 ≤ length numbers → ((length numbers - 3) % 4 ≡ 0 → ⊥)
      → cannot "each flow has a share, cells, a source and a destination: the numbers after N are no multiple of four" ≡ in_room size numbers
  unfolding in_room
  no-fours h n = rw (le-ltb (length numbers) 3 h, ne_eqb ((length numbers - 3) % 4) 0 n)

  pub whole : WholeFlows numbers → file_line (written (plan_asked numbers) (replicate size 0)).answer (plan_asked numbers) ≡ in_room size numbers
  unfolding in_room
  whole w = rw (le-ltb (length numbers) 3 w.header, eq-eqb ((length numbers - 3) % 4) 0 w.fours)

  -- the draft, written into the start of 76 zeros
  pub asked-in-room : WholeFlows numbers → (d : Draft) (end : ℕ) → d ≡ draft_asked numbers → end ≡ min size 76
      → file_line (written (draft_for d) (take end (replicate 76 0))).answer (draft_for d) ≡ in_room size numbers
  asked-in-room w d end e f =
      let zeros : take {A = ℕ} end (replicate 76 0) ≡ replicate (min size 76) 0 = first-zeros end 76 (omega arith) ∙ ap (λ k. replicate k 0) f in
      (λ i. file_line (written (draft_for (e i)) (zeros i)).answer (draft_for (e i))) ∙ asked-line numbers (replicate (min size 76) 0)
      ∙ ap (λ a. file_line a (plan_asked numbers)) (useful-room (plan_asked numbers) size) ∙ whole w

module _ (numbers : List ℕ) where
  pub size-missing : length numbers ≡ 0 → cannot "the buffer's size is missing" ≡ answer_to_room numbers
  unfolding answer_to_room
  size-missing e = rw (eq-eqb (length numbers) 0 e)

  pub size-given : (length numbers ≡ 0 → ⊥) → in_room (get_or numbers 0 0) (take (length numbers - 1) (drop 1 numbers)) ≡ answer_to_room numbers
  unfolding answer_to_room
  size-given n =
      ap (in_room (get_or numbers 0 0)) (take_all (length numbers - 1) (drop 1 numbers) (omega (arith, length-drop 1 numbers)))
      ∙ rw (ne_eqb (length numbers) 0 n)
