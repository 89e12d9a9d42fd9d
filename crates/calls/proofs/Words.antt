-- The call of a record, by its kind and its word. Assumes nothing.
use Rattle.std.proofs.Common.{ℕ, ◌≡◌, ◌+◌, ◌*◌, ◌/◌, ◌%◌, ◌≤◌, ◌<◌, Bool, true, false, ◌&&◌, cond, List, length, get_or, take, drop, eqb, ltb, ◌∙◌, refl, arith, lt-ltb, le-ltb, ne_eqb, ◌≢◌, Fits, w8}
use Rattle.std.proofs.Math.Option.{Option, some, none}
use native.Mathlib.Decide.{dec_lt}
use Rattle.model.specs.Plan.{field16}
use Rattle.model.specs.Record.{RecordCall, field32, call_of}
use Rattle.model.proofs.Records.{call_at, no-call-at}

abbrev pub call_by : (kind word : ℕ) → Option RecordCall
call_by kind word =
    cond (eqb kind 1) (some (RecordCall.request word))
    (cond (eqb kind 2 && ltb word 16777216) (some (RecordCall.credit (word % 256) (word / 256))) (cond (eqb kind 3 && eqb word 0) (some RecordCall.tick) none))

skipped : (s t : Bool) (w x y rest : Option RecordCall) → cond s w (cond (t && false) x rest) ≡ cond s w (cond (t && false) y rest)
skipped s true w x y rest = refl
skipped s false w x y rest = refl

-- a credit's flow and position are its word, where its filler is 0
by_parts : (k w a p d : ℕ) → a < 256 → p < 65536 → w ≡ a + 256 * p + 16777216 * d
    → cond (eqb k 1) (some (RecordCall.request w)) (cond (eqb k 2 && eqb d 0) (some (RecordCall.credit a p)) (cond (eqb k 3 && eqb w 0) (some RecordCall.tick) none))
    ≡ call_by k w
by_parts k w a p d a_byte low e = go (dec_lt w 16777216)
  where
    go : Dec (w < 16777216)
        → cond (eqb k 1) (some (RecordCall.request w)) (cond (eqb k 2 && eqb d 0) (some (RecordCall.credit a p)) (cond (eqb k 3 && eqb w 0) (some RecordCall.tick) none))
        ≡ call_by k w
    go (yes h) =
        let z : d ≡ 0 = omega arith in
        let flow : w % 256 ≡ a = omega arith in
        let position : w / 256 ≡ p = omega arith in
        rw (z, flow, position, lt-ltb _ _ h) refl
    go (no h) = let z : d ≢ 0 = omega arith in rw (ne_eqb d 0 z, le-ltb w 16777216 (omega arith)) (skipped (eqb k 1) (eqb k 2) _ _ _ _)

pub call_by_word : (b : List ℕ) (at : ℕ) → at + 5 ≤ length b → ((k : ℕ) → Fits w8 (get_or b k 0))
    → call_of (take 5 (drop at b)) ≡ call_by (get_or b at 0) (field32 b (at + 1))
call_by_word b at h bytes =
    call_at b at h
    ∙ by_parts (get_or b at 0) (field32 b (at + 1)) (get_or b (at + 1) 0) (field16 b (at + 2)) (get_or b (at + 4) 0) (omega (arith, bytes (at + 1)))
    (omega (arith, bytes (at + 2), bytes (at + 2 + 1))) (word-is b at)
  where
    word-is : (b : List ℕ) (at : ℕ) → field32 b (at + 1) ≡ get_or b (at + 1) 0 + 256 * field16 b (at + 2) + 16777216 * get_or b (at + 4) 0
    word-is b at =
        let second : at + 1 + 1 ≡ at + 2 = omega arith in
        let third : at + 1 + 2 ≡ at + 3 = omega arith in
        let after : at + 2 + 1 ≡ at + 3 = omega arith in
        let last : at + 3 + 1 ≡ at + 4 = omega arith in
        rw (second, third, after, last) (omega arith)

pub none_of_few : (b : List ℕ) (at : ℕ) → length b < at + 5 → call_of (take 5 (drop at b)) ≡ none
none_of_few = no-call-at
