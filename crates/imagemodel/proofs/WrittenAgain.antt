-- An image that is taken, read and written again is the same bytes. Assumes nothing.
use Prim.Native.Nat.{ℕ, zero, suc, ◌+◌, ◌*◌, ◌/◌, ◌%◌, ◌≤◌, ◌<◌}
use mathlib.Core.Path.{◌≡◌, refl, sym, ap, ◌∙◌, subst}
use mathlib.Core.List.{List, ◌∷◌, [], ◌++◌, map, flat_map}
use mathlib.Core.Option.{some, none}
use mathlib.Core.Bool.{Bool, true, false, cond}
use native.Mathlib.Nat.{mod-lt, div-add-mod', div-lt_iff_lt-mul}
use native.Mathlib.Decide.{dec_lt}
use native.Mathlib.Omega.{arith}
use lib.ListN.{length, get_or, take, drop, length-map}
use lib.Seq.{get_or-drop, take-add}
use lib.Dec.{eqb}
use borrow.Author.Tests.{eqb-true}
use Rattle.model.specs.Tables.{table, bit}
use Rattle.model.specs.Plan.{Plan, positions, flow_count, field16}
use Rattle.model.specs.WrittenPlan.{bytes_of, AllBytes}
use Rattle.model.specs.Link.{Flow, no_flow}
use Rattle.model.proofs.Tables.{get_d-table, length-table}
use Rattle.model.proofs.WrittenPlan.{length-is, written-again}
use Rattle.imagemodel.specs.Image.{fields, field_at, header_length, flow_fields, positions_at, flows_at, image_length, header, owner_field, flow_part, image_of}
use Rattle.imagemodel.specs.Image.{state_field, plan_part, plan_in, owner_in, flow_field, flow_in, link_in}
use Rattle.imagemodel.specs.ValidImage.{ValidImage}
use Rattle.imagemodel.specs.Chain.{image_in}
use Rattle.imagemodel.proofs.FlowParts.{part_length, part_held, part-number}
use Rattle.imagemodel.proofs.Fields.{Stands, stands-nothing, stands_one, fields-again, Even, parts-length, parts_at}

-- ---- bytes of a part of the buffer

-- as many as are there
take-there : (n : ℕ) (xs : List ℕ) → take (length (take n xs)) xs ≡ take n xs
take-there zero xs = refl
take-there (suc n) [] = refl
take-there (suc n) (x ∷ xs) = ap (x ∷◌) (take-there n xs)

byte-default : (xs : List ℕ) (n i : ℕ) → ((j : ℕ) → get_or xs j 0 < 256) → get_or (take n xs) i 0 < 256
byte-default xs zero i h = omega arith
byte-default [] (suc n) i h = omega arith
byte-default (x ∷ xs) (suc n) zero h = h 0
byte-default (x ∷ xs) (suc n) (suc i) h = byte-default xs n i (λ j. h (suc j))

part_bytes : (b : List ℕ) (at n : ℕ) → AllBytes b → AllBytes (take n (drop at b))
part_bytes b at n bytes = record {
  byte = λ i. byte-default (drop at b) n i (λ j. subst (◌< 256) (sym (get_or-drop at b j 0)) (bytes.byte (at + j)));
}

-- ---- numbers that are read

owner-number : (x : ℕ) → owner_field (owner_in x) ≡ x
owner-number x = go (eqb x 16) refl
  where
    go : (b : Bool) → eqb x 16 ≡ b → owner_field (cond b none (some x)) ≡ x
    go true e = sym (eqb-true x 16 e)
    go false e = refl

mark-number : (x : ℕ) → x ≤ 1 → bit (eqb x 1) ≡ x
mark-number zero h = refl
mark-number (suc zero) h = refl
mark-number (suc (suc x)) h = absurd (omega arith)

number_in : (n : ℕ) (f : ℕ → ℕ) (k : ℕ) → k < n → get_or (map owner_field (table n (λ p. owner_in (f p)))) k 0 ≡ f k
number_in zero f k lt = absurd (omega arith)
number_in (suc n) f zero lt = owner-number (f 0)
number_in (suc n) f (suc k) lt = number_in n (λ p. f (suc p)) k (omega arith)

module _ {b : List ℕ} (v : ValidImage b) (bytes : AllBytes b) where
  abbrev P : Plan
  P = plan_in b

  abbrev T : ℕ
  T = positions P

  abbrev n : ℕ
  n = flow_count P

  long : image_length P ≤ length b
  long = omega (arith, v.total_is, v.image_there)

  -- ---- the header

  header-stands : Stands b 0 (header (link_in b))
  unfolding link_in
  header-stands =
      stands_one v.total_is (stands_one v.plan_offset_is (stands_one v.positions_offset_is (stands_one v.positions_are
      (stands_one v.flows_offset_is (stands_one v.flows_are (stands_one refl
      (stands_one (sym (mark-number (state_field b 1) v.mark_is_bit)) (stands_one refl stands-nothing))))))))

  header-again : fields (header (link_in b)) ≡ take header_length b
  header-again = fields-again b bytes (header (link_in b)) 0 v.header_there header-stands

  -- ---- the plan

  plan-again : bytes_of P ≡ take (12 + 4 * n) (drop header_length b)
  plan-again =
      let stated = field16 b header_length in
      let same = written-again (plan_part b) v.plan_passes (part_bytes b header_length stated bytes) in
      let size = sym (ap length same) ∙ length-is P in
      same ∙ sym (take-there stated (drop header_length b)) ∙ ap (λ m. take m (drop header_length b)) size

  -- ---- the owners

  abbrev owners : List ℕ
  owners = map owner_field (table T (λ p. owner_in (field_at b (positions_at P) p)))

  owners-length : length owners ≡ T
  owners-length = length-map (table T (λ p. owner_in (field_at b (positions_at P) p))) owner_field ∙ length-table T _

  owners-again : fields owners ≡ take (2 * T) (drop (positions_at P) b)
  owners-again =
      fields-again b bytes owners (positions_at P) (omega (arith, owners-length, long))
      (record { number = λ k lt. sym (number_in T (field_at b (positions_at P)) k (omega (arith, owners-length))) })
      ∙ ap (λ m. take (2 * m) (drop (positions_at P) b)) owners-length

  -- ---- the flows

  abbrev flows_read : List Flow
  flows_read = table n (flow_in b P)

  abbrev m : ℕ
  m = flow_fields P

  held_long : (i : ℕ) → length (flow_in b P i).held ≡ T
  held_long i = length-table T (λ p. flow_field b P i (2 + p))

  even : Even flow_part no_flow m flows_read
  even i lt =
      let below : i < n = omega (arith, length-table n (flow_in b P)) in
      ap (λ x. length (flow_part x)) (get_d-table n (flow_in b P) i no_flow below) ∙ part-long
    where
      part-long : length (flow_part (flow_in b P i)) ≡ m
      part-long = omega (arith, part_length (flow_in b P i), held_long i)

  part_at : (i j : ℕ) → j < m → get_or (flow_part (flow_in b P i)) j 0 ≡ flow_field b P i j
  part_at i zero lt = refl
  part_at i (suc zero) lt = refl
  part_at i (suc (suc p)) lt = ap (λ k. get_or (flow_part (flow_in b P i)) k 0) two ∙ go (dec_lt p T) ∙ ap (flow_field b P i) (sym two)
    where
      two : suc (suc p) ≡ 2 + p
      two = omega arith

      go : Dec (p < T) → get_or (flow_part (flow_in b P i)) (2 + p) 0 ≡ flow_field b P i (2 + p)
      go (yes below) = part_held (flow_in b P i) p (omega (arith, held_long i)) ∙ get_d-table T (λ p. flow_field b P i (2 + p)) p 0 below
      go (no past) =
          let last : 2 + p ≡ 2 + T = omega arith in
          ap (λ k. get_or (flow_part (flow_in b P i)) k 0) last ∙ part-number (flow_in b P i) T (held_long i) ∙ ap (flow_field b P i) (sym last)

  abbrev flows : List ℕ
  flows = flat_map flow_part flows_read

  flows-length : length flows ≡ n * m
  flows-length = parts-length flow_part no_flow m flows_read even ∙ ap (◌* m) (length-table n (flow_in b P))

  flows-stand : Stands b (flows_at P) flows
  flows-stand = record { number = number }
    where
      number : (k : ℕ) → k < length flows → field_at b (flows_at P) k ≡ get_or flows k 0
      number k lt =
          let i = k / m in
          let j = k % m in
          let there : i * m + j ≡ k = div-add-mod' k m in
          let j-below : j < m = mod-lt k (omega arith) in
          let some : 0 < m = omega arith in
          let i-below : i < n = (div-lt_iff_lt-mul some).1 (omega (arith, flows-length)) in
          ap (field_at b (flows_at P)) (sym there)
          ∙ sym (part_at i j j-below)
          ∙ ap (λ x. get_or (flow_part x) j 0) (sym (get_d-table n (flow_in b P) i no_flow i-below))
          ∙ sym (parts_at flow_part no_flow m flows_read even i j (omega (arith, length-table n (flow_in b P))) j-below)
          ∙ ap (λ q. get_or flows q 0) there

  flows-again : fields flows ≡ take (2 * (n * m)) (drop (flows_at P) b)
  flows-again =
      fields-again b bytes flows (flows_at P) (omega (arith, flows-length, long)) flows-stand
      ∙ ap (λ x. take (2 * x) (drop (flows_at P) b)) flows-length

  -- ---- the image

  pub image-again : image_of (link_in b) ≡ image_in b
  unfolding image_of link_in
  image-again =
      (λ k. header-again k ++ plan-again k ++ owners-again k ++ flows-again k)
      ∙ ap (λ x. x ++ take (2 * T) (drop (positions_at P) b) ++ take (2 * (n * m)) (drop (flows_at P) b)) (sym (take-add header_length (12 + 4 * n) b))
      ∙ ap (λ x. x ++ take (2 * (n * m)) (drop (flows_at P) b)) (sym (take-add (positions_at P) (2 * T) b))
      ∙ sym (take-add (flows_at P) (2 * (n * m)) b)
      ∙ ap (λ x. take x b) (sym v.total_is)
