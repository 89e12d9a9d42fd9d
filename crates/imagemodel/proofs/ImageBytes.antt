-- The image of a link that meets the conditions is made of bytes: every number fits its 16 bits. Assumes nothing.
use Prim.Native.Nat.{ℕ, zero, suc, ◌≤◌, ◌<◌}
use mathlib.Core.Path.{◌≡◌}
use mathlib.Core.List.{List, ◌∷◌, [], ◌++◌, map, flat_map}
use mathlib.Core.Option.{Option, some, none}
use mathlib.Core.Bool.{true}
use native.Mathlib.Nat.{mul-le-mul}
use native.Mathlib.Omega.{arith}
use lib.ListN.{length, get_or}
use borrow.Author.Tests.{ltb-true}
use Rattle.model.specs.Plan.{flow_count}
use Rattle.model.specs.WrittenPlan.{bytes_of, AllBytes}
use Rattle.model.specs.Link.{Link, Flow, no_flow, owner, flow}
use Rattle.model.proofs.Tallies.{All}
use Rattle.model.proofs.WriteRefusals.{accepted-fits, same-refusals}
use Rattle.imagemodel.specs.Image.{fields, flow_fields, image_length, header, owner_field, flow_part, image_of}
use Rattle.imagemodel.specs.Consistent.{known, Keepable}
use Rattle.imagemodel.proofs.ImageValid.{bit-most}

-- ---- lists of numbers that fit

abbrev Fit : ℕ → Type 0
Fit x = x < 65536

-- what holds of each element by its place
all_of : {A : Type 0} (Q : A → Type 0) (d : A) (xs : List A) → ((i : ℕ) → i < length xs → Q (get_or xs i d)) → All Q xs
all_of Q d [] h = tt
all_of Q d (x ∷ xs) h = (h 0 (omega arith), all_of Q d xs (λ i lt. h (suc i) (omega arith)))

all_append : (xs ys : List ℕ) → All Fit xs → All Fit ys → All Fit (xs ++ ys)
all_append [] ys a b = b
all_append (x ∷ xs) ys a b = (a.0, all_append xs ys a.1 b)

all-flat : (xs : List Flow) → All (λ x. All Fit (flow_part x)) xs → All Fit (flat_map flow_part xs)
unfolding flat_map
all-flat [] a = tt
all-flat (x ∷ xs) a = all_append (flow_part x) (flat_map flow_part xs) a.0 (all-flat xs a.1)

all-owners : (os : List (Option ℕ)) → All (λ o. Fit (owner_field o)) os → All Fit (map owner_field os)
all-owners [] a = tt
all-owners (o ∷ os) a = (a.0, all-owners os a.1)

-- ---- bytes

one_byte : {x : ℕ} {xs : List ℕ} → x < 256 → AllBytes xs → AllBytes (x ∷ xs)
one_byte {x} {xs} h bytes = record { byte = go }
  where
    go : (i : ℕ) → get_or (x ∷ xs) i 0 < 256
    go zero = h
    go (suc i) = bytes.byte i

bytes-append : (xs : List ℕ) {ys : List ℕ} → AllBytes xs → AllBytes ys → AllBytes (xs ++ ys)
bytes-append [] a b = b
bytes-append (x ∷ xs) a b = one_byte (a.byte 0) (bytes-append xs (record { byte = λ i. a.byte (suc i) }) b)

fields-bytes : (xs : List ℕ) → All Fit xs → AllBytes (fields xs)
unfolding fields flat_map
fields-bytes [] a = record { byte = λ i. omega arith }
fields-bytes (x ∷ xs) a = let fit = a.0 in one_byte (omega arith) (one_byte (omega arith) (fields-bytes xs a.1))

-- ---- the image

module _ {l : Link} (v : Keepable l) where
  open l use {plan as P}
  open v use {accepted as ok}

  owner-fits : (o : Option ℕ) → known (flow_count P) o ≡ true → Fit (owner_field o)
  owner-fits none e = omega arith
  owner-fits (some i) e = omega (arith, ltb-true i (flow_count P) e, ok.flows_most)

  flow-fits : (i : ℕ) → i < flow_count P → All Fit (flow_part (flow l i))
  flow-fits i lt =
      let f = v.consistent.each_flow i lt in
      let e = ok.entries_fit i lt in
      let long = v.whole.held_long i lt in
      let injection : Fit (flow l i).injection = omega (arith, f.injection_below, ok.frames_most) in
      let remainder : Fit (flow l i).remainder = omega (arith, f.spent, e.share_most, ok.slots_most) in
      let number : Fit (flow l i).number = omega (arith, f.number_below) in
      let held = all_of Fit 0 (flow l i).held (λ p below. omega (arith, f.within_cells p (omega arith), e.cells_most)) in
      (injection, (remainder, all_append (flow l i).held ((flow l i).number ∷ []) held (number, tt)))

  size_fits : Fit (image_length P)
  size_fits =
      let fields-most : flow_fields P ≤ 259 = omega (arith, ok.positions_most) in
      omega (arith, ok.flows_most, ok.positions_most, mul-le-mul ok.flows_most fields-most)

  header-fits : All Fit (header l)
  header-fits = omega (arith, size_fits, v.consistent.current_below, bit-most l.marked)

  pub image-bytes : AllBytes (image_of l)
  unfolding image_of
  image-bytes =
      bytes-append (fields (header l) ++ bytes_of P ++ fields owners)
      (bytes-append (fields (header l) ++ bytes_of P) (bytes-append (fields (header l)) (fields-bytes (header l) header-fits) plan)
      (fields-bytes owners owners-fit))
      (fields-bytes (flat_map flow_part l.flows) flows-fit)
    where
      owners : List ℕ
      owners = map owner_field l.owners

      plan : AllBytes (bytes_of P)
      plan = (same-refusals P (accepted-fits P ok)).bytes

      owners-fit : All Fit owners
      owners-fit =
          all-owners l.owners (all_of (λ o. Fit (owner_field o)) none l.owners
          (λ p lt. owner-fits (owner l p) (v.consistent.owners_known p (omega (arith, v.whole.owners_long)))))

      flows-fit : All Fit (flat_map flow_part l.flows)
      flows-fit =
          all-flat l.flows (all_of (λ x. All Fit (flow_part x)) no_flow l.flows (λ i lt. flow-fits i (omega (arith, v.whole.flows_long))))
