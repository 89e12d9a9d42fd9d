-- A link's image is read back as the link. Assumes nothing.
use Prim.Native.Nat.{ℕ, zero, suc, ◌+◌, ◌*◌, ◌≤◌, ◌<◌}
use mathlib.Core.Path.{◌≡◌, refl, sym, ap, ap₂, ◌∙◌, subst}
use mathlib.Core.List.{List, ◌∷◌, [], ◌++◌, map, flat_map, append_assoc, append-nil}
use mathlib.Core.Option.{Option, some, none}
use mathlib.Core.Bool.{Bool, true, false}
use native.Mathlib.Nat.{mul-le-mul_right}
use native.Mathlib.Omega.{arith}
use lib.ListN.{length, get_or, take, drop, length-append, length-map}
use lib.Seq.{ext_get_or, take_at, drop_at, get_or-drop}
use lib.Dec.{eqb}
use borrow.Author.Tests.{ltb-true, ne_eqb}
use Rattle.model.specs.Tables.{bit}
use Rattle.model.specs.Plan.{positions, flow_count, field16, plan_of}
use Rattle.model.specs.WrittenPlan.{bytes_of}
use Rattle.model.specs.Link.{Link, Flow, no_flow, owner, flow}
use Rattle.model.proofs.Tables.{get_d-table, length-table}
use Rattle.model.proofs.WrittenPlan.{length-is, read_back}
use Rattle.imagemodel.specs.Image.{fields, field_at, header_length, flow_fields, positions_at, flows_at, image_length, header, owner_field, flow_part, image_of}
use Rattle.imagemodel.specs.Image.{plan_part, plan_in, owner_in, flow_field, flow_in, link_from, link_in}
use Rattle.imagemodel.specs.Consistent.{known, Keepable}
use Rattle.imagemodel.proofs.Fields.{length_fields, Stands, stand-behind, Even, parts-length, parts_at}
use Rattle.imagemodel.proofs.FlowParts.{part_length, part_held, part-number}

-- an owner is read back
owner-again : (n : ℕ) → n ≤ 16 → (o : Option ℕ) → known n o ≡ true → owner_in (owner_field o) ≡ o
owner-again n most none e = refl
owner-again n most (some i) e = let lt = ltb-true i n e in rw (ne_eqb i 16 (λ z. omega arith))

-- below the length the default is not looked at
number_of : (os : List (Option ℕ)) (p : ℕ) → p < length os → get_or (map owner_field os) p 0 ≡ owner_field (get_or os p none)
number_of [] p lt = absurd (omega arith)
number_of (o ∷ os) zero lt = refl
number_of (o ∷ os) (suc p) lt = number_of os p (omega arith)

mark-again : (b : Bool) → eqb (bit b) 1 ≡ b
mark-again true = refl
mark-again false = refl

module _ {l : Link} (v : Keepable l) where
  open l use {plan as P}

  abbrev T : ℕ
  T = positions P

  abbrev n : ℕ
  n = flow_count P

  abbrev owner_numbers : List ℕ
  owner_numbers = map owner_field l.owners

  abbrev flow_numbers : List ℕ
  flow_numbers = flat_map flow_part l.flows

  owners-length : length owner_numbers ≡ T
  owners-length = length-map l.owners owner_field ∙ v.whole.owners_long

  even : Even flow_part no_flow (flow_fields P) l.flows
  even i lt = let e = v.whole.held_long i (omega (arith, v.whole.flows_long)) in omega (arith, part_length (flow l i))

  flows-length : length flow_numbers ≡ n * flow_fields P
  flows-length = parts-length flow_part no_flow (flow_fields P) l.flows even ∙ ap (◌* flow_fields P) v.whole.flows_long

  -- what stands before the plan, before the positions and before the flows

  abbrev before_plan : List ℕ
  before_plan = fields (header l)

  abbrev before_positions : List ℕ
  before_positions = before_plan ++ bytes_of P

  abbrev before_flows : List ℕ
  before_flows = before_positions ++ fields owner_numbers

  before-plan : length before_plan ≡ header_length
  before-plan = length_fields (header l)

  before-positions : length before_positions ≡ positions_at P
  before-positions = omega (arith, length-append before_plan (bytes_of P), before-plan, length-is P)

  before-flows : length before_flows ≡ flows_at P
  before-flows =
      omega (arith, length-append before_positions (fields owner_numbers), before-positions, length_fields owner_numbers, owners-length)

  pub image-length : length (image_of l) ≡ image_length P
  unfolding image_of
  image-length = omega (arith, length-append before_flows (fields flow_numbers), before-flows, length_fields flow_numbers, flows-length)

  -- ---- the image in a buffer, with any bytes past it

  module _ (rest : List ℕ) where
    abbrev b : List ℕ
    b = image_of l ++ rest

    -- the bytes from the positions on, and from the flows on
    abbrev from_flows : List ℕ
    from_flows = fields flow_numbers ++ rest

    abbrev from_positions : List ℕ
    from_positions = fields owner_numbers ++ from_flows

    abbrev from_plan : List ℕ
    from_plan = bytes_of P ++ from_positions

    at-flows : b ≡ before_flows ++ from_flows
    unfolding image_of
    at-flows = append_assoc before_flows (fields flow_numbers) rest

    at-positions : b ≡ before_positions ++ from_positions
    at-positions = at-flows ∙ append_assoc before_positions (fields owner_numbers) from_flows

    at-plan : b ≡ before_plan ++ from_plan
    at-plan = at-positions ∙ append_assoc before_plan (bytes_of P) from_positions

    -- ---- the fields

    pub header-stands : Stands b 0 (header l)
    header-stands = subst (λ c. Stands c 0 (header l)) (sym at-plan) (stand-behind [] (header l) from_plan 0 refl)

    owners-stand : Stands b (positions_at P) owner_numbers
    owners-stand =
        subst (λ c. Stands c (positions_at P) owner_numbers) (sym at-positions)
        (stand-behind before_positions owner_numbers from_flows (positions_at P) before-positions)

    flows-stand : Stands b (flows_at P) flow_numbers
    flows-stand =
        subst (λ c. Stands c (flows_at P) flow_numbers) (sym at-flows) (stand-behind before_flows flow_numbers rest (flows_at P) before-flows)

    -- ---- the plan

    past-header : drop header_length b ≡ from_plan
    past-header = ap (drop header_length) at-plan ∙ drop_at before_plan from_plan header_length before-plan

    stated : field16 b header_length ≡ 12 + 4 * n
    unfolding bytes_of
    stated =
        let byte : (k : ℕ) → get_or b (header_length + k) 0 ≡ get_or from_plan k 0 =
        λ k. sym (get_or-drop header_length b k 0) ∙ ap (λ c. get_or c k 0) past-header in
        omega (arith, byte 0, byte 1)

    pub plan-stands : plan_part b ≡ bytes_of P
    plan-stands = ap₂ take stated past-header ∙ take_at (bytes_of P) from_positions (12 + 4 * n) (length-is P)

    pub plan-again : plan_in b ≡ P
    plan-again = ap plan_of plan-stands ∙ read_back P

    -- ---- the tables

    owners-again : (link_from b P).owners ≡ l.owners
    owners-again = ext_get_or none (link_from b P).owners l.owners (length-table T _ ∙ sym v.whole.owners_long) each
      where
        each : (p : ℕ) → p < length (link_from b P).owners → get_or (link_from b P).owners p none ≡ owner l p
        each p lt =
            let below : p < T = omega (arith, length-table T (λ p. owner_in (field_at b (positions_at P) p))) in
            get_d-table T _ p none below
            ∙ ap owner_in (owners-stand.number p (omega (arith, owners-length)) ∙ number_of l.owners p (omega (arith, v.whole.owners_long)))
            ∙ owner-again n v.accepted.flows_most (owner l p) (v.consistent.owners_known p below)

    module _ (i : ℕ) (lt : i < n) where
      abbrev x : Flow
      x = flow l i

      -- field k of flow i's part
      part-stands : (k : ℕ) → k < flow_fields P → flow_field b P i k ≡ get_or (flow_part x) k 0
      part-stands k below =
          let there : i * flow_fields P + k < n * flow_fields P = omega (arith, mul-le-mul_right (flow_fields P) lt) in
          flows-stand.number (i * flow_fields P + k) (omega (arith, flows-length))
          ∙ parts_at flow_part no_flow (flow_fields P) l.flows even i k (omega (arith, v.whole.flows_long)) below

      held-again : (flow_in b P i).held ≡ x.held
      held-again = ext_get_or 0 (flow_in b P i).held x.held (length-table T _ ∙ sym (v.whole.held_long i lt)) each
        where
          each : (p : ℕ) → p < length (flow_in b P i).held → get_or (flow_in b P i).held p 0 ≡ get_or x.held p 0
          each p below =
              let p-below : p < T = omega (arith, length-table T (λ p. flow_field b P i (2 + p))) in
              get_d-table T _ p 0 p-below ∙ part-stands (2 + p) (omega arith) ∙ part_held x p (omega (arith, v.whole.held_long i lt))

      flow-again : flow_in b P i ≡ x
      flow-again =
          let injection = part-stands 0 (omega arith) in
          let remainder = part-stands 1 (omega arith) in
          let number = part-stands (2 + T) (omega arith) ∙ part-number x T (v.whole.held_long i lt) in
          λ k. record { injection = injection k; remainder = remainder k; held = held-again k; number = number k }

    flows-again : (link_from b P).flows ≡ l.flows
    flows-again = ext_get_or no_flow (link_from b P).flows l.flows (length-table n _ ∙ sym v.whole.flows_long) each
      where
        each : (i : ℕ) → i < length (link_from b P).flows → get_or (link_from b P).flows i no_flow ≡ flow l i
        each i below =
            let lt : i < n = omega (arith, length-table n (flow_in b P)) in
            get_d-table n (flow_in b P) i no_flow lt ∙ flow-again i lt

    -- ---- the link

    pub read-link : link_in b ≡ l
    unfolding link_in
    read-link = ap (link_from b) plan-again ∙ same
      where
        same : link_from b P ≡ l
        same =
            let current = header-stands.number 6 (omega arith) in
            let marked = ap (λ x. eqb x 1) (header-stands.number 7 (omega arith)) ∙ mark-again l.marked in
            let turn-again = header-stands.number 8 (omega arith) in
            λ k. record { plan = P; current = current k; owners = owners-again k; flows = flows-again k; marked = marked k; turn = turn-again k }

-- without bytes past it
pub read-image : {l : Link} → Keepable l → link_in (image_of l) ≡ l
read-image {l} v = ap link_in (sym (append-nil (image_of l))) ∙ read-link v []

-- two links with one image are one link
pub one-image : {l k : Link} → Keepable l → Keepable k → image_of l ≡ image_of k → l ≡ k
one-image v u e = sym (read-image v) ∙ ap link_in e ∙ read-image u
