-- The image of a link that meets the conditions is taken, whatever stands past it; and a link whose image is taken meets them. Assumes nothing.
use Prim.Native.Nat.{ℕ, ◌+◌, ◌*◌, ◌≤◌}
use mathlib.Core.Path.{◌≡◌, refl, sym, ap, ◌∙◌, subst}
use mathlib.Core.List.{List, ◌++◌}
use mathlib.Core.Bool.{Bool, true, false}
use native.Mathlib.Omega.{arith}
use lib.ListN.{length, length-append}
use borrow.Author.Tests.{le-leb, eq-eqb}
use Rattle.model.specs.Tables.{bit}
use Rattle.model.specs.Refusals.{first_of}
use Rattle.model.specs.Plan.{Plan, positions, flow_count, refusal, Accepted}
use Rattle.model.specs.WrittenPlan.{bytes_of}
use Rattle.model.specs.Link.{Link, no_flow}
use Rattle.model.proofs.Plan.{accepted}
use Rattle.model.proofs.PlanWithinLimits.{limits-kept}
use Rattle.model.proofs.Tables.{get_d-table, length-table}
use Rattle.model.proofs.WrittenPlan.{same_tests}
use Rattle.imagemodel.specs.Image.{image_length, positions_at, flows_at, image_of, header_field, plan_part, plan_in, flow_in, link_in}
use Rattle.imagemodel.specs.Consistent.{Consistent, Whole, Keepable}
use Rattle.imagemodel.specs.ValidImage.{ValidImage}
use Rattle.imagemodel.proofs.ReadBack.{image-length, header-stands, plan-stands, plan-again, read-link}

-- the reader accepts the bytes of an accepted plan
pub plan_passes : (P : Plan) → Accepted P → refusal (bytes_of P) ≡ 0
unfolding first_of
plan_passes P ok =
    same_tests P
    ∙ rw (
      le-leb 1 (flow_count P) ok.some_flow,
      le-leb (flow_count P) 16 ok.flows_most,
      eq-eqb (12 + 4 * flow_count P) (12 + 4 * flow_count P) refl,
    ) (limits-kept P ok)

pub bit-most : (b : Bool) → bit b ≤ 1
bit-most true = omega arith
bit-most false = omega arith

module _ {l : Link} (v : Keepable l) (rest : List ℕ) where
  open l use {plan as P}

  abbrev b : List ℕ
  b = image_of l ++ rest

  -- a header field that the plan gives
  as-listed : (k : ℕ) (f : Plan → ℕ) → header_field b k ≡ f P → header_field b k ≡ f (plan_in b)
  as-listed k f e = e ∙ ap f (sym (plan-again v rest))

  long : image_length P ≤ length b
  long = omega (arith, length-append (image_of l) rest, image-length v)

  pub image-valid : ValidImage b
  image-valid = record {
    header_there = omega (arith, long);
    image_there = omega (arith, long, (header-stands v rest).number 0 (omega arith));
    total_is = as-listed 0 image_length ((header-stands v rest).number 0 (omega arith));
    plan_offset_is = (header-stands v rest).number 1 (omega arith);
    positions_offset_is = as-listed 2 positions_at ((header-stands v rest).number 2 (omega arith));
    positions_are = as-listed 3 positions ((header-stands v rest).number 3 (omega arith));
    flows_offset_is = as-listed 4 flows_at ((header-stands v rest).number 4 (omega arith));
    flows_are = as-listed 5 flow_count ((header-stands v rest).number 5 (omega arith));
    plan_passes = ap refusal (plan-stands v rest) ∙ plan_passes P v.accepted;
    mark_is_bit = omega (arith, (header-stands v rest).number 7 (omega arith), bit-most l.marked);
    link_consistent = subst Consistent (sym (read-link v rest)) v.consistent;
  }

-- ---- a link whose image is taken

module _ (b : List ℕ) where
  abbrev P : Plan
  P = plan_in b

  pub read_whole : Whole (link_in b)
  unfolding link_in
  read_whole = record {
    owners_long = length-table (positions P) _;
    flows_long = length-table (flow_count P) (flow_in b P);
    held_long = λ i h. ap (λ x. length x.held) (get_d-table (flow_count P) (flow_in b P) i no_flow h) ∙ length-table (positions P) _;
  }

  pub read_kept : ValidImage b → Keepable (link_in b)
  unfolding link_in
  read_kept v = record { accepted = accepted (plan_part b) v.plan_passes; whole = read_whole; consistent = v.link_consistent }
