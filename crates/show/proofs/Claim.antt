-- A show without a refusal: its plans are accepted, and each stream is a flow of each link of its way. Assumes nothing.
use Prim.Native.Nat.{ℕ, zero, suc, ◌<◌}
use mathlib.Core.Path.{◌≡◌, refl, sym, ap, ◌∙◌}
use mathlib.Core.List.{List, ◌∷◌, []}
use mathlib.Core.Bool.{Bool, true, false, cond}
use native.Mathlib.Decide.{ℕ_discrete}
use native.Mathlib.Omega.{arith}
use lib.ListN.{length, length-map}
use lib.Dec.{eqb}
use Rattle.model.specs.Refusals.{◌when◌, first_of}
use Rattle.model.specs.Tables.{table}
use Rattle.model.specs.Plan as plan
use Rattle.model.specs.WrittenPlan.{number_tests}
use Rattle.model.proofs.WrittenPlan.{length-is, read_back, same_tests}
use Rattle.model.proofs.WriteRefusals.{accepted-writes, with-room, within-limits}
use Rattle.mesh.specs.Mesh.{Link, keep, some_of}
use Rattle.mesh.specs.Streams.{Stream, uses}
use Rattle.mesh.specs.Admission as admission
use Rattle.mesh.specs.Admission.{FittingStream}
use Rattle.mesh.specs.Sharing.{Carried}
use Rattle.mesh.specs.Reading.{link_at}
use Rattle.mesh.specs.Way.{In, way}
use Rattle.mesh.proofs.Admitted as mesh-admitted
use Rattle.mesh.proofs.Sharing.{never-6}
use Rattle.mesh.proofs.Ways.{right-way}
use Rattle.show.specs.Show.{Show, ShowStream, no_show_stream, show_stream, streams_in, uses_link, entry_on, link_plan, flow_on, used, plan_refusal, link_refusal, first_number, refusal}
use Rattle.show.specs.Claim.{GoodPlan, FlowOf, InOrder, Planned, Flows, AllTheWay, show_numbers}
use Rattle.show.proofs.LinkPlans.{in_use}
use Rattle.show.proofs.Places.{first-none, stream-is, admits, fits, uses-in-mesh, used-in-mesh, refusal_is, refused-by-mesh, mesh-passed, link-passed}
use Rattle.show.proofs.Chosen.{Chosen, place_in, each-kept, each-passed, order-kept, get_d-map-below}
use Rattle.show.proofs.LastLink.{usual-cells, last-cells, not_last, is_last}

-- ---- the flows of a link are its streams

module _ (show : Show) (l : Link) where
  flow-count : plan.flow_count (link_plan show l) ≡ length (keep (uses_link l) show.streams)
  unfolding link_plan
  flow-count = length-map (keep (uses_link l) show.streams) (entry_on l)

  as-flow : {i j : ℕ} → Chosen (uses_link l) show.streams no_show_stream i j → FlowOf show l i j
  unfolding link_plan flow_on
  as-flow {i} {j} c = record {
    stream_below = c.below;
    uses_link = c.passes;
    flow_below = omega (arith, flow-count, c.kept_below);
    entry_is = get_d-map-below (entry_on l) (keep (uses_link l) show.streams) j no_show_stream plan.no_entry c.kept_below ∙ ap (entry_on l) c.kept_there;
    place_is = c.place_is;
  }

  pub in_order : InOrder show l
  unfolding flow_on
  in_order = record {
    each_stream = λ i h e. as-flow (each-passed (uses_link l) no_show_stream show.streams i h e);
    stream_of = place_in (uses_link l) show.streams;
    each_flow = λ j h. as-flow (each-kept (uses_link l) no_show_stream show.streams j (omega (arith, flow-count)));
    in_order = λ i j h e b. order-kept (uses_link l) no_show_stream show.streams i j h b e;
  }

-- ---- a plan that passes

pub good-plan : (P : plan.Plan) → first_of (number_tests P) ≡ 0 → GoodPlan P
good-plan P z = record {
  accepted_by_reader = same_tests P ∙ z;
  read_back = read_back P;
  small = omega (arith, length-is P, (within-limits P z).flows_most);
  written_whole = λ out h. accepted-writes P out (with-room P out z h);
}

-- a link with a flow is used
used-by : (show : Show) (l : Link) (i : ℕ) {j : ℕ} → FlowOf show l i j → used show l ≡ true
unfolding link_plan
used-by show l i f = in_use show l (λ z. omega (arith, f.flow_below))

-- ---- a show without a refusal

module _ (show : Show) (none : refusal show ≡ 0) where
  pub planned : Planned show
  planned = record { admits = admits show (mesh-passed show none); each_link = λ l u. good-plan (link_plan show l) (link-passed show none l u) }

  pub all_the_way : AllTheWay show
  all_the_way = record { flows = λ i h l on. go i h l (in-way i h l on) on }
    where
      fit : (i : ℕ) → i < length show.streams → FittingStream show.slots (show_stream show i).stream
      fit = fits show (mesh-passed show none)

      in-way : (i : ℕ) → i < length show.streams → (l : Link) → In l (way (show_stream show i).stream) → uses_link l (show_stream show i) ≡ true
      in-way i h l on = (right-way (show_stream show i).stream (fit i h).source_most (fit i h).destination_most).all_used l on

      go : (i : ℕ) → i < length show.streams → (l : Link) → uses_link l (show_stream show i) ≡ true → (on : In l (way (show_stream show i).stream)) → Flows show i on.place l
      go i h l e on =
          let s = show_stream show i in
          let flow = (in_order show l).each_stream i h e in
          let right = right-way s.stream (fit i h).source_most (fit i h).destination_most in
          let cells = ap (λ (x : plan.Entry). x.cells) flow.entry_is in
          record {
            in_mesh = uses-in-mesh show (mesh-passed show none) l i h e;
            good = planned.each_link l (used-by show l i flow);
            flow = flow;
            before_last = λ b. cells ∙ usual-cells l s (not_last right on b);
            at_last = λ b. cells ∙ last-cells l s (is_last right on b);
          }

-- ---- and the other way round

pub no-refusal : (show : Show) → Planned show → refusal show ≡ 0
no-refusal show p = refusal_is show passed ∙ first-none 256 (λ k. link_refusal show (link_at k)) (λ k h. go (link_at k) (used show (link_at k)) refl)
  where
    passed : admission.refusal show.slots (streams_in show) ≡ 0
    passed = mesh-admitted.admits show.slots (streams_in show) p.admits

    go : (l : Link) (b : Bool) → used show l ≡ b → cond b (plan_refusal show l) 0 ≡ 0
    go l true u = sym (same_tests (link_plan show l)) ∙ (p.each_link l u).accepted_by_reader
    go l false u = refl

-- ---- the numbers

module _ (show : Show) (l : Link) where
  -- the streams of a link carry its plan's flows
  carried : Carried show.slots (streams_in show) l (link_plan show l)
  unfolding link_plan
  carried =
      let order = in_order show l in
      record {
        slots_are = refl;
        chosen = order.stream_of;
        streams_are = λ j h. omega (arith, (order.each_flow j h).stream_below, length-map show.streams (λ (s : ShowStream). s.stream));
        once = λ i j h b e. sym (order.each_flow i h).place_is ∙ ap (flow_on show l) e ∙ (order.each_flow j b).place_is;
        on_link = λ j h. ap (λ s. uses s l) (stream-is show (order.stream_of j)) ∙ (order.each_flow j h).uses_link;
        shares_are = λ j h. ap (λ (x : plan.Entry). x.share) (order.each_flow j h).entry_is ∙ ap (λ (s : Stream). s.share) (sym (stream-is show (order.stream_of j)));
      }

abbrev Known : ℕ → Type 0
Known r = some_of (eqb r) show_numbers ≡ true

first-known : (n : ℕ) (f : ℕ → ℕ) → ((k : ℕ) → k < n → Known (f k)) → Known (first_number (table n f))
unfolding first_number some_of
first-known zero f each = refl
first-known (suc n) f each = go (f 0) (each 0 (omega arith)) (first-known n (λ k. f (suc k)) (λ k h. each (suc k) (omega arith)))
  where
    go : (r : ℕ) → Known r → Known (first_number (table n (λ k. f (suc k)))) → Known (first_number (r ∷ table n (λ k. f (suc k))))
    go zero this rest = rest
    go (suc r) this rest = this

plan-known : (count frame entries pairs shares cells : Bool) → (first_of (3 when frame ∷ 4 when entries ∷ 5 when pairs ∷ 6 when shares ∷ 7 when cells ∷ []) ≡ 6 → ⊥)
    → Known (first_of (2 when count ∷ 3 when frame ∷ 4 when entries ∷ 5 when pairs ∷ 6 when shares ∷ 7 when cells ∷ []))
unfolding first_of some_of
plan-known true frame entries pairs shares cells not-6 = refl
plan-known false true entries pairs shares cells not-6 = refl
plan-known false false true pairs shares cells not-6 = refl
plan-known false false false true shares cells not-6 = refl
plan-known false false false false true cells not-6 = absurd (not-6 refl)
plan-known false false false false false true not-6 = refl
plan-known false false false false false false not-6 = refl

mesh-known : (a b c d : Bool) → Known (first_of (25 when a ∷ 3 when b ∷ 4 when c ∷ 25 when d ∷ []))
unfolding first_of some_of
mesh-known true b c d = refl
mesh-known false true c d = refl
mesh-known false false true d = refl
mesh-known false false false true = refl
mesh-known false false false false = refl

none-known : Known 0
unfolding some_of
none-known = refl

mesh-numbers : (F : ℕ) (streams : List Stream) → Known (admission.refusal F streams)
unfolding admission.refusal
mesh-numbers F streams = mesh-known _ _ _ _

pub known-number : (show : Show) → some_of (eqb (refusal show)) show_numbers ≡ true
known-number show = go (ℕ_discrete (admission.refusal show.slots (streams_in show)) 0)
  where
    on_link : admission.refusal show.slots (streams_in show) ≡ 0 → (l : Link) (b : Bool) → used show l ≡ b → Known (cond b (plan_refusal show l) 0)
    on_link z l true u = plan-known _ _ _ _ _ _ (never-6 (admits show z) (used-in-mesh show z l u) (carried show l))
    on_link z l false u = none-known

    go : Dec (admission.refusal show.slots (streams_in show) ≡ 0) → Known (refusal show)
    go (yes z) = rw (refusal_is show z) (first-known 256 (λ k. link_refusal show (link_at k)) (λ k h. on_link z (link_at k) (used show (link_at k)) refl))
    go (no some) = rw (← refused-by-mesh show some) (mesh-numbers show.slots (streams_in show))
