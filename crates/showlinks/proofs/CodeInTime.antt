-- The streams of a show that the code plays are in time. Assumes nothing.
use Prim.Native.Nat.{ℕ, suc, ◌<◌}
use mathlib.Core.Path.{◌≡◌, refl, sym, ap, ◌∙◌, subst}
use mathlib.Core.List.{List, ◌∷◌, []}
use mathlib.Core.Bool.{true}
use native.Mathlib.Omega.{arith}
use lib.ListN.{length, take}
use lib.Seq.{take_at}
use Rattle.model.specs.Plan as plan
use Rattle.model.specs.Scheduler.{Played, reference}
use Rattle.arrival.specs.SeveralLinks.{Ran, Board}
use Rattle.model.specs.WrittenPlan as writer
use Rattle.model.specs.WrittenPlan.{bytes_of}
use Rattle.model.specs.Calls.{Answer, accepted}
use Rattle.plan.specs.Reading.{plan_for}
use Rattle.plan.specs.Writing.{answer_of}
use Rattle.plan.proofs.Laws.{is-plan}
use Rattle.link.proofs.Demand3.{run_of}
use Rattle.mesh.specs.Mesh.{Link}
use Rattle.mesh.specs.Way.{In, way}
use Rattle.show.specs.Show.{Show, show_stream, link_plan, flow_on, used, refusal}
use Rattle.show.specs.Claim.{Flows}
use Rattle.show.specs.Delay.{OnLink, OnLinks}
use Rattle.show.proofs.LinkPlans.{in_use}
use Rattle.show.proofs.Claim.{planned, all_the_way}
use Rattle.show.proofs.Delay.{in_time, all_in_time}
use Rattle.showlinks.specs.OfCode.{CodeLink, OfCode, BoardOf, AllOfCode, CodeBoards, CodeInTime, CodeAllInTime}

module _ (show : Show) (none : refusal show ≡ 0) where
  -- the bytes that `write` left are the plan's
  bytes_left : {l : Link} (x : CodeLink show l) → used show l ≡ true → take x.count x.after ≡ bytes_of (link_plan show l)
  bytes_left {l} x u =
      let P = link_plan show l in
      let good = (planned show none).each_link l u in
      let whole = good.written_whole x.before (omega (arith, good.small, x.room)) in
      let said : ◌≡◌ {A = Answer ℕ} (accepted x.count) (accepted (length (bytes_of P))) = ap answer_of (sym x.bytes) ∙ x.wrote.answered ∙ ap (λ (w : writer.Written). w.answer) whole in
      let many : length (bytes_of P) ≡ x.count = cc in
      ap (take x.count) (x.wrote.left ∙ ap (λ (w : writer.Written). w.out) whole) ∙ take_at (bytes_of P) _ x.count many

  -- and the events those of a run of the reference scheduler on it
  ran-there : {l : Link} (x : CodeLink show l) → Ran reference (plan.plan_of (take x.count x.after)) x.events
  ran-there x =
      let bytes = take x.count x.after in
      let run = run_of x.valid.accepted x.handed in
      let same : plan_for x.accepted ≡ plan.plan_of bytes = is-plan bytes x.accepted x.read in
      subst (λ P. Ran reference P x.events) same (record { calls = run.calls; is = ap (λ (r : Played reference). r.history) run.played })

  module _ (i : ℕ) (below : i < length show.streams) {l : Link} (on : In l (way (show_stream show i).stream)) where
    abbrev flows : Flows show i on.place l
    flows = (all_the_way show none).flows i below l on

    -- each link of a stream's way is used
    used-there : used show l ≡ true
    unfolding link_plan
    used-there = in_use show l (λ z. omega (arith, flows.flow.flow_below))

    -- so what the code did is a board
    board-of : (x : CodeLink show l) → BoardOf show i l x
    board-of x =
        let bytes = take x.count x.after in
        let left = bytes_left x used-there in
        let passes = ap plan.refusal left ∙ flows.good.accepted_by_reader in
        let count = ap plan.flow_count (ap plan.plan_of left ∙ flows.good.read_back) in
        let known : flow_on show l i < plan.flow_count (plan.plan_of bytes) = omega (arith, count, flows.flow.flow_below) in
        record {
          board = record {
            bytes = bytes;
            passes = passes;
            events = x.events;
            ran = ran-there x;
            no_reset = x.unreset;
            stream = flow_on show l i;
            known = known;
          };
          of_code = record { made = x; bytes_are = refl; events_are = refl; flow_is = refl };
          has_events = refl;
        }

  on_link : (i : ℕ) {l : Link} {b : Board reference} → used show l ≡ true → OfCode show i l b → OnLink show i l b
  on_link i u x = record { bytes_are = x.bytes_are ∙ bytes_left x.made u; flow_is = x.flow_is }

  on-links : (i : ℕ) (ls : List Link) (bs : List (Board reference)) → ((l : Link) → In l ls → used show l ≡ true) → AllOfCode show i ls bs → OnLinks show i ls bs
  on-links i [] [] each x = tt
  on-links i [] (b ∷ bs) each x = absurd x
  on-links i (l ∷ ls) [] each x = absurd x
  on-links i (l ∷ ls) (b ∷ bs) each x = (
    on_link i (each l (record { place = 0; within = omega arith; there = refl })) x.0,
    on-links i ls bs (λ m on. each m (record { place = suc on.place; within = omega (arith, on.within); there = on.there })) x.1,
  )

pub code-boards : CodeBoards
code-boards show none i below l on x = board-of show none i below on x

pub code-in-time : CodeInTime
code-in-time show none i below late enough a rest boards =
    in_time show none i below late enough a rest
    (on-links show none i (way (show_stream show i).stream) (a ∷ rest) (λ l on. used-there show none i below on) boards)

pub code-all-in-time : CodeAllInTime
code-all-in-time show none i below late enough a rest boards =
    all_in_time show none i below late enough a rest
    (on-links show none i (way (show_stream show i).stream) (a ∷ rest) (λ l on. used-there show none i below on) boards)
