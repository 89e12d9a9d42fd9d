-- The example of the longest way comes out as it stands there, all that `dome-arrives` asks holds of it, and its bound is attained. Assumes nothing.
use Prim.Native.Nat.{ℕ, zero, suc, ◌+◌, ◌-◌, ◌*◌}
use mathlib.Core.Path.{◌≡◌, refl, ap}
use mathlib.Core.List.{◌∷◌, [], reverse, flat_map}
use mathlib.Core.Option.{some, none}
use mathlib.Core.Bool.{true}
use native.Mathlib.Decide.{ℕ_discrete}
use native.Mathlib.Omega.{arith}
use lib.Dec.{lit<, lit≤}
use lib.ListN.{get_or}
use Rattle.model.specs.Tables.{any, sum, tally}
use Rattle.model.specs.Refusals.{first_of}
use Rattle.model.specs.Word.{flow_of}
use Rattle.model.specs.Plan.{plan_of, entry_fits, refusal}
use Rattle.model.specs.WrittenPlan.{bytes_of}
use Rattle.model.specs.Calls.{History}
use Rattle.model.specs.History.{well_formed, is_granted_reset, lends, of_flow}
use Rattle.model.specs.Claim.{Each, AtRequest}
use Rattle.model.specs.Scheduler.{reference, run}
use Rattle.model.proofs.Decidable.{implies, is_true, proved}
use Rattle.model.proofs.ClaimDecided.{at-request, each}
use Rattle.arrival.specs.SeveralLinks.{Ran, Board, sent_on, due_on, tile}
use Rattle.arrival.specs.SharesOfCells.{GivenBack}
use Rattle.arrival.specs.CreditedByNext.{ModestFirst}
use Rattle.arrival.proofs.CellsNeeded.{given_back}
use Rattle.arrival.proofs.JoinedDecided.{calls_of, joins-compute}
use Rattle.arrival.proofs.ByCreditsExample.{modest-first}
use Rattle.mesh.specs.Mesh.{keep, some_of, links}
use Rattle.mesh.specs.Streams.{uses, load}
use Rattle.mesh.specs.Way.{way}
use Rattle.mesh.specs.Admission as admission
use Rattle.show.specs.Show as shows
use Rattle.show.specs.Show.{Show, show_stream, link_plan, flow_on, used, first_number}
use Rattle.show.specs.Delay.{OnLinks}
use Rattle.crossings.specs.Crossing.{served}
use Rattle.crossings.specs.Claim.{Onward}
use Rattle.crossings.proofs.Unfoldings.{crossings-compute}
use Rattle.showcrossings.specs.Ways.{Crossed}
use Rattle.showcrossings.specs.Dome.{Arrives}
use Rattle.showcrossings.specs.Edges.{three_streams, first_bytes, last_bytes, on_stream, Run, crosses, long}
use Rattle.showcrossings.proofs.Dome.{dome-arrives}

-- ---- the two links of a crossing as boards

only-first : (i j : ℕ) → get_or on_stream i none ≡ some j → (i ≡ 0) × (j ≡ 0)
only-first zero j e = (refl, cc)
only-first (suc i) j e = (cc, cc)

pub goes_on : (cells last_cells : ℕ) → Onward (plan_of (first_bytes cells)) (plan_of (last_bytes last_cells)) on_stream
goes_on cells last_cells = record {
  known = λ i j e. let (a, b) = only-first i j e in (rw a (lit< tt), rw b (lit< tt));
  apart = λ i k j e f. let (a, _) = only-first i j e in let (b, _) = only-first k j f in omega arith;
}

-- what is computed of a run: its events are those that stand there, no reset is granted, and the stream is lent nothing
pub record Comes (r : Run) : Type 0 where
  pub passes₁ : refusal (first_bytes r.cells) ≡ 0
  pub passes₂ : refusal (last_bytes r.last_cells) ≡ 0
  pub first_is : (crosses r).arriving.history ≡ reverse r.first
  pub last_is : (crosses r).leaving.history ≡ reverse r.last
  pub ran₁ : Ran reference (plan_of (first_bytes r.cells)) (reverse r.first)
  pub ran₂ : Ran reference (plan_of (last_bytes r.last_cells)) (reverse r.last)
  pub none₁ : tally is_granted_reset (reverse r.first) ≡ 0
  pub none₂ : tally is_granted_reset (reverse r.last) ≡ 0
  pub not_lent : tally (of_flow 0) (lends (reverse r.last)) ≡ 0

-- all of it in one equation
pub record Figures : Type 0 where
  pub refusal₁ : ℕ
  pub refusal₂ : ℕ
  pub first : History
  pub last : History
  pub ran₁ : History
  pub ran₂ : History
  pub resets₁ : ℕ
  pub resets₂ : ℕ
  pub lent : ℕ

abbrev pub figures : Run → Figures
figures r = record {
  refusal₁ = refusal (first_bytes r.cells);
  refusal₂ = refusal (last_bytes r.last_cells);
  first = (crosses r).arriving.history;
  last = (crosses r).leaving.history;
  ran₁ = (run reference (plan_of (first_bytes r.cells)) (calls_of (reverse r.first))).history;
  ran₂ = (run reference (plan_of (last_bytes r.last_cells)) (calls_of (reverse r.last))).history;
  resets₁ = tally is_granted_reset (reverse r.first);
  resets₂ = tally is_granted_reset (reverse r.last);
  lent = tally (of_flow 0) (lends (reverse r.last));
}

abbrev pub expected : Run → Figures
expected r = record {
  refusal₁ = 0;
  refusal₂ = 0;
  first = reverse r.first;
  last = reverse r.last;
  ran₁ = reverse r.first;
  ran₂ = reverse r.last;
  resets₁ = 0;
  resets₂ = 0;
  lent = 0;
}

pub comes : (r : Run) → figures r ≡ expected r → Comes r
comes r e = record {
  passes₁ = ap (λ (f : Figures). f.refusal₁) e;
  passes₂ = ap (λ (f : Figures). f.refusal₂) e;
  first_is = ap (λ (f : Figures). f.first) e;
  last_is = ap (λ (f : Figures). f.last) e;
  ran₁ = record { calls = calls_of (reverse r.first); is = ap (λ (f : Figures). f.ran₁) e };
  ran₂ = record { calls = calls_of (reverse r.last); is = ap (λ (f : Figures). f.ran₂) e };
  none₁ = ap (λ (f : Figures). f.resets₁) e;
  none₂ = ap (λ (f : Figures). f.resets₂) e;
  not_lent = ap (λ (f : Figures). f.lent) e;
}

module _ {r : Run} (x : Comes r) where
  abbrev pub first_link : Board reference
  first_link = record {
    bytes = first_bytes r.cells;
    passes = x.passes₁;
    events = reverse r.first;
    ran = x.ran₁;
    no_reset = x.none₁;
    stream = 0;
    known = lit< tt;
  }

  abbrev pub last_link : Board reference
  last_link = record {
    bytes = last_bytes r.last_cells;
    passes = x.passes₂;
    events = reverse r.last;
    ran = x.ran₂;
    no_reset = x.none₂;
    stream = 0;
    known = lit< tt;
  }

  pub crossed : Crossed r.board first_link last_link
  crossed = record {
    onward = on_stream;
    goes_on = goes_on r.cells r.last_cells;
    stream_goes_on = refl;
    begin = r.begin;
    slots = r.slots;
    arriving_is = x.first_is;
    leaving_is = x.last_is;
    not_lent = x.not_lent;
  }

  -- they run the plans of the show
  abbrev pub show_of : Show
  show_of = three_streams r.cells r.last_cells

  pub on-links : OnLinks show_of 0 (way (show_stream show_of 0).stream) (first_link ∷ last_link ∷ [])
  unfolding way link_plan flow_on keep uses bytes_of flat_map
  on-links = (record { bytes_are = refl; flow_is = refl }, (record { bytes_are = refl; flow_is = refl }, tt))

-- what is asked of the source, and of cells where the stream ends, is decided
unfoldable pub source_of : (r : Run) → Dec (ModestFirst (plan_of (first_bytes r.cells)) 0 (reverse r.first))
unfolding modest-first
source_of r = modest-first (plan_of (first_bytes r.cells)) 0 (reverse r.first)

abbrev pub EndsOf : Run → Type 0
EndsOf r =
    let Q = plan_of (last_bytes r.last_cells) in
    Each (AtRequest (λ w h. well_formed Q w ≡ true → flow_of w ≡ 0 → GivenBack 1 Q 0 h)) (reverse r.last)

unfoldable pub ends_of : (r : Run) → Dec (EndsOf r)
unfolding given_back
ends_of r =
    each (at-request λ w h. implies (is_true (well_formed (plan_of (last_bytes r.last_cells)) w)) (implies (ℕ_discrete (flow_of w) 0)
    (given_back 1 (plan_of (last_bytes r.last_cells)) (lit< tt) 0 h))) (reverse r.last)

-- all that is computed
unfoldable pub runs-compute : Unit {0}
unfolding crossings-compute joins-compute modest-first given_back source_of ends_of
runs-compute = tt

-- ---- the longest way

pub long-comes : Comes long
unfolding runs-compute
long-comes = comes long refl

pub no-refusal : shows.refusal (three_streams 2 3) ≡ 0
unfolding shows.refusal first_number used link_plan admission.refusal admission.stream_fits keep some_of links uses load any sum first_of entry_fits flat_map
no-refusal = refl

long-modest : ModestFirst (plan_of (first_bytes 2)) 0 (reverse long.first)
unfolding runs-compute
long-modest = proved (source_of long) tt

long-ends : EndsOf long
unfolding runs-compute
long-ends = proved (ends_of long) tt

pub long-arrives : Arrives served (three_streams 2 3) 0 (first_link long-comes) (last_link long-comes ∷ []) (crossed long-comes, tt)
long-arrives =
    dome-arrives (three_streams 2 3) no-refusal 0 (lit< tt) 1 (record { usual = λ h. lit≤ tt; last = lit≤ tt }) (first_link long-comes)
    (last_link long-comes ∷ []) (on-links long-comes) long-modest long-ends (crossed long-comes, tt)

-- the tile is due in slot 0, and comes up on the last link in slot 5
pub long-attained : tile 0 (sent_on (last_link long-comes)) ≡ tile 0 (due_on (first_link long-comes)) + (2 + 1) * 2 - 1
unfolding runs-compute
long-attained = refl
