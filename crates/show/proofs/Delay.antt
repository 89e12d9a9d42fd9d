-- The streams of a show without a refusal are in time. Assumes nothing.
use Prim.Native.Nat.{ℕ, suc, ◌+◌, ◌*◌, ◌/◌, ◌≤◌, ◌<◌}
use mathlib.Core.Path.{◌≡◌, refl, sym, ap, ap₂, ◌∙◌, subst}
use mathlib.Core.List.{List, ◌∷◌, []}
use native.Mathlib.Omega.{arith}
use lib.ListN.{length}
use Rattle.model.specs.Plan as plan
use Rattle.model.specs.History.{ticks}
use Rattle.model.specs.Scheduler.{Scheduler, reference}
use Rattle.arrival.specs.SeveralLinks.{tile, Board, plan_on, sent_on, due_on, Within, EachWithin}
use Rattle.arrival.specs.Source.{up_to_frame, Source, Bursts, AsksAs}
use Rattle.arrival.specs.CreditedByNext.{JoinedByCredits, WayByCredits}
use Rattle.arrival.specs.AllArrive.{Up, AsksOn}
use Rattle.arrival.proofs.CreditedByNext.{over-links-by-credits, granted-by-credits}
use Rattle.arrival.proofs.AllArrive.{all-arrive-by-credits}
use Rattle.delay.specs.Bounds.{bounds}
use Rattle.delay.specs.Promised.{last_board, share_on, ArrivesWithin, InBounds, UpInBounds}
use Rattle.delay.proofs.Promised.{bound-by-credits, last_up, up-by-credits}
use Rattle.mesh.specs.Mesh.{Link}
use Rattle.mesh.specs.Way.{In, way, distance}
use Rattle.mesh.proofs.Ways.{right-way}
use Rattle.show.specs.Show.{Show, ShowStream, show_stream, link_plan, refusal}
use Rattle.show.specs.Claim.{Flows}
use Rattle.show.specs.Delay.{OnLink, OnLinks, PassedOn, PassedAlong, EnoughCells, ShowInTime, ShowAllInTime}
use Rattle.show.proofs.Places.{fits, mesh-passed}
use Rattle.show.proofs.Claim.{all_the_way}

-- ---- what a show says of a board on the way

-- its frame, and the stream's share there
pub record Fits (show : Show) (s : ShowStream) (b : Board reference) : Type 0 where
  pub slots_are : (plan_on b).slots ≡ show.slots
  pub frames_are : (plan_on b).frames ≡ show.frames
  pub share_is : share_on b ≡ s.stream.share

-- and its cells, before the last link and on it
pub record FitsAt (show : Show) (s : ShowStream) (p m : ℕ) (b : Board reference) : Type 0 where
  pub fits_there : Fits show s b
  pub before_last : suc p < m → (plan.entry (plan_on b) b.stream).cells ≡ s.cells
  pub at_last : suc p ≡ m → (plan.entry (plan_on b) b.stream).cells ≡ s.last_cells

-- so of boards one after the other, from link number p of m on
abbrev pub EachFits : Show → ShowStream → (p m : ℕ) → List (Board reference) → Type 0
EachFits show s p m [] = Unit {0}
EachFits show s p m (b ∷ bs) = FitsAt show s p m b × EachFits show s (suc p) m bs

module _ (show : Show) (i : ℕ) where
  abbrev s : ShowStream
  s = show_stream show i

  abbrev m : ℕ
  m = length (way s.stream)

  fits-at : {p : ℕ} {l : Link} {b : Board reference} → Flows show i p l → OnLink show i l b → FitsAt show s p m b
  unfolding link_plan
  fits-at {l = l} {b = b} f on =
      let plan_is : plan_on b ≡ link_plan show l = ap plan.plan_of on.bytes_are ∙ f.good.read_back in
      let flow_is : plan.entry (plan_on b) b.stream ≡ plan.entry (link_plan show l) b.stream = ap (λ (P : plan.Plan). plan.entry P b.stream) plan_is in
      let entry_is = flow_is ∙ ap (plan.entry (link_plan show l)) on.flow_is in
      let cells_are = ap (λ (e : plan.Entry). e.cells) entry_is in
      record {
        fits_there = record {
          slots_are = ap (λ (P : plan.Plan). P.slots) plan_is;
          frames_are = ap (λ (P : plan.Plan). P.frames) plan_is;
          share_is = ap (λ (e : plan.Entry). e.share) (entry_is ∙ f.flow.entry_is);
        };
        before_last = λ h. cells_are ∙ f.before_last h;
        at_last = λ e. cells_are ∙ f.at_last e;
      }

  -- each link of the rest of the way, by its number
  abbrev There : (p : ℕ) → List Link → Type 0
  There p ls = (l : Link) (on : In l ls) (b : Board reference) → OnLink show i l b → FitsAt show s (p + on.place) m b

  pub there-all : refusal show ≡ 0 → i < length show.streams → There 0 (way s.stream)
  there-all none below l here b at =
      let same : here.place ≡ 0 + here.place = omega arith in
      subst (λ q. FitsAt show s q m b) same (fits-at ((all_the_way show none).flows i below l here) at)

  there-after : (p : ℕ) (l : Link) (ls : List Link) → There p (l ∷ ls) → There (suc p) ls
  there-after p l ls each k on b at =
      let same : p + suc on.place ≡ suc p + on.place = omega arith in
      subst (λ q. FitsAt show s q m b) same (each k (record { place = suc on.place; within = omega (arith, on.within); there = on.there }) b at)

  pub each_fits : (p : ℕ) (ls : List Link) (bs : List (Board reference)) → There p ls → OnLinks show i ls bs → EachFits show s p m bs
  each_fits p [] [] each on = tt
  each_fits p [] (b ∷ bs) each on = absurd on
  each_fits p (l ∷ ls) [] each on = absurd on
  each_fits p (l ∷ ls) (b ∷ bs) each on =
      let same : p + 0 ≡ p = omega arith in (
        subst (λ q. FitsAt show s q m b) same (each l (record { place = 0; within = omega arith; there = refl }) b on.0),
        each_fits (suc p) ls bs (there-after p l ls each) on.1,
      )

  pub as_many : (ls : List Link) (bs : List (Board reference)) → OnLinks show i ls bs → length bs ≡ length ls
  as_many [] [] on = refl
  as_many [] (b ∷ bs) on = absurd on
  as_many (l ∷ ls) [] on = absurd on
  as_many (l ∷ ls) (b ∷ bs) on = ap suc (as_many ls bs on.1)

  -- ---- so the boards are a way

  module _ {late : ℕ} (enough : EnoughCells show late i) where
    joins : {p : ℕ} {a b : Board reference} → suc p < m → FitsAt show s p m a → Fits show s b → PassedOn a b → JoinedByCredits a b
    joins h x g passed =
        let f = x.fits_there in
        record {
          in_step = record { slots = f.slots_are ∙ sym g.slots_are; frames = f.frames_are ∙ sym g.frames_are };
          share_kept = omega (arith, f.share_is, g.share_is);
          together = passed.together;
          credits = passed.credits;
          two_shares = omega (arith, f.share_is, x.before_last h, enough.usual (omega arith));
          not_lent = passed.not_lent;
        }

    a-way : (p : ℕ) (a : Board reference) (rest : List (Board reference)) → p + suc (length rest) ≡ m → EachFits show s p m (a ∷ rest) → PassedAlong late a rest
        → WayByCredits late a rest
    a-way p a [] e fs passed =
        let shares = ap ((late + 2) *◌) fs.0.fits_there.share_is in
        record { given_back = passed; enough_cells = omega (arith, shares, fs.0.at_last (omega arith), enough.last) }
    a-way p a (b ∷ rest) e fs passed =
        (joins (omega arith) fs.0 fs.1.0.fits_there passed.0, a-way (suc p) b rest (omega arith) fs.1 passed.1)

-- ---- the last of several boards

last_fits : {show : Show} {s : ShowStream} {m : ℕ} (p : ℕ) (a : Board reference) (rest : List (Board reference)) → EachFits show s p m (a ∷ rest)
    → Fits show s (last_board a rest)
last_fits p a [] fs = fs.0.fits_there
last_fits p a (b ∷ rest) fs = last_fits (suc p) b rest fs.1

last_within : {c : Scheduler} (k : ℕ) (P : plan.Plan) (from : List ℕ) (a : Board c) (rest : List (Board c)) → EachWithin k P from (a ∷ rest)
    → Within (k + length rest) P from (last_board a rest)
last_within k P from a [] within = let same : k + 0 ≡ k = omega arith in rw same within.0
last_within k P from a (b ∷ rest) within =
    let same : k + length (b ∷ rest) ≡ k + 1 + length rest = omega arith in
    rw same (last_within (k + 1) P from b rest within.1)

-- what `bounds` says of the numbers of the first board is so of those of the show
module _ (a : Board reference) (rest : List (Board reference)) where
  abbrev InBoundsOf : (F m share : ℕ) → Type 0
  InBoundsOf F m share =
      (burst : ℕ) (comes asks : ℕ → ℕ) → Source share comes asks → Bursts share burst comes → AsksAs asks (plan_on a) a.stream a.events
      → ArrivesWithin (bounds F m share burst).slots comes (last_board a rest)

  with-numbers : {F m share : ℕ} → (plan_on a).slots ≡ F → length (a ∷ rest) ≡ m → share_on a ≡ share → InBounds a rest → InBoundsOf F m share
  with-numbers {F} {m} {share} slots links shares x =
      subst (λ F. InBoundsOf F m share) slots
      (subst (λ m. InBoundsOf (plan_on a).slots m share) links (subst (InBoundsOf (plan_on a).slots (length (a ∷ rest))) shares x))

  abbrev UpInBoundsOf : (F m share : ℕ) → Type 0
  UpInBoundsOf F m share =
      (burst : ℕ) (comes asks : ℕ → ℕ) → Source share comes asks → Bursts share burst comes → AsksAs asks (plan_on a) a.stream a.events
      → AsksOn asks (plan_on a) a.stream a.events → (n x : ℕ) → n < up_to_frame comes (x / F)
      → x + (bounds F m share burst).slots < ticks (last_board a rest).events → Up n (last_board a rest)

  up-with-numbers : {F m share : ℕ} → (plan_on a).slots ≡ F → length (a ∷ rest) ≡ m → share_on a ≡ share → UpInBounds a rest → UpInBoundsOf F m share
  up-with-numbers {F} {m} {share} slots links shares x =
      subst (λ F. UpInBoundsOf F m share) slots
      (subst (λ m. UpInBoundsOf (plan_on a).slots m share) links (subst (UpInBoundsOf (plan_on a).slots (length (a ∷ rest))) shares x))

-- what the numbers of a show say of a stream's boards
record Along (show : Show) (i late : ℕ) (a : Board reference) (rest : List (Board reference)) : Type 0 where
  hops : suc (length rest) ≡ distance (show_stream show i).stream
  way_there : WayByCredits late a rest
  first : Fits show (show_stream show i) a
  last : Fits show (show_stream show i) (last_board a rest)

along : (show : Show) → refusal show ≡ 0 → (i : ℕ) → i < length show.streams → (late : ℕ) → EnoughCells show late i
    → (a : Board reference) (rest : List (Board reference)) → OnLinks show i (way (show_stream show i).stream) (a ∷ rest) → PassedAlong late a rest → Along show i late a rest
along show none i below late enough a rest on passed =
    let s = show_stream show i in
    let ls = way s.stream in
    let fit = fits show (mesh-passed show none) i below in
    let each = each_fits show i 0 ls (a ∷ rest) (there-all show i none below) on in
    record {
      hops = as_many show i ls (a ∷ rest) on ∙ (right-way s.stream fit.source_most fit.destination_most).as_long;
      way_there = a-way show i enough 0 a rest (omega (arith, as_many show i ls (a ∷ rest) on)) each passed;
      first = each.0.fits_there;
      last = last_fits 0 a rest each;
    }

-- the bound by its frames, and by the hops
same-bound : (show : Show) (i late : ℕ) (a : Board reference) (rest : List (Board reference)) → Along show i late a rest
    → (1 + length rest + 1) * (plan_on (last_board a rest)).slots ≡ (distance (show_stream show i).stream + 1) * show.slots
same-bound show i late a rest x = ap₂ ◌*◌ (omega (arith, x.hops)) x.last.slots_are

pub in_time : ShowInTime reference
in_time show none i below late enough a rest on modest passed =
    let x = along show none i below late enough a rest on passed in
    let later = over-links-by-credits late a rest x.way_there in
    let final = last_within 1 (plan_on a) (due_on a) a rest (later.from_due modest) in
    record {
      granted_first = granted-by-credits late a rest x.way_there modest;
      granted_later = later.granted;
      from_due = λ n h. subst (λ y. tile n (sent_on (last_board a rest)) < tile n (due_on a) + y) (same-bound show i late a rest x) (final.slots_later n h);
      from_source = with-numbers a rest x.first.slots_are x.hops x.first.share_is (bound-by-credits late a rest x.way_there modest);
    }

pub all_in_time : ShowAllInTime reference
all_in_time show none i below late enough a rest on modest passed asked =
    let x = along show none i below late enough a rest on passed in
    record {
      from_due = λ n due over.
          last_up n (tile n (due_on a)) 1 a rest (all-arrive-by-credits late a rest x.way_there asked modest n due)
          (subst (λ y. tile n (due_on a) + y ≤ ticks (last_board a rest).events) (sym (same-bound show i late a rest x)) over);
      from_source = up-with-numbers a rest x.first.slots_are x.hops x.first.share_is (up-by-credits late a rest x.way_there asked modest);
    }
