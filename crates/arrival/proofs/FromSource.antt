-- The reference scheduler over several links, from the frame in which a tile comes to its source. Assumes nothing.
use Prim.Native.Nat.{ℕ, suc, ◌+◌, ◌-◌, ◌*◌, ◌≤◌, ◌<◌}
use mathlib.Core.Path.{◌≡◌, refl, sym, ap, ◌∙◌}
use mathlib.Core.List.{List, [], ◌∷◌}
use mathlib.Core.Bool.{Bool, true, false}
use native.Mathlib.Nat.{mul-le-mul_right}
use native.Mathlib.Decide.{dec_le, dec_lt, ℕ_discrete}
use native.Mathlib.Omega.{arith}
use lib.Dec.{ltb}
use lib.ListN.{length}
use borrow.Author.Tests.{eqb-true, eq-eqb, ne_eqb, lt-ltb, le-ltb}
use Rattle.model.specs.Tables.{sum, bit, tally}
use Rattle.model.specs.Word.{flow_of}
use Rattle.model.specs.Plan.{Plan, entry}
use Rattle.model.specs.Calls.{Event, History, requested, credited, ticked, lent, accepted, refused}
use Rattle.model.specs.History.{frame_of}
use Rattle.model.specs.Claim.{Each, GrantedWordAt}
use Rattle.model.specs.Scheduler.{reference}
use Rattle.arrival.specs.Delay.{due_in, TimelyInOrder, AsksAt, Modest}
use Rattle.arrival.specs.SeveralLinks.{slots_of, dues, due_slots, tile, Board, plan_on, sent_on, due_on, Within, EachWithin}
use Rattle.arrival.specs.Source.{up_to_frame, Source, Bursts, burst_frames, AsksAs, CameWithin, EachCameWithin, InTimeFromSource, FromSource, FromSourceOnArrival}
use Rattle.model.proofs.Tallies.{sum-le, tally-hit, tally-skip, tally-join}
use Rattle.model.proofs.Slots.{frame-begins, frame-ends, frame-high}
use Rattle.model.proofs.HistoryCounts.{NoneGranted}
use Rattle.arrival.proofs.TileSlots.{of_frame, tile-newest, tile-older}
use Rattle.arrival.proofs.NextLink.{Descending, due-own, due-other, due-in-is, since-all}
use Rattle.arrival.proofs.SeveralLinks.{ok, none, words, over-links}
use Rattle.arrival.proofs.LinksOnArrival.{way-with-room, modest-first}
use Rattle.arrival.proofs.Source.{sum_more, asked-soon}

-- ---- frames in the order of the tiles

tally-newer : (p : ℕ → Bool) (s : ℕ) (older : List ℕ) → tally p older ≤ tally p (s ∷ older)
unfolding tally
tally-newer p s older = omega arith

pub tally-length : (p : ℕ → Bool) (xs : List ℕ) → tally p xs ≤ length xs
unfolding tally
tally-length p [] = omega arith
tally-length p (x ∷ xs) = go (p x) (tally-length p xs)
  where
    go : (b : Bool) → tally p xs ≤ length xs → bit b + tally p xs ≤ suc (length xs)
    go true rest = omega (arith, rest)
    go false rest = omega (arith, rest)

tile-past : (n : ℕ) (xs : List ℕ) → length xs ≤ n → tile n xs ≡ 0
unfolding tile
tile-past n [] le = refl
tile-past n (x ∷ xs) le = rw (ne_eqb n (length xs) (λ e. omega arith)) (tile-past n xs (omega arith))

module _ (P : Plan) where
  tile-in-frame : (n : ℕ) (xs : List ℕ) → n < length xs → 0 < tally (of_frame P (frame_of P (tile n xs))) xs
  tile-in-frame n [] lt = absurd (omega arith)
  tile-in-frame n (s ∷ older) lt = go (tile-in-frame n older) (ℕ_discrete n (length older))
    where
      go : (n < length older → 0 < tally (of_frame P (frame_of P (tile n older))) older) → Dec (n ≡ length older)
          → 0 < tally (of_frame P (frame_of P (tile n (s ∷ older)))) (s ∷ older)
      go rest (yes e) =
          let is : tile n (s ∷ older) ≡ s = ap (λ k. tile k (s ∷ older)) e ∙ tile-newest s older in
          rw is (omega (arith, tally-hit (of_frame P (frame_of P s)) s older (eq-eqb (frame_of P s) (frame_of P s) refl)))
      go rest (no d) =
          let below : n < length older = omega arith in
          rw (tile-older s older n below) (omega (arith, rest below, tally-newer (of_frame P (frame_of P (tile n older))) s older))

  -- slot s lies in a frame before g
  abbrev pub before : ℕ → ℕ → Bool
  before g s = ltb (frame_of P s) g

  -- no more than n tiles lie in frames before that of tile n
  before-tile : (n : ℕ) (xs : List ℕ) → Descending P xs → n < length xs → tally (before (frame_of P (tile n xs))) xs ≤ n
  before-tile n [] down lt = absurd (omega arith)
  before-tile n (s ∷ older) down lt = go (before-tile n older down.1) (ℕ_discrete n (length older))
    where
      go : (n < length older → tally (before (frame_of P (tile n older))) older ≤ n) → Dec (n ≡ length older)
          → tally (before (frame_of P (tile n (s ∷ older)))) (s ∷ older) ≤ n
      go rest (yes e) =
          let is : tile n (s ∷ older) ≡ s = ap (λ k. tile k (s ∷ older)) e ∙ tile-newest s older in
          let skip = tally-skip (before (frame_of P s)) s older (le-ltb (frame_of P s) (frame_of P s) (omega arith)) in
          rw is (omega (arith, skip, tally-length (before (frame_of P s)) older))
      go rest (no d) =
          let below : n < length older = omega arith in
          let g = frame_of P (tile n older) in
          rw (tile-older s older n below) (not_before below (dec_le g (frame_of P s)))
        where
          not_before : (below : n < length older) → Dec (frame_of P (tile n older) ≤ frame_of P s) → tally (before (frame_of P (tile n older))) (s ∷ older) ≤ n
          not_before below (yes le) =
              let g = frame_of P (tile n older) in
              omega (arith, tally-skip (before g) s older (le-ltb (frame_of P s) g le), rest below)
          not_before below (no gt) = absurd (omega (arith, down.0 (frame_of P (tile n older)) (omega arith), tile-in-frame n older below))

  -- so of a list's frames one by one
  pub frames-before : (g : ℕ) (xs : List ℕ) → sum g (λ f. tally (of_frame P f) xs) ≤ tally (before g) xs
  frames-before g =
      tally-join g (before g) (of_frame P) (λ s j k p q. sym (eqb-true (frame_of P s) j p) ∙ eqb-true (frame_of P s) k q)
      (λ s f lt e. let is = eqb-true (frame_of P s) f e in lt-ltb (frame_of P s) g (omega arith))

-- where due frames don't go back
due-descending : (P : Plan) (i : ℕ) (h : History) → NoneGranted h → Each (GrantedWordAt P) h → Each (AsksAt TimelyInOrder P i) h
    → Descending P (due_slots P h i)
unfolding dues slots_of
due-descending P i [] none words asks = tt
due-descending P i (requested w (accepted v) ∷ h) none words asks = go (due-descending P i h none.1 words.1 asks.1) (ℕ_discrete (flow_of w) i)
  where
    go : Descending P (due_slots P h i) → Dec (flow_of w ≡ i) → Descending P (due_slots P (requested w (accepted v) ∷ h) i)
    go rest (yes own) =
        rw (due-own P w v h i own)
        ((λ f later. sym (due-in-is P h none.1 i f) ∙ (asks.0 words.0.asked_well_formed own).in_order f later), rest)
    go rest (no other) = rw (due-other P w v h i other) rest
due-descending P i (requested w (refused r) ∷ h) none words asks = due-descending P i h none.1 words.1 asks.1
due-descending P i (credited j p a ∷ h) none words asks = due-descending P i h none.1 words.1 asks.1
due-descending P i (ticked x ∷ h) none words asks = due-descending P i h none.1 words.1 asks.1
due-descending P i (lent m a ∷ h) none words asks = due-descending P i h none.1 words.1 asks.1
due-descending P i (Event.reset a ∷ h) none words asks = due-descending P i h none.1 words.1 asks.1

-- ---- the first board

module _ (a : Board reference) (modest : Modest TimelyInOrder 0 (plan_on a) a.stream a.events) (asks : ℕ → ℕ)
    (asked : AsksAs asks (plan_on a) a.stream a.events) where
  abbrev P : Plan
  P = plan_on a

  abbrev xs : List ℕ
  xs = due_on a

  down : Descending P xs
  down = due-descending P a.stream a.events (none a) (words a) (since-all _ a.events (none a) modest.asks)

  -- a tile that the source asks for by the end of frame f is due by then
  due-by : (n f : ℕ) → n < up_to_frame asks f → frame_of P (tile n xs) ≤ f
  due-by n f lt = listed (dec_lt n (length xs))
    where
      g : ℕ
      g = frame_of P (tile n xs)

      later : n < length xs → f < g → ⊥
      later there gt =
          let due-there : 0 < due_in P a.events a.stream g =
          omega (arith, tile-in-frame P n xs there, due-in-is P a.events (none a) a.stream g) in
          let to-there : g - suc f + suc f ≡ g = omega arith in
          omega (
            arith,
            sum_more asks (suc f) (g - suc f),
            ap (λ k. sum k asks) to-there,
            sum-le g asks (λ k. tally (of_frame P k) xs) (λ k below. omega (arith, asked g due-there k below, due-in-is P a.events (none a) a.stream k)),
            frames-before P g xs,
            before-tile P n xs down there,
          )

      listed : Dec (n < length xs) → g ≤ f
      listed (yes there) = go (dec_le g f)
        where
          go : Dec (g ≤ f) → g ≤ f
          go (yes le) = le
          go (no gt) = absurd (later there (omega arith))
      listed (no past) =
          let start : frame_of P (tile n xs) ≡ frame_of P 0 = ap (frame_of P) (tile-past n xs (omega arith)) in
          omega (arith, start, frame-high (ok a) 1 0 (omega (arith, (ok a).some_slot)))

  -- ---- the way

  module _ (burst : ℕ) (comes : ℕ → ℕ) (source : Source (entry P a.stream).share comes asks) (bursts : Bursts (entry P a.stream).share burst comes)
    where
      abbrev cost : ℕ
      cost = burst_frames (entry P a.stream).share burst

      some_share : 0 < (entry P a.stream).share
      some_share = ((ok a).entries_fit a.stream a.known).some_share

      came-by : (n f : ℕ) → n < up_to_frame comes f → frame_of P (tile n xs) ≤ f + cost
      came-by n f came = due-by n (f + cost) (asked-soon (entry P a.stream).share burst some_share comes asks source bursts n f came)

      came-within : (k : ℕ) (b : Board reference) → Within k P xs b → CameWithin (cost + k) comes b
      came-within k b within = record {
        frames_later = λ n f lt came. omega (arith, within.frames_later n lt, came-by n f came);
        slots_later = λ n x lt came.
            let F = (plan_on b).slots in
            let s = tile n (sent_on b) in
            let f = frame_of (plan_on b) x in
            let in_frames : frame_of (plan_on b) s ≤ f + (cost + k) = omega (arith, within.frames_later n lt, came-by n f came) in
            let ends : frame_of (plan_on b) s * F ≤ (f + (cost + k)) * F = mul-le-mul_right F in_frames in
            omega (arith, frame-ends (ok b) s, frame-begins (ok b) x);
      }

      each-came : (k j : ℕ) → k ≡ cost + j → (boards : List (Board reference)) → EachWithin j P xs boards → EachCameWithin k comes boards
      each-came k j is [] within = tt
      each-came k j is (b ∷ rest) within =
          (rw is (came-within j b within.0), each-came (k + 1) (j + 1) (omega (arith, is)) rest within.1)

pub in_time : (a : Board reference) (rest : List (Board reference)) → Modest TimelyInOrder 0 (plan_on a) a.stream a.events
    → EachWithin 1 (plan_on a) (due_on a) (a ∷ rest) → InTimeFromSource a rest
in_time a rest modest within burst comes asks source bursts asked =
    each-came a modest asks asked burst comes source bursts (burst_frames (entry (plan_on a) a.stream).share burst + 1) 1 refl (a ∷ rest) within

pub from_source : FromSource reference
from_source a rest way modest = in_time a rest modest ((over-links a rest way).from_due modest)

pub from-source-on-arrival : FromSourceOnArrival reference
from-source-on-arrival late a rest way keeps =
    let modest = modest-first late a keeps in
    in_time a rest modest ((over-links a rest (way-with-room a rest way)).from_due modest)
