-- Every tile of a show arrives, where our board plays the crossings. Assumes nothing.
use Prim.Native.Nat.{ℕ, suc, ◌+◌, ◌*◌}
use mathlib.Core.Path.{◌≡◌, sym, ap, ◌∙◌}
use mathlib.Core.List.{List, ◌∷◌, []}
use native.Mathlib.Omega.{arith}
use lib.ListN.{length}
use Rattle.model.specs.Scheduler.{reference}
use Rattle.arrival.specs.SeveralLinks.{Board}
use Rattle.arrival.specs.CreditedByNext.{WayByCredits}
use Rattle.mesh.specs.Way.{way}
use Rattle.show.specs.Show.{Show, show_stream}
use Rattle.show.specs.Delay as show-delay
use Rattle.show.specs.Delay.{EnoughCells}
use Rattle.show.proofs.Delay.{EachFits, there-all, each_fits, as_many, in_time, all_in_time}
use Rattle.crossings.specs.Crossing.{served}
use Rattle.showcrossings.specs.Ways.{PlansJoin, PlansFit}
use Rattle.showcrossings.specs.Dome.{DomeArrives}
use Rattle.showcrossings.proofs.Ways.{passes-along}

-- the plans of a show fit a stream's way, from link number p of m on
module _ (show : Show) (i late : ℕ) (enough : EnoughCells show late i) where
  abbrev m : ℕ
  m = length (way (show_stream show i).stream)

  plans-fit : (p : ℕ) (a : Board reference) (rest : List (Board reference)) → p + suc (length rest) ≡ m → EachFits show (show_stream show i) p m (a ∷ rest)
      → PlansFit late a rest
  plans-fit p a [] e fs =
      let shares = ap ((late + 2) *◌) fs.0.fits_there.share_is in
      omega (arith, shares, fs.0.at_last (omega arith), enough.last)
  plans-fit p a (b ∷ rest) e fs = (joined, plans-fit (suc p) b rest (omega arith) fs.1)
    where
      joined : PlansJoin a b
      joined =
          let f = fs.0.fits_there in
          let g = fs.1.0.fits_there in
          record {
            in_step = record { slots = f.slots_are ∙ sym g.slots_are; frames = f.frames_are ∙ sym g.frames_are };
            share_kept = omega (arith, f.share_is, g.share_is);
            two_shares = omega (arith, f.share_is, fs.0.before_last (omega arith), enough.usual (omega arith));
          }

-- a way by credits is one that the theorem on shows asks for
passed_on : (late : ℕ) (a : Board reference) (rest : List (Board reference)) → WayByCredits late a rest → show-delay.PassedAlong late a rest
passed_on late a [] way = way.given_back
passed_on late a (b ∷ rest) way =
    (record { together = way.0.together; credits = way.0.credits; not_lent = way.0.not_lent }, passed_on late b rest way.1)

pub dome-arrives : DomeArrives served
dome-arrives show none i below late enough a rest on modest ends crossed =
    let ls = way (show_stream show i).stream in
    let fits = plans-fit show i late enough 0 a rest (omega (arith, as_many show i ls (a ∷ rest) on))
    (each_fits show i 0 ls (a ∷ rest) (there-all show i none below) on) in
    let x = passes-along late a rest fits modest ends crossed in
    let passed = passed_on late a rest x.by_credits in
    record {
      none_waits = x.none_waits;
      in_time = in_time show none i below late enough a rest on modest passed;
      all_in_time = all_in_time show none i below late enough a rest on modest passed x.all_asked;
    }
