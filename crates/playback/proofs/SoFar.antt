-- What holds between records: those up to a place are played. Assumes nothing.
use Prim.Native.Nat.{ℕ, ◌+◌, ◌*◌, ◌/◌, ◌%◌, ◌≤◌, ◌<◌}
use mathlib.Core.Path.{◌≡◌, refl, ap, ◌∙◌}
use mathlib.Core.List.{List}
use native.Mathlib.Omega.{arith}
use lib.ListN.{length, take}
use lib.Seq.{sets, length-sets}
use Rattle.plan.specs.declared.Plan.{Plan}
use Rattle.calls.specs.declared.Answer.{Answer}
use Rattle.calls.specs.Reading.{line_for}
use Rattle.calls.specs.Lines.{Puts}
use Rattle.calls.proofs.PlayedTo.{PlayedTo, played-none, call_at, played-more}
use Rattle.model.specs.Listing.{listing, link_after}
use Rattle.window.specs.declared.Window.{Window}
use Rattle.link.specs.declared.Link.{Link}
use Rattle.link.specs.Given.{StateIn}
use Rattle.link.specs.Steps.{read_in, read_of}
use Rattle.playback.specs.Playback.{playable, PlayedRecords}
use Rattle.playback.proofs.Records.{Made, Played}

-- From link `start` the records up to the place `at` are played, and their lines stand in what was `out₀` up to `end`.
pub record SoFar (start : Link) (records out₀ : List ℕ) (used at : ℕ) (state : List ℕ) (w : Window) (out : List ℕ)
    (end : ℕ) : Type 0 where
  pub at_most : at ≤ used
  pub used_is : used ≡ 5 * playable records out₀
  pub whole : at % 5 ≡ 0
  pub seven_most : 5 * end ≤ 7 * at
  pub played : PlayedTo (read_of start) records out₀ 0 at (read_in start.plan state) out end
  pub hand : StateIn start.plan w state

-- a record's call, or none, is played from state s, and the line of its answer is written
pub record Told (plan : Plan) (s : List ℕ) (o : Made) (w : Window) (after : List ℕ) (out : List ℕ) (end : ℕ) (out' : List ℕ) (end' : ℕ) : Type 0 where
  pub answer : Answer
  pub played : Played plan s o w after answer
  pub put : Puts (line_for answer) out out' end end'
  pub most : end' ≤ end + 7

-- how far the records go
record Reach (records out : List ℕ) (used : ℕ) : Type 0 where
  pub whole : used % 5 ≡ 0
  pub in_records : used ≤ length records
  pub in_out : 7 * used ≤ 5 * length out

reach : (records out : List ℕ) (used : ℕ) → used ≡ 5 * playable records out → Reach records out used
reach records out used e =
    let k = playable records out in
    let a : k ≤ length records / 5 = omega arith in
    let b : k ≤ length out / 7 = omega arith in
    record { whole = omega arith; in_records = omega arith; in_out = omega arith }

-- nothing is played yet
pub none_yet : {start : Link} {records out : List ℕ} {used : ℕ} {w : Window} → used ≡ 5 * playable records out
    → StateIn start.plan w start.state → SoFar start records out used 0 start.state w out 0
none_yet {start} {records} {out} e hand = record {
  at_most = omega arith;
  used_is = e;
  whole = refl;
  seven_most = omega arith;
  played = played-none (read_of start) records out 0;
  hand = hand;
}

module _ {start : Link} {records out₀ : List ℕ} {used at : ℕ} {state : List ℕ} {w : Window} {out : List ℕ} {end : ℕ}
    (s : SoFar start records out₀ used at state w out end) where
  pub same_size : length out ≡ length out₀
  same_size = ap length s.played.lines ∙ length-sets out₀ 0 (listing (read_of start) (take at records))

  -- the line of a record has room
  pub room : at < used → end + 7 ≤ length out
  room before =
      let r = reach records out₀ used s.used_is in
      let on : at + 5 ≤ used = omega (arith, s.whole, r.whole) in
      omega (arith, same_size, s.seven_most, r.in_out)

  -- one record more: it was played, and its line was written
  pub one_more : at < used → {next : ℕ} → next ≡ at + 5 → {w' : Window} {state' : List ℕ} {out' : List ℕ} {end' : ℕ}
      → Told start.plan state (call_at records at) w' state' out end out' end'
      → SoFar start records out₀ used next state' w' out' end'
  one_more before e t =
      let p = t.played in
      let r = reach records out₀ used s.used_is in
      let on : at + 5 ≤ used = omega (arith, s.whole, r.whole) in
      rw e (record {
        at_most = on;
        used_is = s.used_is;
        whole = omega (arith, s.whole);
        seven_most = omega (arith, s.seven_most, t.most);
        played = played-more s.played s.whole (omega (arith, r.in_records)) p.link_is p.line_is t.put;
        hand = p.hand;
      })

  -- all are played
  pub all-played : used ≤ at → PlayedRecords (read_of start) records out₀ (read_in start.plan state) used end out
  all-played e =
      let z : at ≡ used = omega (arith, s.at_most) in
      record {
        used_is = s.used_is;
        link_is = s.played.link ∙ ap (λ n. link_after (read_of start) (take n records)) z;
        written_is = let u = s.played.up_to in let v = ap (λ n. length (listing (read_of start) (take n records))) z in omega arith;
        out_is = s.played.lines ∙ ap (λ n. sets out₀ 0 (listing (read_of start) (take n records))) z;
        seven_most = omega (arith, s.seven_most);
      }
