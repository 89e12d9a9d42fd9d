-- Two links of a way, the second of which sends a tile ahead: in the slot after the one in which it comes; and in that very slot, so that it leaves both links
-- at once. Assumes nothing.
use Prim.Native.Nat.{ℕ, ◌≤◌, ◌<◌}
use mathlib.Core.Path.{◌≡◌, refl}
use mathlib.Core.List.{List, ◌∷◌, []}
use mathlib.Core.Bool.{Bool, true, false}
use native.Mathlib.Omega.{arith}
use lib.Dec.{lit<, lit≤, leb}
use Rattle.model.specs.Tables.{bit}
use Rattle.model.specs.Plan.{plan_of}
use Rattle.model.specs.Calls.{Call, requested, accepted}
use Rattle.model.specs.Scheduler.{reference}
use Rattle.model.specs.PlanBytes.{plan1}
use Rattle.arrival.specs.Delay.{RoomFrom}
use Rattle.arrival.specs.SeveralLinks.{slots_of, tile, Board, plan_on, sent_on, Joined}
use Rattle.arrival.specs.SeveralLinks as links
use Rattle.ahead.specs.AheadRuns.{WithAhead, start, both_tick, both_request, sent_ahead, AnsweredAlike, BookedAlike}
use Rattle.ahead.specs.Sendings.{SentWell, sending_of, LentOnlyAhead}
use Rattle.ahead.specs.AheadOverLinks.{leaves_of, left_on}
use Rattle.ahead.specs.LessAhead.{AfterButReady}
use Rattle.model.proofs.Demand3.{meets}
use Rattle.ahead.proofs.Sendings.{sends-well}
use Rattle.ahead.proofs.AheadDecided.{ahead-computes}
use Rattle.ahead.proofs.LeaveAfter.{leave-after}
use Rattle.ahead.proofs.LessAhead.{after}

bit-most : (b : Bool) → bit b ≤ 1
bit-most true = lit≤ tt
bit-most false = lit≤ tt

-- a request that is granted with one word in two runs
one_answer : {t b : ℕ} (v : ℕ) → AnsweredAlike t b (accepted v) (accepted v)
one_answer v = record { same_grant = refl; same_answer = λ le. refl }

-- ---- in the slot after it comes

-- F = 4, W = 3, share 1, 3 cells, on both. The first board grants slots 3 and 4. The second is asked ahead, with these as departures, and grants slots 4 and 8:
-- the share of frame 1 is used. In slot 5 it sends the tile of slot 8 ahead, which came in slot 4.
abbrev pub three : List ℕ
three = plan1 4 3 8 1 3

abbrev pub five_ticks : List Call → List Call
five_ticks rest = Call.tick ∷ Call.tick ∷ Call.tick ∷ Call.tick ∷ Call.tick ∷ rest

abbrev pub first_calls : List Call
first_calls = Call.request 0x24000002 ∷ Call.request 0x24000403 ∷ five_ticks []

abbrev pub next_calls : List Call → List Call
next_calls sent = Call.request 0x24000003 ∷ Call.request 0x24000404 ∷ five_ticks sent

unfoldable pub first : Board reference
unfolding ahead-computes
first = record {
  bytes = three;
  passes = refl;
  events = after three first_calls;
  ran = record { calls = first_calls; is = refl };
  no_reset = refl;
  stream = 0;
  known = lit< tt;
}

unfoldable pub next : Board reference
unfolding ahead-computes
next = record {
  bytes = three;
  passes = refl;
  events = after three (next_calls []);
  ran = record { calls = next_calls []; is = refl };
  no_reset = refl;
  stream = 0;
  known = lit< tt;
}

pub room_next : RoomFrom (plan_of three) 0 8 (requested 0x24000003 (accepted 0x24000004) ∷ [])
unfolding ahead-computes
room_next r le = omega (arith, bit-most (leb 4 r))

unfoldable pub joined : Joined first next
unfolding ahead-computes first next slots_of tile
joined = record {
  in_step = record { slots = refl; frames = refl };
  share_kept = lit≤ tt;
  together =
      links.both_tick (links.both_tick (links.both_tick (links.both_tick (links.both_tick
      (links.second_alone (requested 0x24000404 (accepted 0x24000408)) tt
      (λ well own. record {
        for_next = record { sent = lit< tt; departs = refl; not_late = lit≤ tt };
        in_time = lit< tt;
        room = room_next;
        number = refl;
      })
      (links.second_alone (requested 0x24000003 (accepted 0x24000004)) tt
      (λ well own. record {
        for_next = record { sent = lit< tt; departs = refl; not_late = lit≤ tt };
        in_time = lit< tt;
        room = λ r le. lit< tt;
        number = refl;
      })
      (links.first_alone (requested 0x24000403 (accepted 0x24000404)) tt
      (links.first_alone (requested 0x24000002 (accepted 0x24000003)) tt links.start))))))));
}

-- the first sends nothing ahead
unfoldable pub as-booked : WithAhead first.events (after three first_calls)
unfolding ahead-computes first
as-booked = both_tick (both_tick (both_tick (both_tick (both_tick (both_request 0x24000403 (both_request 0x24000002 start))))))

unfoldable pub sent-on : WithAhead next.events (after three (next_calls (Call.lend 1 ∷ Call.credit 0 8 ∷ [])))
unfolding ahead-computes next
sent-on = sent_ahead 0 8 (both_tick (both_tick (both_tick (both_tick (both_tick (both_request 0x24000404 (both_request 0x24000003 start)))))))

alike-first : BookedAlike (plan_on first) as-booked
unfolding ahead-computes first as-booked
alike-first = record {
  unmoved = (refl, (refl, (refl, (refl, (refl, (one_answer _, (one_answer _, tt)))))));
  same_grants = refl;
}

alike_next : BookedAlike (plan_on next) sent-on
unfolding ahead-computes next sent-on
alike_next = record {
  unmoved = (refl, (refl, (refl, (refl, (refl, (one_answer _, (one_answer _, tt)))))));
  same_grants = refl;
}

only-first : LentOnlyAhead (sending_of as-booked) first.stream
unfolding ahead-computes first as-booked
only-first = (tt, (tt, (tt, (tt, (tt, (tt, (tt, tt)))))))

only_next : LentOnlyAhead (sending_of sent-on) next.stream
unfolding ahead-computes next sent-on
only_next = (tt, (tt, (tt, (tt, (tt, (tt, (tt, tt)))))))

sent-well : SentWell (plan_on next) (sending_of sent-on)
unfolding ahead-computes next sent-on
sent-well = sends-well reference meets three refl (next_calls (Call.lend 1 ∷ Call.credit 0 8 ∷ [])) (sending_of sent-on) (lit< {n = 1} tt, tt)

-- so it leaves the second in a later slot than the first: in slot 5, and slot 4
pub leaves_after : (tile 1 (sent_on first) ≡ 4) × (tile 1 (left_on next sent-on) ≡ 5)
unfolding ahead-computes first next sent-on leaves_of slots_of tile
leaves_after = (refl, refl)

pub after-it-came : tile 1 (sent_on first) < tile 1 (left_on next sent-on)
unfolding ahead-computes first next slots_of
after-it-came = (leave-after first next joined _ _ as-booked sent-on alike-first only-first alike_next only_next sent-well).after_slot 1 (lit< tt)

-- ---- in the very slot

-- F = 4, W = 2, share 1, 2 cells, on both. The first board grants slot 1. In slot 1 the second is asked with that as the departure, grants slot 2, and sends
-- the tile ahead: it leaves both in slot 1.
abbrev two : List ℕ
two = plan1 4 2 8 1 2

abbrev one_call : List Call
one_call = Call.request 0x24000000 ∷ Call.tick ∷ []

abbrev at_once : List Call → List Call
at_once sent = Call.tick ∷ Call.request 0x24000001 ∷ sent

unfoldable one : Board reference
unfolding ahead-computes
one = record {
  bytes = two;
  passes = refl;
  events = after two one_call;
  ran = record { calls = one_call; is = refl };
  no_reset = refl;
  stream = 0;
  known = lit< tt;
}

unfoldable other : Board reference
unfolding ahead-computes
other = record {
  bytes = two;
  passes = refl;
  events = after two (at_once []);
  ran = record { calls = at_once []; is = refl };
  no_reset = refl;
  stream = 0;
  known = lit< tt;
}

unfoldable joined-too : Joined one other
unfolding ahead-computes one other slots_of tile
joined-too = record {
  in_step = record { slots = refl; frames = refl };
  share_kept = lit≤ tt;
  together =
      links.second_alone (requested 0x24000001 (accepted 0x24000002)) tt
      (λ well own. record {
        for_next = record { sent = lit< tt; departs = refl; not_late = lit≤ tt };
        in_time = lit< tt;
        room = λ r le. lit< tt;
        number = refl;
      })
      (links.both_tick (links.first_alone (requested 0x24000000 (accepted 0x24000001)) tt links.start));
}

unfoldable none-sent : WithAhead one.events (after two one_call)
unfolding ahead-computes one
none-sent = both_tick (both_request 0x24000000 start)

unfoldable at-once : WithAhead other.events (after two (at_once (Call.lend 1 ∷ Call.credit 0 2 ∷ [])))
unfolding ahead-computes other
at-once = sent_ahead 0 2 (both_request 0x24000001 (both_tick start))

pub after-not-without-ready : AfterButReady reference → ⊥
unfolding ahead-computes one other none-sent at-once leaves_of slots_of tile
after-not-without-ready kept =
    let x = kept one other joined-too one_call (at_once (Call.lend 1 ∷ Call.credit 0 2 ∷ [])) none-sent at-once
    (record { unmoved = (refl, (one_answer _, tt)); same_grants = refl }) (tt, (tt, tt))
    (record { unmoved = (one_answer _, (refl, tt)); same_grants = refl }) (tt, (tt, tt)) (lit< {n = 1} tt, tt) in
    omega (arith, x.after_slot 0 (lit< tt))
