-- A listing's events are those of a run of the reference scheduler, and so they meet demand 3. Assumes nothing.
use Prim.Native.Nat.{ℕ, ◌<◌}
use mathlib.Core.Path.{◌≡◌, refl, sym, ap, ◌∙◌, subst}
use mathlib.Core.List.{List, [], ◌∷◌, map, reverse, reverse_aux, reverse-reverse}
use mathlib.Core.Option.{Option, some, none}
use Rattle.model.specs.Plan.{flow_count, plan_of, refusal}
use Rattle.model.specs.Calls.{Call, History}
use Rattle.model.specs.Link.{Link}
use Rattle.model.specs.Fresh.{fresh}
use Rattle.model.specs.Claim.{Demand3}
use Rattle.model.specs.Scheduler.{Played, reference, play}
use Rattle.model.specs.Record.{RecordCall, as_call}
use Rattle.model.specs.Listing.{as_event, calls_of, made, outcomes, link_after_calls, present, link_after}
use Rattle.model.proofs.Demand3.{meets}

-- a link, after the events of a history
abbrev pub from : Link → History → Played reference
from l h = record { state = l; history = h }

-- ---- records' calls, played

-- the calls that are made, as those of demand 3's list
abbrev list_of : List (Option RecordCall) → List Call
list_of cs = map as_call (present cs)

history-played : (l : Link) (h : History) (cs : List (Option RecordCall))
    → (play reference (from l h) (list_of cs)).history ≡ reverse_aux (map as_event (present (outcomes l cs))) h
unfolding play outcomes
history-played l h [] = refl
history-played l h (some (RecordCall.request w) ∷ cs) = history-played (made l (some (RecordCall.request w))).link _ cs
history-played l h (some (RecordCall.credit i p) ∷ cs) = history-played (made l (some (RecordCall.credit i p))).link _ cs
history-played l h (some RecordCall.tick ∷ cs) = history-played (made l (some RecordCall.tick)).link _ cs
history-played l h (none ∷ cs) = history-played l h cs

link-played : (l : Link) (h : History) (cs : List (Option RecordCall)) → link_after_calls l cs ≡ (play reference (from l h) (list_of cs)).state
unfolding play link_after_calls
link-played l h [] = refl
link-played l h (some (RecordCall.request w) ∷ cs) = link-played (made l (some (RecordCall.request w))).link _ cs
link-played l h (some (RecordCall.credit i p) ∷ cs) = link-played (made l (some (RecordCall.credit i p))).link _ cs
link-played l h (some RecordCall.tick ∷ cs) = link-played (made l (some RecordCall.tick)).link _ cs
link-played l h (none ∷ cs) = link-played l h cs

-- ---- a stream of records

-- the calls that a stream of records makes, and the events of its listing
abbrev pub calls_in : List ℕ → List Call
calls_in stream = list_of (calls_of stream)

abbrev pub events_in : Link → List ℕ → History
events_in l stream = map as_event (present (outcomes l (calls_of stream)))

-- The events of a listing are those of its calls, played on the reference scheduler.
pub listing-played : (l : Link) (stream : List ℕ) → events_in l stream ≡ reverse (play reference (from l []) (calls_in stream)).history
listing-played l stream = sym (ap reverse (history-played l [] (calls_of stream)) ∙ reverse-reverse (events_in l stream))

pub link-after-played : (l : Link) (stream : List ℕ) → link_after l stream ≡ (play reference (from l []) (calls_in stream)).state
unfolding link_after
link-after-played l stream = link-played l [] (calls_of stream)

-- After an accepted plan they meet demand 3.
pub listing-meets : (bytes : List ℕ) → refusal bytes ≡ 0 → (stream : List ℕ) (i : ℕ) → i < flow_count (plan_of bytes)
    → Demand3 (plan_of bytes) i (reverse (events_in (fresh (plan_of bytes)) stream))
listing-meets bytes passes stream i known =
    subst (Demand3 (plan_of bytes) i) (history-played (fresh (plan_of bytes)) [] (calls_of stream)) (meets bytes passes (calls_in stream) i known)
