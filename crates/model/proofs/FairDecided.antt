-- Whether a flow waits in a stretch of a history is decided. Assumes nothing.
use Prim.Native.Nat.{ℕ}
use mathlib.Core.List.{◌∷◌, [], ◌++◌}
use mathlib.Core.Logic.Dec
use native.Mathlib.Decide.{ℕ_discrete}
use Rattle.model.specs.Tables.{tally}
use Rattle.model.specs.Plan.{Plan}
use Rattle.model.specs.Calls.{Event, History, requested, credited, ticked, lent, accepted, refused, in_mask}
use Rattle.model.specs.History.{is_granted_reset}
use Rattle.model.specs.Fairness.{Waits, WaitsAt, EachOf, Waiting}
use Rattle.model.proofs.Decidable.{same, is_true}
use Rattle.model.proofs.ClaimDecided.{has_room}

unfoldable pub waits : (P : Plan) (i mask : ℕ) (h : History) → Dec (Waits P i mask h)
waits P i mask h =
    same (λ r. record { in_mask = r.0; can_take = r.1 }) (λ w. (w.in_mask, w.can_take)) (Dec.and (is_true (in_mask mask i)) (has_room P i h))

unfoldable pub waits-at : (P : Plan) (i : ℕ) (e : Event) (h : History) → Dec (WaitsAt P i e h)
waits-at P i (requested w a) h = yes tt
waits-at P i (credited j p a) h = yes tt
waits-at P i (ticked x) h = yes tt
waits-at P i (lent mask (accepted j)) h = waits P i mask h
waits-at P i (lent mask (refused r)) h = yes tt
waits-at P i (Event.reset a) h = yes tt

unfoldable pub each-waits : (P : Plan) (i : ℕ) (stretch early : History) → Dec (EachOf (WaitsAt P i) stretch early)
each-waits P i [] early = yes tt
each-waits P i (e ∷ stretch) early = Dec.and (waits-at P i e (stretch ++ early)) (each-waits P i stretch early)

unfoldable pub waiting : (P : Plan) (i : ℕ) (stretch early : History) → Dec (Waiting P i stretch early)
unfolding waits waits-at each-waits
waiting P i stretch early =
    same (λ r. record { no_reset = r.0; waits = r.1 }) (λ w. (w.no_reset, w.waits))
    (Dec.and (ℕ_discrete (tally is_granted_reset stretch) 0) (each-waits P i stretch early))
