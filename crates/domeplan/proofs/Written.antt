-- What a writer holds after one write more. Assumes nothing.
use Rattle.std.proofs.Common.{ℕ, ◌+◌, ◌-◌, ◌≤◌, Option, None, Some, List, [], ◌++◌, take, drop, sym, ap, ◌∙◌, subst, append_assoc, arith}
use mathlib.Core.List.{append-nil}
use Rattle.std.specs.Io.KnownBytes.{Appends}
use Rattle.std.proofs.Math.Seq.{take-add}
use Rattle.std.proofs.lemmas.List.{take-take}

pub appends-none : (held : Option (List ℕ)) → Appends held held []
appends-none None = tt
appends-none (Some a) = sym (append-nil a)

pub appends-both : (old then new : Option (List ℕ)) (xs ys : List ℕ) → Appends old then xs → Appends then new ys → Appends old new (xs ++ ys)
appends-both None then new xs ys p q = tt
appends-both (Some a) None new xs ys p q = elim p [ ]
appends-both (Some a) (Some b) None xs ys p q = q
appends-both (Some a) (Some b) (Some c) xs ys p q = q ∙ ap (λ l. l ++ ys) p ∙ append_assoc a xs ys

-- after the first bytes of a text up to a place, some of those from there to its end
pub more-written : (old then new : Option (List ℕ)) (text : List ℕ) (done n end : ℕ) → done + n ≤ end
    → Appends old then (take done text) → Appends then new (take n (take (end - done) (drop done text))) → Appends old new (take (done + n) text)
more-written old then new text done n end most p q =
    let e = take-take n (end - done) (drop done text) (omega (arith, most)) in
    subst (Appends old new) (ap (λ l. take done text ++ l) e ∙ sym (take-add done n text)) (appends-both old then new _ _ p q)
