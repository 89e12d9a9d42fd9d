-- Edges of the line of faults, one table. RULES 15.4, 20.4. Assumes nothing.
use Rattle.std.specs.Prelude.{ℕ, ◌≡◌, List, ◌∷◌, [], ◌++◌, map, true, false}
use Prim.Native.String.{String}
use Rattle.model.specs.Listing.{text}
use Rattle.faults.specs.Told.{told, faults_line}

pub record Case : Type 0 where
  pub faults : List ℕ
  pub line : String

abbrev says : List ℕ → String → Case
says faults line = record { faults = faults; line = line }

-- Every line comes out as expected.
abbrev pub Pass : List Case → Type 0
Pass cases = map (λ e. faults_line e.faults) cases ≡ map (λ e. text e.line) cases

unfoldable pub fault_edges : List Case
fault_edges =
    -- none, also where a limit is looked at that holds
    says [] "ok\n"
    ∷ says (told false 2 17 0) "ok\n"
    -- number, place and which, in this order, with one blank before each but the first
    ∷ says (told true 4 15 3) "4 15 3\n"
    ∷ says (told true 2 0 0) "2 0 0\n"
    -- those that are broken, in the order in which they are looked at
    ∷ says (told true 3 2 260 ++ told false 3 3 9 ++ told true 6 1000 64) "3 2 260 6 1000 64\n"
    ∷ []
