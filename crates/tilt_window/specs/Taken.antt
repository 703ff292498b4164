-- Taking a cell out of a window.
use Rattle.std.specs.Prelude.{◌≡◌, ℤ, List, [], ◌∷◌, Option, MatchOption}

-- the first of the cells was taken and the others are left; none was taken exactly where there was none
abbrev pub IsFirstTaken : List (Option ℤ) → Option (Option ℤ) → List (Option ℤ) → Type 0
IsFirstTaken cells taken left = MatchOption taken ((cells ≡ []) × (left ≡ [])) (λ cell. cells ≡ cell ∷ left)
