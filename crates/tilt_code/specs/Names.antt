-- Names, and a set in which they are looked up.
use Rattle.std.specs.Prelude.{◌≡◌, ℕ, List}
use Rattle.std.specs.BTreeSet.{BTreeSet, contains_by}
use Rattle.std.specs.Cmp.Lexicographic.{slice_cmp}
use Rattle.std.specs.List.{list_any}
use Rattle.std.specs.Ordering.{nat_cmp}
use Rattle.std.specs.Str.{bytes_eq}

-- the set, whose keys have these bytes, has each of the names, and no others
abbrev pub KnowsEach : {K : Type 0} → BTreeSet K → (K → List ℕ) → List (List ℕ) → Type 0
KnowsEach known bytes names =
    (x : List ℕ) → contains_by (λ key. slice_cmp nat_cmp x (bytes key)) known ≡ list_any (λ name. bytes_eq name x) names
