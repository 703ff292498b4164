-- Which names are faulty: names in the arguments against the names of the query's inputs.
use Rattle.std.specs.Prelude.{ℕ, Bool, not, ◌||◌, if◌then◌else◌, List, [], ◌∷◌, Option, Some, None, length, map, sum_by}
use Rattle.std.specs.List.{list_any, slice_index_or}
use Rattle.std.specs.Str.{bytes_eq}
use Rattle.tilt_cli.specs.Binding.{Binding}
use Rattle.tilt_load.specs.declared.names.FaultyName.{FaultyName}
use Rattle.tilt_load.specs.declared.names.FaultyName.TheVariants.{Given, Input}

-- whether a name is among names
abbrev pub is_among : List ℕ → List (List ℕ) → Bool
is_among name names = list_any (λ other. bytes_eq other name) names

-- the names that are bound, in order
abbrev pub bound_names : List Binding → List (List ℕ)
bound_names binds = map (λ bind. bind.name) binds

-- the first of the given names that isn't declared, or is given a second time after those before
abbrev pub first_unexpected : List (List ℕ) → List (List ℕ) → List (List ℕ) → Option (List ℕ)
first_unexpected declared before [] = None
first_unexpected declared before (name ∷ names) =
    if not (is_among name declared) || is_among name before then Some name else first_unexpected declared (name ∷ before) names

-- the first declared name that isn't given
abbrev pub first_unbound : List (List ℕ) → List (List ℕ) → Option (List ℕ)
first_unbound bound [] = None
first_unbound bound (name ∷ names) = if is_among name bound then first_unbound bound names else Some name

-- the first of two, if it is there
abbrev pub first_of_two : Option (List ℕ) → Option (List ℕ) → Option (List ℕ)
first_of_two None second = second
first_of_two (Some name) second = Some name

-- of names that the arguments give to declared ones, the faulty name that is reported, if there is one
abbrev pub faulty_among : List (List ℕ) → List (List ℕ) → Option (List ℕ)
faulty_among declared given = first_of_two (first_unexpected declared [] given) (first_unbound given declared)

-- the same of binds
abbrev pub faulty_name : List (List ℕ) → List Binding → Option (List ℕ)
faulty_name declared binds = faulty_among declared (bound_names binds)

-- the file that is bound to a name; no file if none is
abbrev pub file_of : List Binding → List ℕ → List ℕ
file_of [] name = []
file_of (bind ∷ binds) name = if bytes_eq bind.name name then bind.file else file_of binds name

-- how many bytes the files have that are bound to names
abbrev pub bytes_of_inputs : (List ℕ → List ℕ) → List Binding → List (List ℕ) → ℕ
bytes_of_inputs files binds names = sum_by (λ name. length (files (file_of binds name))) names

-- the name that is reported: a given one itself, or the name of the input at a place
abbrev pub name_told : List (List ℕ) → FaultyName → List ℕ
name_told declared (Given name) = name.now
name_told declared (Input place) = slice_index_or declared place []
