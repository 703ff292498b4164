-- The cut of each input, as arguments give it.
use Rattle.std.specs.Prelude.{◌≡◌, ℕ, ℤ, pos, if◌then◌else◌, List, [], ◌∷◌, Option, Some, None, length, map}
use Rattle.std.specs.Int.{int_min}
use Rattle.std.specs.Str.{bytes_eq}
use Rattle.tilt_checkpoint.specs.Cuts.{CutsParts, same_cuts}
use Rattle.tilt_load.specs.Inputs.{faulty_among}
use Rattle.tilt_report.specs.Report.{Reason, cut_names}
use Rattle.tilt_cli.specs.Upto.{CutBinding, UptoValue, all, each}

-- the names that have cuts, in order
abbrev pub names_cut : List CutBinding → List (List ℕ)
names_cut cuts = map (λ binding. binding.name) cuts

-- the faulty name among them, if there is one: a cut for all has none
abbrev pub faulty_cut : List (List ℕ) → UptoValue → Option (List ℕ)
faulty_cut inputs (all cut) = None
faulty_cut inputs (each cuts) = faulty_among inputs (names_cut cuts)

-- why the cuts in arguments are rejected: a name is faulty, and the reason has it
pub data RefusesCuts (inputs : List (List ℕ)) (upto : UptoValue) : Reason → Type 0 where
  by_names : (name : List ℕ) → faulty_cut inputs upto ≡ Some name → RefusesCuts inputs upto (cut_names name)

-- the cut of a name; 0 if it has none
abbrev pub cut_named : List CutBinding → List ℕ → ℤ
cut_named [] name = pos 0
cut_named (binding ∷ cuts) name = if bytes_eq binding.name name then binding.cut else cut_named cuts name

-- the least of numbers; 0 if there is none
abbrev pub least_of : List ℤ → ℤ
least_of [] = pos 0
least_of (number ∷ []) = number
least_of (number ∷ next ∷ more) = int_min number (least_of (next ∷ more))

-- the cuts of inputs, with their least
abbrev pub with_least : List ℤ → CutsParts
with_least numbers = record { least = least_of numbers; each = numbers }

-- the cuts that arguments give to the inputs of these names: one for all, or a cut for each by its name
abbrev pub cuts_by : UptoValue → List (List ℕ) → CutsParts
cuts_by (all cut) inputs = same_cuts (length inputs) cut
cuts_by (each cuts) inputs = with_least (map (cut_named cuts) inputs)
