-- What the series files of inputs give: their rows, or the first reason why an input has none.
use Rattle.std.specs.Prelude.{◌≡◌, ◌≤ℤ◌, ◌<ℤ◌, ⊤, List, [], ◌∷◌, ◌++◌, ℕ, zero, suc, ℤ, length, nat_lt, slice_get, if◌then◌else◌}
use Rattle.std.specs.Prelude.{Option, Some, None, Result, Ok, Err}
use Rattle.std.specs.List.{AllByRecursion}
use Rattle.std.specs.Option.{ForSome}
use Rattle.tilt_base.specs.declared.limits.TheConstants.{FILE}
use Rattle.tilt_checkpoint.specs.Checkpoint.{KeptParts}
use Rattle.tilt_load.specs.Inputs.{faulty_name, file_of}
use Rattle.tilt_report.specs.Report.{Reason, input_names, file_too_long, bad_series}
use Rattle.tilt_series.specs.Series.{Bounds, series_of}
use Rattle.tilt_series.specs.declared.fault.SeriesFault.{SeriesFault}
use Rattle.tilt_stream.specs.Snap.{Snapshot}
use Rattle.tilt_cli.specs.Binding.{Binding}

-- no bound but the order of the rows
abbrev pub no_bounds : Bounds
no_bounds = record { last_end = None; from = None; upto = None }

-- the bounds of the input at a place, counted from 0; an input beyond the list has none
abbrev pub bounds_in : List Bounds → ℕ → Bounds
bounds_in [] place = no_bounds
bounds_in (b ∷ bounds) zero = b
bounds_in (b ∷ bounds) (suc place) = bounds_in bounds place

-- a row starts within the bounds
pub record IsWithin (bounds : Bounds) (row : Snapshot) : Type 0 where
  pub behind : ForSome bounds.last_end (λ end. end ≤ℤ row.start)
  pub late : ForSome bounds.from (λ tick. tick ≤ℤ row.start)
  pub early : ForSome bounds.upto (λ tick. row.start <ℤ tick)

-- the rows of each input start within the bounds of its place
abbrev pub AreWithin : (ℕ → Bounds) → List (List Snapshot) → Type 0
AreWithin bounds [] = ⊤
AreWithin bounds (rows ∷ more) = AllByRecursion (IsWithin (bounds 0)) rows × AreWithin (λ place. bounds (suc place)) more

-- the rows of an input, or why it is rejected
abbrev pub named : List ℕ → Result (List Snapshot) SeriesFault → Result (List Snapshot) Reason
named name (Ok rows) = Ok rows
named name (Err fault) = Err (bad_series name fault)

-- the rows of the input of a name in a file, within bounds, or why it is rejected
abbrev pub input_read : (List ℕ → List ℕ) → Bounds → List ℕ → List ℕ → Result (List Snapshot) Reason
input_read files bounds file name =
    if nat_lt FILE (length (files file)) then Err (file_too_long file) else named name (series_of bounds (files file))

-- the rows before others, unless there was a refusal
abbrev pub with_rows : Result (List Snapshot) Reason → Result (List (List Snapshot)) Reason → Result (List (List Snapshot)) Reason
with_rows (Err why) others = Err why
with_rows (Ok rows) (Err why) = Err why
with_rows (Ok rows) (Ok others) = Ok (rows ∷ others)

-- the rows of all inputs in order, each within the bounds of its place, or the first refusal
abbrev pub inputs_read : (List ℕ → List ℕ) → List Binding → (ℕ → Bounds) → List (List ℕ) → Result (List (List Snapshot)) Reason
inputs_read files binds bounds [] = Ok []
inputs_read files binds bounds (name ∷ names) =
    with_rows (input_read files (bounds 0) (file_of binds name) name) (inputs_read files binds (λ place. bounds (suc place)) names)

-- the arguments bind each input once and nothing else, and these are the rows of the inputs within the bounds
pub record TakesSession (files : List ℕ → List ℕ) (binds : List Binding) (bounds : ℕ → Bounds) (inputs : List (List ℕ))
    (rows : List (List Snapshot)) : Type 0 where
  pub names : faulty_name inputs binds ≡ None
  pub read : inputs_read files binds bounds inputs ≡ Ok rows

-- why inputs have no rows within the bounds: a name is faulty, or else the first series is that is rejected
pub data RefusesSession (files : List ℕ → List ℕ) (binds : List Binding) (bounds : ℕ → Bounds) (inputs : List (List ℕ))
    : Reason → Type 0 where
  by_names : (name : List ℕ) → faulty_name inputs binds ≡ Some name → RefusesSession files binds bounds inputs (input_names name)
  by_series : (why : Reason) → faulty_name inputs binds ≡ None → inputs_read files binds bounds inputs ≡ Err why
      → RefusesSession files binds bounds inputs why

-- the next of these inputs is the input of a bind: no name is faulty, and the inputs before it were taken
pub record IsNextOfSession (files : List ℕ → List ℕ) (binds : List Binding) (bounds : ℕ → Bounds) (inputs : List (List ℕ)) (bind : Binding)
    : Type 0 where
  pub before : List (List ℕ)
  pub after : List (List ℕ)
  pub place : inputs ≡ before ++ bind.name ∷ after
  pub names : faulty_name inputs binds ≡ None
  pub rows : List (List Snapshot)
  pub read : inputs_read files binds bounds before ≡ Ok rows

-- the same of inputs without bounds
abbrev pub TakesInputs : (List ℕ → List ℕ) → List Binding → List (List ℕ) → List (List Snapshot) → Type 0
TakesInputs files binds inputs rows = TakesSession files binds (λ _. no_bounds) inputs rows

-- why inputs have no rows
abbrev pub RefusesInputs : (List ℕ → List ℕ) → List Binding → List (List ℕ) → Reason → Type 0
RefusesInputs files binds inputs why = RefusesSession files binds (λ _. no_bounds) inputs why
