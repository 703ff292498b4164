-- What a text of readings can go on from, and which numbers are in range (our own rule).
use Rattle.std.specs.Prelude.{◌≡◌, ◌≤◌, true, ℕ, List, length, drop, ◌++◌, FitsSigned}
use Rattle.std.specs.Int.{w64}
use Rattle.std.specs.List.{AllByRecursion}
use Rattle.std.specs.Option.{ForSome}
use Rattle.tilt_checkpoint.specs.Valid.{IsCell}
use Rattle.tilt_conventions.specs.Resumable.{fits}
use Rattle.tilt_conventions.specs.Steps.{Kept}
use Rattle.tilt_conventions.specs.declared.turn.Reading.{Reading}
use Rattle.tilt_live_state.specs.Valid.{IsCount, IsEdge}
use Rattle.tilt_reading_lines.specs.Rules.{Layout, Values, Named, OfInputs}
use Rattle.tilt_reading_state.specs.Spelling.{spelled_kept}
use Rattle.tilt_reading_text.specs.Kept.{BareText}

-- the converter of each input can go on from what is kept of it
abbrev pub IsResumable : BareText → Type 0
IsResumable kept = AllByRecursion (λ kept. fits kept ≡ true) kept.readings.inputs

-- places are below 2 ^ 63
abbrev pub ArePlaces : Values → Type 0
ArePlaces (Named name value) = IsCount name × IsCount value
ArePlaces (OfInputs places) = AllByRecursion IsCount places

-- so is the number of fields
pub record IsLayout (layout : Layout) : Type 0 where
  pub count : IsCount layout.count
  pub time : IsCount layout.time
  pub values : ArePlaces layout.values

-- the numbers of a reading are those of 64 bits
pub record IsReading (reading : Reading) : Type 0 where
  pub tick : FitsSigned w64 reading.tick
  pub value : IsCell reading.value

-- those of what is kept of an input are, and its count is below 2 ^ 63
pub record HasNumbers (kept : Kept) : Type 0 where
  pub edge : IsEdge kept.edge
  pub mark : FitsSigned w64 kept.mark
  pub latest : ForSome kept.latest IsReading
  pub skipped : IsCount kept.skipped

-- those of what is kept of a text are, and its places and counts are below 2 ^ 63
pub record IsInRange (kept : BareText) : Type 0 where
  pub layout : ForSome kept.layout IsLayout
  pub inputs : AllByRecursion HasNumbers kept.readings.inputs

-- so many bytes at the start of others spell it
pub record IsSpelled (bytes : List ℕ) (kept : BareText) (count : ℕ) : Type 0 where
  pub spelled : bytes ≡ spelled_kept kept ++ drop count bytes
  pub inside : count ≤ length bytes
