-- What is kept of a feed of readings, apart from what its readings mean (our own rule).
use Rattle.std.specs.Prelude.{Bool, List, [], ◌∷◌, map}
use Rattle.tilt_conventions.specs.Steps.{Kept}
use Rattle.tilt_conventions.specs.declared.options.Options.{Options}
use Rattle.tilt_reading_feed.specs.Steps.{FeedKept, InputKept}

-- what the converter of each input keeps, in order, and whether the feed is finished
pub record BareKept : Type 0 where
  pub inputs : List Kept
  pub finished : Bool

-- what the readings of each input mean,
abbrev pub options_kept : FeedKept → List Options
options_kept kept = map (λ input. input.options) kept.inputs

-- and what else is kept
abbrev pub bare_kept : FeedKept → BareKept
bare_kept kept = record { inputs = map (λ input. input.kept) kept.inputs; finished = kept.finished }

-- inputs whose readings mean this, and of which this is kept
abbrev pub inputs_with : List Options → List Kept → List InputKept
inputs_with [] inputs = []
inputs_with (o ∷ options) [] = []
inputs_with (o ∷ options) (kept ∷ inputs) = record { options = o; kept = kept } ∷ inputs_with options inputs

-- what is kept of a feed of such inputs
abbrev pub with_options : List Options → BareKept → FeedKept
with_options options kept = record { inputs = inputs_with options kept.inputs; finished = kept.finished }
