-- What is printed, as bytes.
use Rattle.std.specs.Prelude.{◌≡◌, ⊤, List, ℕ}
use Rattle.tilt_code.specs.Run.{run_of}
use Rattle.tilt_pipe.specs.Value.{pipe_after}
use Rattle.tilt_printed.specs.Figures.{watched_text}
use Rattle.tilt_printed.specs.Reached.{corrected_text}
use Rattle.tilt_printed.specs.Rings.{rings_text}
use Rattle.tilt_printed.specs.Sizes.{parted_text}
use Rattle.tilt_printed.specs.declared.printed.Printed.{Printed}
use Rattle.tilt_printed.specs.declared.printed.Printed.TheVariants.{Whole, Run, Rings, Watched}
use Rattle.tilt_printed.specs.declared.whole_text.WholeText.{WholeText}
use Rattle.tilt_printed.specs.declared.whole_text.WholeText.TheVariants.{Snapshots, Lines, Parted, Corrected, Text}
use Rattle.tilt_stream.specs.Text.{lines_of, text_of}
use Rattle.tilt_watch.specs.Watch.{Watch}

-- a text that is made whole
abbrev pub whole_text : WholeText → List ℕ
whole_text (Snapshots list) = text_of list
whole_text (Lines list) = lines_of list
whole_text (Parted list sizes) = parted_text list sizes.items
whole_text (Corrected list reached) = corrected_text list reached.items
whole_text (Text text) = text.items

-- the text that is printed, beside these watchers
abbrev pub printed_text : List Watch → Printed → List ℕ
printed_text watchers (Whole text) = whole_text text
printed_text watchers (Run pipe) = text_of (run_of pipe.code pipe.inputs)
printed_text watchers (Rings pipe) = rings_text pipe.code pipe.inputs
printed_text watchers (Watched pipe) = watched_text watchers (run_of pipe.code pipe.inputs)

-- a pipe has given out nothing so far
abbrev pub IsFresh : Printed → Type 0
IsFresh (Whole text) = ⊤
IsFresh (Run pipe) = pipe ≡ pipe_after pipe.code pipe.inputs 0
IsFresh (Rings pipe) = pipe ≡ pipe_after pipe.code pipe.inputs 0
IsFresh (Watched pipe) = pipe ≡ pipe_after pipe.code pipe.inputs 0

-- it is the text of a pipe, for whose next snapshot memory may run out after a part of it was written
abbrev pub IsStreamed : Printed → Type 0
IsStreamed (Whole text) = ⊥
IsStreamed (Run pipe) = ⊤
IsStreamed (Rings pipe) = ⊤
IsStreamed (Watched pipe) = ⊤
