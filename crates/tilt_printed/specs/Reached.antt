-- The text of snapshots, and which ticks each edit of rows reached (our own rule).
use Rattle.std.specs.Prelude.{◌++◌, ℕ, List, Option, Some, None, codes}
use Rattle.std.specs.Fmt.{signed_decimal}
use Rattle.std.specs.List.{flat_map}
use Rattle.tilt_base.specs.declared.span.Span.{Span}
use Rattle.tilt_stream.specs.Snap.{Snapshot}
use Rattle.tilt_stream.specs.Text.{text_of}

-- the line `reached LO HI`, or `reached none`
abbrev pub reached_line : Option Span → List ℕ
reached_line None = codes "reached none\n"
reached_line (Some span) = codes "reached " ++ signed_decimal span.start ++ codes " " ++ signed_decimal span.end ++ codes "\n"

-- the text of snapshots, and then a line for each edit
abbrev pub corrected_text : List Snapshot → List (Option Span) → List ℕ
corrected_text list reached = text_of list ++ flat_map reached_line reached
