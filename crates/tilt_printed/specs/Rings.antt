-- The text of the run of a code, and how many snapshots its rings hold at most (our own rule).
use Rattle.std.specs.Prelude.{◌++◌, ℕ, List, codes}
use Rattle.std.specs.Fmt.{decimal}
use Rattle.tilt_code.specs.Code.{CodeParts}
use Rattle.tilt_code.specs.Run.{run_of}
use Rattle.tilt_pipe.specs.Rings.{most_ever}
use Rattle.tilt_stream.specs.Snap.{Snapshot}
use Rattle.tilt_stream.specs.Text.{text_of}

-- the line `rings G`
abbrev pub rings_line : ℕ → List ℕ
rings_line most = codes "rings " ++ decimal most ++ codes "\n"

-- the text of the run of a code, and then that line of the most that its rings ever hold
abbrev pub rings_text : CodeParts → List (List Snapshot) → List ℕ
rings_text code rows = text_of (run_of code rows) ++ rings_line (most_ever code rows)
