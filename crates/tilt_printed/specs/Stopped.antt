-- Where the text of snapshots ends when not all of it is written, by the rows that the watchers saw: those whose lines were written.
use Rattle.std.specs.Prelude.{◌≡◌, ◌<◌, ◌++◌, ⊤, List, [], ◌∷◌, ℕ, length, codes}
use Rattle.tilt_printed.specs.declared.unput.Unput.{Unput}
use Rattle.tilt_printed.specs.declared.unput.Unput.TheVariants.{Failed, OutOfMemory}
use Rattle.tilt_stream.specs.Snap.{Snapshot}
use Rattle.tilt_stream.specs.Text.{lines_of, row_text}

-- it is shorter than the line of the first of these rows, if there is one
abbrev pub IsShorter : List ℕ → List Snapshot → Type 0
IsShorter more [] = ⊤
IsShorter more (row ∷ rows) = length more < length (row_text row)

-- Among the lines and after them. If a write failed, the lines of the rows that were seen are whole, and less than one more is written. Or
-- one more is whole, and nothing follows it, since its write failed with all of it written. If memory ran out, exactly the lines of these
-- rows are written.
pub data StandsInLines (seen others : List Snapshot) (old new : List ℕ) : Unput → Type 0 where
  in_line : (more : List ℕ) → IsShorter more others → new ≡ old ++ (lines_of seen ++ more) → StandsInLines seen others old new Failed
  at_line_end : (row : Snapshot) (rest : List Snapshot) → others ≡ row ∷ rest → new ≡ old ++ (lines_of seen ++ row_text row)
      → StandsInLines seen others old new Failed
  between_lines : new ≡ old ++ lines_of seen → StandsInLines seen others old new OutOfMemory

-- In the header, before which no row is seen, or after it. If memory ran out, nothing is there, or the whole header.
pub data StandsWhereStopped (why : Unput) (seen others : List Snapshot) (old new : List ℕ) : Type 0 where
  in_header : (part : List ℕ) → why ≡ Failed → length part < length (codes "start,end,value\n") → seen ≡ [] → new ≡ old ++ part
      → StandsWhereStopped why seen others old new
  before_header : why ≡ OutOfMemory → seen ≡ [] → new ≡ old → StandsWhereStopped why seen others old new
  after_header : StandsInLines seen others (old ++ codes "start,end,value\n") new why → StandsWhereStopped why seen others old new
