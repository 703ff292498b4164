-- What holds after status 0.
use Rattle.std.specs.Prelude.{◌≡◌, ◌+◌, ◌++◌, List, ℕ, Option, length}
use Rattle.tilt_app.specs.Change.{ShelfChange, SinkChange}
use Rattle.tilt_app.specs.Saving.{IsSaved}
use Rattle.tilt_printed.specs.Saving.{SaveValue, outcome_of}
use Rattle.tilt_report.specs.Report.{Outcome}

-- a text, and bytes to save if there are any, are the outcome, if the shelf reports what it holds. The text was written whole, and then
-- the bytes were saved. What the sink took beyond the text it still takes
pub record IsDone (is_outcome : Outcome → Type 0) (shelf : ShelfChange) (out : SinkChange) : Type 0 where
  pub text : List ℕ
  pub save : Option SaveValue
  pub outcome : shelf.tells → is_outcome (outcome_of text save)
  pub written : out.tells → out.new ≡ out.old ++ text
  pub saved : IsSaved shelf save
  pub room : (n : ℕ) → out.took (length text + n) → out.takes n
