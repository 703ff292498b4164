-- What is saved after what is printed.
use Rattle.std.specs.Prelude.{List, ℕ, Option, None, Some}
use Rattle.tilt_report.specs.Report.{Outcome, printed, printed_and_saved}

-- bytes that are saved under a name
pub record SaveValue : Type 0 where
  pub name : List ℕ
  pub bytes : List ℕ

-- what is printed, and what is saved after it, if anything is
abbrev pub outcome_of : List ℕ → Option SaveValue → Outcome
outcome_of text None = printed text
outcome_of text (Some save) = printed_and_saved text save.name save.bytes
