-- What a command results in: what is printed, as bytes, and what is saved after it.
use Rattle.std.specs.Prelude.{◌↔◌, List, Option, None, Some, IsSome}
use Rattle.tilt_printed.specs.Saving.{SaveValue, outcome_of}
use Rattle.tilt_printed.specs.Show.{shown_of}
use Rattle.tilt_printed.specs.Text.{IsFresh, IsStreamed, printed_text}
use Rattle.tilt_printed.specs.declared.answered.Answered.{Answered}
use Rattle.tilt_printed.specs.declared.save.Save.{Save}
use Rattle.tilt_report.specs.Report.{Outcome}
use Rattle.tilt_watch.specs.Watch.{Watch}

-- what is saved, as bytes
abbrev pub save_of : Option Save → Option SaveValue
save_of None = None
save_of (Some save) = Some (record { name = save.name.now; bytes = save.bytes.items })

-- what is printed and saved, beside these watchers
abbrev pub comes_to : List Watch → Answered → Outcome
comes_to watchers answer = outcome_of (printed_text watchers answer.printed) (save_of answer.save)

-- the result of a command, of which a pipe has given out nothing so far. It is the text of a pipe exactly under the first condition, and
-- shows snapshots to the watchers exactly under the second. It saves exactly under the third
pub record Fits (streams shows saves : Type 0) (answer : Answered) : Type 0 where
  pub fresh : IsFresh answer.printed
  pub streamed : IsStreamed answer.printed ↔ streams
  pub shown : IsSome (shown_of answer.printed) ↔ shows
  pub saved : IsSome answer.save ↔ saves
