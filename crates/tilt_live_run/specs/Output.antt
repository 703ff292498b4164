-- What is written for the lines of a feed (our own rule).
use Rattle.std.specs.Prelude.{ℕ, ℤ, Bool, false, if◌then◌else◌, List, [], ◌∷◌, ◌++◌, length, drop, codes, Option, None, Some}
use Rattle.std.specs.Ordering.{int_eq}
use Rattle.tilt_core.specs.Core.{CoreParts}
use Rattle.tilt_feed.specs.Feed.{Feed, empty_feed}
use Rattle.tilt_feed.specs.Printed.{Begun, begun, printed}
use Rattle.tilt_feed_form.specs.Said.{FeedState, after_line, first_state, taken_from}
use Rattle.tilt_live_run.specs.declared.display.Display.{Display}
use Rattle.tilt_live_run.specs.declared.run_options.RunOptions.{RunOptions}
use Rattle.tilt_outside.specs.Counts.{next_count}
use Rattle.tilt_row_text.specs.Lines.{begun_line, lines_in}
use Rattle.tilt_row_text.specs.declared.style.RowStyle.{RowStyle}

-- the line `start,,value` of what has begun, if its value isn't null
abbrev pub begun_lines : RowStyle → ℤ → Option ℤ → List ℕ
begun_lines style start None = []
begun_lines style start (Some value) = begun_line style start value

-- where something has begun, if something has
abbrev pub begun_start : Option Begun → Option ℤ
begun_start None = None
begun_start (Some b) = Some b.start

-- whether it is this tick
abbrev pub is_start : Option ℤ → ℤ → Bool
is_start None tick = false
is_start (Some start) tick = int_eq start tick

-- the line of what has begun, if something else had begun before, or nothing
abbrev pub begun_news : RowStyle → Option ℤ → Option Begun → List ℕ
begun_news style before None = []
begun_news style before (Some b) = if is_start before b.start then [] else begun_lines style b.start b.value

-- what is written when a feed goes on: the lines of what can be printed now and couldn't before. After them, if that is asked for, comes
-- the line of what has begun
abbrev pub news : Display → CoreParts → Feed → Feed → List ℕ
news display core before after =
    lines_in display.style (drop (length (printed core before)) (printed core after))
    ++ (if display.with_begun then begun_news display.style (begun_start (begun core before)) (begun core after) else [])

-- what is written before the first line, after the header: what can be printed by then
abbrev pub first_rows : Display → CoreParts → List ℕ
first_rows display core =
    let feed = empty_feed (length core.inputs) in
    lines_in display.style (printed core feed)
    ++ (if display.with_begun then begun_news display.style None (begun core feed) else [])

-- what is written before the first line: the header, and what can be printed by then
abbrev pub first_news : Display → CoreParts → List ℕ
first_news display core = codes "start,end,value\n" ++ first_rows display core

-- what is written for lines after some, of which the first one has a number
abbrev pub news_from : RunOptions → CoreParts → ℕ → FeedState → List (List ℕ) → List ℕ
news_from options core number state [] = []
news_from options core number state (bytes ∷ lines) =
    let after = after_line options.form core.inputs number bytes state in
    news options.display core state.feed after.feed ++ news_from options core (next_count number) after lines

-- what is written for the lines of a feed, up to the first one that stops the run
abbrev pub output : RunOptions → CoreParts → List (List ℕ) → List ℕ
output options core lines =
    let state = first_state options.form (length core.inputs) in
    first_news options.display core
    ++ news_from options core 0 state (taken_from options.strict options.form core.inputs 0 state lines)
