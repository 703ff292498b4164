-- What is written and reported for the lines of a feed with keys, and which of them stops the run (our own rule). A line is numbered by how
-- many lines are before it.
use Rattle.std.specs.Prelude.{ℕ, ◌==◌, Bool, ◌||◌, ◌&&◌, if◌then◌else◌, List, [], ◌∷◌, ◌++◌, length, codes, nat_lt}
use Rattle.std.specs.Prelude.{Option, None, Some, is_some, Result, Ok}
use Rattle.std.specs.Option.{option_or}
use Rattle.std.specs.Str.{bytes_eq}
use Rattle.tilt_feed_form.specs.declared.bad_feed_line.BadFeedLine.{BadFeedLine}
use Rattle.tilt_feed_form.specs.declared.bad_feed_line.BadFeedLine.TheVariants as bad
use Rattle.tilt_feed_text.specs.declared.bad_line.BadLine.TheVariants.{TooLong}
use Rattle.tilt_feed_text.specs.declared.pending.TheConstants.{LINE}
use Rattle.tilt_keyed_line.specs.Address.{address}
use Rattle.tilt_keyed_line.specs.Feeds.{KeyedFeed, after_address}
use Rattle.tilt_keyed_line.specs.declared.key_fault.KeyFault.{KeyFault}
use Rattle.tilt_keyed_run.specs.Output.{address_exceeds, address_fault, address_output}
use Rattle.tilt_keyed_run.specs.declared.bad_keyed_line.BadKeyedLine.{BadKeyedLine}
use Rattle.tilt_keyed_run.specs.declared.bad_keyed_line.BadKeyedLine.TheVariants.{OfKey}
use Rattle.tilt_live_keys.specs.Recipe.{key_added, key_fault, key_first}
use Rattle.tilt_live_keys.specs.Report.{keyed_report_of}
use Rattle.tilt_live_keys.specs.declared.key_recipe.KeyRecipe.{KeyRecipe}
use Rattle.tilt_serving.specs.declared.stop.Stop.{Stop}
use Rattle.tilt_serving.specs.declared.stop.Stop.TheVariants.{BadLine, TooManyKeys}
use Rattle.tilt_outside.specs.Counts.{next_count}

-- whether a line is a header, perhaps with a CR at its end
abbrev pub is_header : List ℕ → Bool
is_header bytes = bytes_eq bytes (codes "key,name,start,end,value") || bytes_eq bytes (codes "key,name,start,end,value\r")

-- whether a line is too long
abbrev pub is_long : List ℕ → Bool
is_long bytes = nat_lt LINE (length bytes)

-- whether a line isn't handed to the runs: it is too long, or it is the first line and a header
abbrev pub is_skipped : ℕ → List ℕ → Bool
is_skipped number bytes = is_long bytes || (number == 0 && is_header bytes)

-- a line as it is heard: whether it is too long, and its address. One that is skipped says nothing, as a blank one
pub record Heard : Type 0 where
  pub long : Bool
  pub address : Result (Option (List ℕ × List ℕ)) KeyFault

abbrev pub heard : ℕ → List ℕ → Heard
heard number bytes = record { long = is_long bytes; address = if is_skipped number bytes then Ok None else address bytes }

-- the feed after a line
abbrev pub after_heard : Heard → KeyedFeed → KeyedFeed
after_heard line feed = after_address line.address feed

module _ (recipe : KeyRecipe) where
  -- why a line is bad, if it is
  abbrev pub heard_fault : Heard → KeyedFeed → Option (BadKeyedLine BadFeedLine)
  heard_fault line feed = if line.long then Some (OfKey (bad.Rows TooLong)) else address_fault (key_fault recipe) line.address feed

  -- whether its key is one too many
  abbrev pub heard_exceeds : Heard → KeyedFeed → Bool
  heard_exceeds line feed = address_exceeds recipe.max_keys line.address feed

  -- why the run stops at it, if it does
  abbrev pub heard_stop : Heard → KeyedFeed → Option Stop
  heard_stop line feed =
      if heard_exceeds line feed then Some TooManyKeys
      else if recipe.strict && is_some (heard_fault line feed) then Some BadLine else None

  -- what is written for it, unless the run stops
  abbrev pub heard_output : Heard → KeyedFeed → List ℕ
  heard_output line feed =
      if is_some (heard_stop line feed) then [] else address_output (key_first recipe) (key_added recipe) line.address feed

  -- what is reported of it, by its number: nothing if its key is one too many
  abbrev pub heard_report : ℕ → Heard → KeyedFeed → List ℕ
  heard_report number line feed = if heard_exceeds line feed then [] else keyed_report_of number (heard_fault line feed)

  -- what is written for lines after some, of which the first one has a number, up to the first one that stops the run
  abbrev pub output_from : ℕ → KeyedFeed → List (List ℕ) → List ℕ
  output_from number feed [] = []
  output_from number feed (bytes ∷ lines) =
      let line = heard number bytes in
      heard_output line feed
      ++ (if is_some (heard_stop line feed) then [] else output_from (next_count number) (after_heard line feed) lines)

  -- what is reported of them
  abbrev pub reports_from : ℕ → KeyedFeed → List (List ℕ) → List ℕ
  reports_from number feed [] = []
  reports_from number feed (bytes ∷ lines) =
      let line = heard number bytes in
      heard_report number line feed
      ++ (if is_some (heard_stop line feed) then [] else reports_from (next_count number) (after_heard line feed) lines)

  -- why the run stops at one of them, if it does
  abbrev pub stop_from : ℕ → KeyedFeed → List (List ℕ) → Option Stop
  stop_from number feed [] = None
  stop_from number feed (bytes ∷ lines) =
      let line = heard number bytes in
      option_or (heard_stop line feed) (stop_from (next_count number) (after_heard line feed) lines)

-- of these lines, those that are handed to the runs of keys, up to the first one that stops the run
abbrev pub passed_lines : KeyRecipe → ℕ → KeyedFeed → List (List ℕ) → List (List ℕ)
passed_lines recipe number feed [] = []
passed_lines recipe number feed (bytes ∷ lines) =
    let line = heard number bytes in
    if is_some (heard_stop recipe line feed) then []
    else (if is_skipped number bytes then [] else bytes ∷ []) ++ passed_lines recipe (next_count number) (after_heard line feed) lines

-- the feed after these lines
abbrev pub feed_from : ℕ → KeyedFeed → List (List ℕ) → KeyedFeed
feed_from number feed [] = feed
feed_from number feed (bytes ∷ lines) = feed_from (next_count number) (after_heard (heard number bytes) feed) lines
