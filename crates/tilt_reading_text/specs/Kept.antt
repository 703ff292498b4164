-- What is kept of the text of a feed, apart from its form and from what its readings mean (our own rule).
use Rattle.std.specs.Prelude.{List, Option}
use Rattle.tilt_conventions.specs.declared.options.Options.{Options}
use Rattle.tilt_reading_feed.specs.Kept.{BareKept, bare_kept, with_options}
use Rattle.tilt_reading_lines.specs.Rules.{Layout}
use Rattle.tilt_reading_text.specs.Said.{TextKept}

-- where the fields of a line are, if the header has come, and what is kept of the feed
pub record BareText : Type 0 where
  pub layout : Option Layout
  pub readings : BareKept

-- what is kept of a text without what its readings mean,
abbrev pub bare_text : TextKept → BareText
bare_text kept = record { layout = kept.layout; readings = bare_kept kept.feed }

-- and of a text whose readings mean this
abbrev pub text_with : List Options → BareText → TextKept
text_with options bare = record { layout = bare.layout; feed = with_options options bare.readings }
