-- How the state of a run is spelled (our own rule). The state of a run over rows is spelled as a live state. That of a run over readings
-- has its setup and what is kept of its text before that.
use Rattle.std.specs.Prelude.{ℕ, List, [], ◌++◌, Option, None, Some, codes}
use Rattle.tilt_feed_form.specs.declared.feed_form.FeedForm.{FeedForm}
use Rattle.tilt_feed_form.specs.declared.feed_form.FeedForm.TheVariants.{Rows, Readings}
use Rattle.tilt_live_state.specs.Spelling as live
use Rattle.tilt_reading_state.specs.Spelling.{spelled_kept}
use Rattle.tilt_reading_text.specs.Kept.{BareText}
use Rattle.tilt_run_state.specs.Setup.{setup_lines}
use Rattle.tilt_run_state.specs.State.{RunStateParts}

-- the first lines of the states of live runs over rows, and over readings
abbrev pub rows_line : List ℕ
rows_line = codes "tilt live 1\n"

abbrev pub readings_line : List ℕ
readings_line = codes "tilt live 2\n"

-- what the states of runs over readings begin with
abbrev pub opening : FeedForm → List ℕ
opening (Rows options) = []
opening (Readings setup) = readings_line ++ setup_lines setup

-- what is kept of the text of a feed, if something is
abbrev pub kept_lines : Option BareText → List ℕ
kept_lines None = []
kept_lines (Some kept) = spelled_kept kept

-- a state of a run over a feed in this form
abbrev pub spelled : FeedForm → RunStateParts → List ℕ
spelled form s = opening form ++ (kept_lines s.kept ++ live.spelled s.state)
